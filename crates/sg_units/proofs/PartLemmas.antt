-- A part for each registration, put one after the other.
use Rattle.std.proofs.Common.{◌≡◌, ◌<◌, ◌+◌, ℕ, List, [], ◌∷◌, ◌++◌, length, take, get_or, sym, ap, ◌∙◌}
use Rattle.std.specs.List.{flat_map}
use Rattle.std.proofs.lemmas.Grind.{flat_map-append}
use Rattle.std.proofs.lemmas.List.{append-nil, take_more}
use Rattle.sg_wire.specs.CutAnswer.{CutAnswer, put}
use Rattle.sg_wire.specs.Laws.{PartsArePutInTurn}
use Rattle.sg_units.specs.declared.registrations.Registration.{Registration}

pub flat_map-one_more : (part : Registration → List ℕ) (xs : List Registration) (i : ℕ)
    (x : Registration) → i < length xs → x ≡ get_or xs i x
    → flat_map part (take i xs) ++ part x ≡ flat_map part (take (i + 1) xs)
flat_map-one_more part xs i x h e =
    let more : take (i + 1) xs ≡ take i xs ++ x ∷ [] =
    take_more xs i x h ∙ ap (λ y. take i xs ++ y ∷ []) (sym e) in
    let bytes = flat_map part (take i xs) in
    sym (
    ap (flat_map part) more
    ∙ (flat_map-append part (take i xs) (x ∷ [])
    ∙ ap (λ b. bytes ++ b) (append-nil (part x))))

pub put-one_more : PartsArePutInTurn → (part : Registration → List ℕ) (a b : CutAnswer)
    (xs : List Registration) (i : ℕ) (x : Registration) → i < length xs → x ≡ get_or xs i x
    → b ≡ put a (flat_map part (take i xs))
    → put b (part x) ≡ put a (flat_map part (take (i + 1) xs))
put-one_more law part a b xs i x h e so_far =
    ap (λ k. put k (part x)) so_far
    ∙ (law.in_turn a (flat_map part (take i xs)) (part x)
    ∙ ap (put a) (flat_map-one_more part xs i x h e))
