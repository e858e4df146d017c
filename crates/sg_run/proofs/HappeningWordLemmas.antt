-- The initiators of `attention`, by the first word.
use Rattle.std.proofs.Common.{◌≡◌, ◌≤◌, ◌<◌, ℕ, ◌-◌, List, [], ◌∷◌, length, map, take, drop}
use Rattle.std.proofs.Common.{slice_index_or, Bor, Some, refl, arith}
use Rattle.std.proofs.lemmas.List.{take_all}
use Rattle.sg_wire.specs.declared.profile.Profile.TheVariants.{Extended}
use Rattle.sg_run.specs.HappeningVerbs.{and_initiator, initiators_of}
use Rattle.sg_run.specs.InitiatorWord.{initiator_of}
use Rattle.sg_units.specs.Initiators.{no_initiators}

abbrev Words : Type 0
Words = List (Bor (List ℕ))

abbrev texts : Words → List (List ℕ)
texts words = map (λ word. word.now) words

pub nobody : (words : Words) → length words < 1 → initiators_of (texts words) ≡ Some no_initiators
unfolding initiators_of
nobody [] few = refl
nobody (w ∷ ws) few = absurd (omega arith)

pub initiator_first : (words : Words) (d : Bor (List ℕ)) → 1 ≤ length words
    → initiators_of (texts words) ≡ and_initiator
    (initiator_of Extended (slice_index_or words 0 d).now)
    (initiators_of (texts (take (length words - 1) (drop 1 words))))
unfolding initiators_of
initiator_first [] d some = absurd (omega arith)
initiator_first (w ∷ ws) d some =
    let whole : take (length (w ∷ ws) - 1) ws ≡ ws = take_all _ ws (omega arith) in
    rw whole refl

pub ruleset initiator_words = (nobody, initiator_first)
