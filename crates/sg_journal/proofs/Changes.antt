-- What a crash leaves of one change of a file.
use Rattle.std.proofs.Common.{◌≡◌, ℕ, ◌+◌, ◌≤◌, List, [], ◌++◌, length, take, drop, sym, ◌∙◌, ap}
use Rattle.std.proofs.Common.{arith, append_assoc, length-append, length-drop, length-take}
use Rattle.std.proofs.Common.{take-append-drop}
use Rattle.std.proofs.lemmas.List.{append-nil, drop_at, drop-drop, take_all, take_at, take-take}
use Rattle.sg_journal.specs.Device.{Holds, Torn, Cut}
use Rattle.sg_journal.specs.Journal.{HasFirst, IsGrown, IsPut, IsCut}

pub grown_none : (n : ℕ) (old : List ℕ) → IsGrown n old old
grown_none n old = record { more = []; is = sym (append-nil old); short = omega arith }

pub torn_grown : (at n : ℕ) (old c : List ℕ) → at ≡ length old → Torn at n old c → IsGrown n old c
torn_grown at n old c is torn = record {
  more = drop at c;
  is =
      sym (take-append-drop at c)
      ∙ ap (λ (l : List ℕ). l ++ drop at c) (torn.before ∙ take_all at old (omega arith));
  short = omega (arith, length-drop at c, torn.no_longer);
}

-- a list in three parts
three : (at n : ℕ) (l : List ℕ) → l ≡ take at l ++ take n (drop at l) ++ drop (at + n) l
three at n l =
    sym (take-append-drop at l)
    ∙ ap (λ (r : List ℕ). take at l ++ r) (sym (take-append-drop n (drop at l)))
    ∙ sym (append_assoc (take at l) (take n (drop at l)) (drop n (drop at l)))
    ∙ ap (λ (r : List ℕ). take at l ++ take n (drop at l) ++ r) (drop-drop n at l)

pub put_none : (at n : ℕ) (old : List ℕ) → at + n ≤ length old → IsPut at n old old
put_none at n old within = record {
  bytes = take n (drop at old);
  size = omega (arith, length-take n (drop at old), length-drop at old);
  is = three at n old;
}

pub torn_put : (at n : ℕ) (old c : List ℕ) → at + n ≤ length old → Torn at n old c
    → IsPut at n old c
torn_put at n old c within torn = record {
  bytes = take n (drop at c);
  size = omega (arith, length-take n (drop at c), length-drop at c, torn.no_shorter);
  is =
      three at n c
      ∙ ap (λ (l : List ℕ). l ++ take n (drop at c) ++ drop (at + n) c) torn.before
      ∙ ap (λ (l : List ℕ). take at old ++ take n (drop at c) ++ l) torn.behind;
}

-- ---- Two writes, one after the other

pub holds_both : (at : ℕ) (file g b mid new : List ℕ) → at + length g ≤ length file
    → Holds file at g mid → Holds mid (at + length g) b new → Holds file at (g ++ b) new
holds_both at file g b mid new fits first second =
    let n : ℕ = at + length g in
    let front : length (take at file ++ g) ≡ n =
    omega (arith, length-append (take at file) g, length-take at file) in
    let before : take n mid ≡ take at file ++ g =
    ap (take n) first ∙ take_at (take at file ++ g) (drop n file) n front in
    let behind : drop (n + length b) mid ≡ drop (n + length b) file =
    sym (drop-drop (length b) n mid)
    ∙ ap (drop (length b)) (ap (drop n) first ∙ drop_at (take at file ++ g) (drop n file) n front)
    ∙ drop-drop (length b) n file in
    let e : n + length b ≡ at + length (g ++ b) = omega (arith, length-append g b) in
    second ∙ ap (λ (l : List ℕ). l ++ b ++ drop (n + length b) mid) before
    ∙ ap (λ (l : List ℕ). take at file ++ g ++ b ++ l) behind
    ∙ ap (λ (m : ℕ). take at file ++ g ++ b ++ drop m file) e
    ∙ ap (λ (l : List ℕ). l ++ drop (at + length (g ++ b)) file) (append_assoc (take at file) g b)

pub first_first : (at n : ℕ) (old mid : List ℕ → Type 0) → at ≤ n
    → ((d : List ℕ) → mid d → HasFirst at old d) → (c : List ℕ) → HasFirst n mid c
    → HasFirst at old c
first_first at n old mid le first c second =
    let from = first second.0 second.1 in (
      from.0,
      from.1,
      sym (take-take at n c le) ∙ ap (take at) second.2 ∙ take-take at n second.0 le ∙ from.2,
    )

-- ---- A cut

pub cut_none : (n : ℕ) (old : List ℕ) → n ≤ length old → IsCut n old old
cut_none n old within =
    record {
      left = length old;
      no_less = within;
      is =
          sym (take_all (length old) old (omega arith));
    }

pub cut_is : (n : ℕ) (old c : List ℕ) → Cut n old c → IsCut n old c
cut_is n old c cut = record { left = length c; no_less = cut.no_shorter; is = sym cut.front }
