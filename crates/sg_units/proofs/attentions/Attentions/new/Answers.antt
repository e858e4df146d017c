use Prim.{search}
use Rattle.std.proofs.Common.{rules, ◌≡◌, ◌<◌, ℕ, zero, suc, List, [], ◌∷◌, length, get_or, map, replicate}
use Rattle.std.proofs.Common.{refl, sym, subst, arith}
use Rattle.sg_wire.specs.Initiator.{initiator_count}
use Rattle.sg_units.specs.Attentions.{ArePending}
use Rattle.sg_units.specs.declared.unit_attention.UnitAttention.TheVariants.{PowerOn}
use Rattle.sg_units.proofs.AttentionLemmas.{ArePending-power_on}
use Rattle.sg_units.proofs.attentions.Attentions.new.Goals as goal

-- a list whose elements look alike
made-alike : {A B : Type 0} (f : A → B) (x : B) (n : ℕ) (ys : List A) → length ys ≡ n
    → ((i : ℕ) (e : A) → i < n → f (get_or ys i e) ≡ x) → map f ys ≡ replicate n x
made-alike f x zero [] l h = refl
made-alike f x zero (y ∷ ys) l h = absurd (omega arith)
made-alike f x (suc n) [] l h = absurd (omega arith)
made-alike f x (suc n) (y ∷ ys) l h = λ d.
    h 0 y (omega arith) d ∷ made-alike f x n ys (omega arith) (λ i e lt. h (suc i) e (omega arith)) d

pub returns-clause-pending : goal.returns-clause-pending
returns-clause-pending c =
    let made = c.from_fn.ensures.items in
    made-alike (λ queue. queue.items) (PowerOn ∷ []) initiator_count c.from_fn.result made.long
    (λ i e less.
    let called = made.at i e less in
    search rules)

pub invariant_of-result : goal.invariant_of-result
invariant_of-result c = subst ArePending (sym (returns-clause-pending c)) ArePending-power_on

pub returns-clause-limits : goal.returns-clause-limits
returns-clause-limits c = invariant_of-result c
