-- What a crash at any moment of a call leaves.
use Rattle.std.proofs.Common.{inl, inr, ⊎_elim, ℕ, List, arith}
use Rattle.std.specs.Prelude.{Result, Ok, Err, OnOk}
use Rattle.sg_journal.specs.Device.{LeavesOnly}

module _ {D : Type 0} (moment : D → ℕ) (left_since : D → ℕ → List ℕ → Type 0) where
  pub weaker : (old new : D) (P R : List ℕ → Type 0) → LeavesOnly moment left_since old new P
      → ((c : List ℕ) → P c → R c) → LeavesOnly moment left_since old new R
  weaker old new P R leaves each = record {
    later = leaves.later;
    each = λ c left. each c (leaves.each c left);
    before = λ t c le left. ⊎_elim inl (λ had. inr (each c had)) (leaves.before t c le left);
  }

  -- no call at all, on a file of which each crash leaves what has P
  pub no-call : (may_leave : List ℕ → Type 0) (file : D) (P : List ℕ → Type 0)
      → ((c : List ℕ) → may_leave c → P c)
      → ((c : List ℕ) → left_since file (moment file) c → may_leave c)
      → LeavesOnly moment left_since file file P
  no-call may_leave file P holds now = record {
    later = omega arith;
    each = λ c left. holds c (now c left);
    before = λ t c le left. inl left;
  }

pub on-ok : {T E P Q : Type 0} (r : Result T E) → (P → Q) → OnOk r P → OnOk r Q
on-ok (Ok x) f p = f p
on-ok (Err e) f p = p

pub on-ok-both : {T E P Q R : Type 0} (r : Result T E) → (P → Q → R) → OnOk r P → OnOk r Q → OnOk r R
on-ok-both (Ok x) f p q = f p q
on-ok-both (Err e) f p q = q
