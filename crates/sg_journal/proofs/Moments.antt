-- How a run of device calls goes on.
use Rattle.std.proofs.Common.{inl, inr, ⊎_elim, ℕ, List, sym, subst, arith}
use Rattle.std.specs.Prelude.{Result, Ok, Err, OnOk}
use Rattle.sg_journal.specs.Device.{Elapses, LeavesOnly, Only, Follows, NoMore, NoMoreBut}

module _ {D : Type 0} (moment : D → ℕ) (left_since : D → ℕ → List ℕ → Type 0) where
  -- before the first call
  pub started : (old : D) (P : List ℕ → Type 0)
      → ((c : List ℕ) → left_since old (moment old) c → P c)
      → LeavesOnly moment left_since old old P
  started old P here = record { later = omega arith; each = here; before = λ t c le left. inl left }

  -- one call more, after which a crash leaves what has P
  pub goes_on : (old mid new : D) (P may_leave : List ℕ → Type 0)
      → LeavesOnly moment left_since old mid P
      → Elapses (moment mid) (moment new) (left_since mid) (left_since new) may_leave
      → ((c : List ℕ) → may_leave c → P c) → LeavesOnly moment left_since old new P
  goes_on old mid new P may_leave so_far time here = record {
    later = omega (arith, so_far.later, time.later);
    each = λ c left. ⊎_elim (so_far.each c) (here c)
        (time.nothing_else (moment old) c so_far.later left);
    before = λ t c le left. ⊎_elim (so_far.before t c le) (λ now. inr (here c now))
        (time.nothing_else t c (omega (arith, le, so_far.later)) left);
  }

  -- a whole call behind another
  pub then_leaves : (old mid new : D) (P Q R : List ℕ → Type 0)
      → LeavesOnly moment left_since old mid P → LeavesOnly moment left_since mid new Q
      → ((c : List ℕ) → P c → R c) → ((c : List ℕ) → Q c → R c)
      → LeavesOnly moment left_since old new R
  then_leaves old mid new P Q R first second from_first from_second = record {
    later = omega (arith, first.later, second.later);
    each = λ c left. ⊎_elim (λ was. from_first c (first.each c was)) (from_second c)
        (second.before (moment old) c first.later left);
    before = λ t c le left. ⊎_elim (λ was. ⊎_elim inl (λ had. inr (from_first c had))
        (first.before t c le was)) (λ had. inr (from_second c had))
        (second.before t c (omega (arith, le, first.later)) left);
  }

  pub weaker : (old new : D) (P R : List ℕ → Type 0) → LeavesOnly moment left_since old new P
      → ((c : List ℕ) → P c → R c) → LeavesOnly moment left_since old new R
  weaker old new P R leaves each = record {
    later = leaves.later;
    each = λ c left. each c (leaves.each c left);
    before = λ t c le left. ⊎_elim inl (λ had. inr (each c had)) (leaves.before t c le left);
  }

  -- nothing at all, on a file that is on the disk
  pub nothing_yet : (seen : List ℕ) (may_leave : List ℕ → Type 0) (old : D) (P : List ℕ → Type 0)
      → Only seen may_leave → ((c : List ℕ) → left_since old (moment old) c → may_leave c) → P seen
      → LeavesOnly moment left_since old old P
  nothing_yet seen may_leave old P only only_now holds =
      started old P (λ c left. subst P (sym (only c (only_now c left))) holds)

  -- one device call on such a file
  pub record After (old new : D) (may_leave P : List ℕ → Type 0) : Type 0 where
    pub leaves : LeavesOnly moment left_since old new P
    pub now : (c : List ℕ) → may_leave c → P c

  pub called : (step : List ℕ → List ℕ → Type 0) (seen : List ℕ) (may_leave after : List ℕ
      → Type 0) (old new : D) (P : List ℕ → Type 0) → Only seen may_leave
      → ((c : List ℕ) → left_since old (moment old) c → may_leave c)
      → Elapses (moment old) (moment new) (left_since old) (left_since new) after
      → Follows step may_leave after
      → P seen → ((c : List ℕ) → step seen c → P c) → After old new after P
  called step seen may_leave after old new P only only_now time follows holds each =
      let here : (c : List ℕ) → after c → P c = λ c left. let from = follows c left in
      each c (subst (λ f. step f c) (only from.0 from.1) from.2) in
      record {
        leaves = goes_on old old new P after
            (nothing_yet seen may_leave old P only only_now holds) time here;
        now = here;
      }

  -- one call that changes nothing, on a file that is on the disk
  pub looked : (seen : List ℕ) (may_leave after : List ℕ → Type 0) (old new : D) (P : List ℕ
      → Type 0) → Only seen may_leave
      → ((c : List ℕ) → left_since old (moment old) c → may_leave c)
      → Elapses (moment old) (moment new) (left_since old) (left_since new) after
      → NoMore may_leave after
      → P seen → LeavesOnly moment left_since old new P
  looked seen may_leave after old new P only only_now time crash holds =
      goes_on old old new P after (nothing_yet seen may_leave old P only only_now holds) time
      (λ c now. subst P (sym (only c (crash c now))) holds)

  -- one call that exchanges all, on a file that is on the disk
  pub exchanged : (seen bytes : List ℕ) (may_leave after : List ℕ → Type 0) (old new : D)
      (P : List ℕ → Type 0) → Only seen may_leave
      → ((c : List ℕ) → left_since old (moment old) c → may_leave c)
      → Elapses (moment old) (moment new) (left_since old) (left_since new) after
      → NoMoreBut bytes may_leave after
      → P seen → P bytes → LeavesOnly moment left_since old new P
  exchanged seen bytes may_leave after old new P only only_now time crash holds then =
      goes_on old old new P after (nothing_yet seen may_leave old P only only_now holds) time
      (λ c now. ⊎_elim (λ was. subst P (sym (only c was)) holds) (λ is. subst P (sym is) then)
      (crash c now))

-- ---- A call that returned Ok

pub on_ok_weaker : {T E P Q : Type 0} (r : Result T E) → (P → Q) → OnOk r P → OnOk r Q
on_ok_weaker (Ok x) f p = f p
on_ok_weaker (Err e) f p = p

pub on_ok_both : {T E P Q R : Type 0} (r : Result T E) → (P → Q → R) → OnOk r P → OnOk r Q
    → OnOk r R
on_ok_both (Ok x) f p q = f p q
on_ok_both (Err e) f p q = q
