-- The pool has blocks for all addresses.
use Rattle.std.proofs.Common.{◌≡◌, ◌≤◌, ◌<◌, ◌⊎◌, inl, inr, ℕ, ◌+◌, zero, suc, List, [], ◌∷◌}
use Rattle.std.proofs.Common.{Option, Some, None, Bool, true, false, cond, is_some, Result, Ok, Err}
use Rattle.std.proofs.Common.{refl, sym, ap, ap₂, ◌∙◌, arith}
use Rattle.std.specs.Cmp.{nat_cmp_total}
use Rattle.std.specs.FinMap as map
use Rattle.std.specs.FinMap.{len, same_map, nat_cmp-IsAntisymmetric}
use Rattle.std.specs.Prelude.{is_none}
use Rattle.std.proofs.lemmas.Bool.{cases_lt}
use Rattle.std.proofs.lemmas.Bool.Decides.{nat_tests}
use Rattle.sg_wire.specs.declared.extent.Extent.{Extent}
use Rattle.sg_store.specs.Disk.{Contents, Disk, IsOverfull, anchored, lies_in, need, unmapped}
use Rattle.sg_store.specs.Disk.Mapping.{Anchored}
use Rattle.sg_store.specs.Laws.{RemappingTakesWhatIsNeeded, UnmapsEachAddress, UnmapsEachBlock}
use Rattle.sg_target.specs.Checks.{checked_cdb}
use Rattle.sg_target.specs.Effect.{Effect, no_space}
use Rattle.sg_target.specs.ProvisioningCommands.{changed_in_turn}
use Rattle.sg_target.specs.Demands.{extent}
use Rattle.sg_target.specs.Refusal.{checked_next, first_some, when_sound}
use Rattle.sg_target.specs.Semantics.{effect_of}
use Rattle.sg_target.specs.BlockCommands.{miscompare}
use Rattle.sg_target.specs.State.{State}
use Rattle.sg_target.specs.declared.operation.Operation.{Operation}
use Rattle.sg_target.specs.declared.operation.Operation.TheVariants as operation
use Rattle.sg_target.specs.declared.refusal.Refusal.{Refusal}
use Rattle.sg_target.proofs.EachExtentLemmas.{given-mapping}
use Rattle.sg_target.proofs.NeedLemmas.{inside}

-- if no more blocks are mapped than the pool has, there is space
pub space-left : (disk : Disk) → len disk.contents ≤ disk.pool → no_space disk ≡ None
unfolding no_space
space-left disk h = grind (arith, nat_tests)

pub space-unless : (disk : Disk) → (IsOverfull disk → ⊥) → no_space disk ≡ None
space-unless disk h = by-case (cases_lt disk.pool (len disk.contents))
  where
    by-case : (disk.pool < len disk.contents) ⊎ (len disk.contents ≤ disk.pool) → no_space disk ≡ None
    by-case (inl more) = absurd (h more)
    by-case (inr fits) = space-left disk fits

-- if more are, there is none
pub nothing-left : (disk : Disk) → disk.pool < len disk.contents → is_none (no_space disk) ≡ false
unfolding no_space
nothing-left disk h = grind (arith, nat_tests)

pub ruleset room = (space-left)

-- and if there is space, no more are mapped
fits : (disk : Disk) → no_space disk ≡ None → len disk.contents ≤ disk.pool
unfolding no_space
fits disk e = grind (arith, nat_tests)

-- a COMPARE AND WRITE that finds no refusal has space
last-none : (found : Option Refusal) → first_some (found ∷ []) ≡ None → found ≡ None
last-none None e = refl
last-none (Some refusal) e = cc

exchange-none : (difference : Option ℕ) (found : Option Refusal)
    → first_some (miscompare difference ∷ found ∷ []) ≡ None → found ≡ None
exchange-none None found e = last-none found e
exchange-none (Some offset) found e = cc

-- ---- Unmapping takes no block of the pool

-- a range needs a block for each address if no address has one
all-needed : RemappingTakesWhatIsNeeded → (m : Contents) (a k : ℕ)
    → ((i : ℕ) → i < k → map.contains_key m (a + i) ≡ false) → need m a k ≡ k
all-needed law m a zero h = law.of_none m a
all-needed law m a (suc k) h =
    let e : suc k ≡ k + 1 = omega arith in
    rw (e, law.of_one_more m a k) (
    ap₂ (λ (x : ℕ) (b : Bool). x + cond b 0 1)
    (all-needed law m a k (λ i lt. h i (omega arith))) (h k (omega arith)))

skipped : {A : Type 0} (b : Bool) (x y z : A) → cond b x (cond b y z) ≡ cond b x z
skipped true x y z = refl
skipped false x y z = refl

module _ (law : RemappingTakesWhatIsNeeded) (addresses : UnmapsEachAddress)
    (zeros : UnmapsEachBlock) where
  get-unmapped : (m : Contents) (a k q : ℕ)
      → map.get (unmapped m a k) q ≡ cond (lies_in a k q) None (map.get m q)
  get-unmapped m a k q =
      given-mapping (lies_in a k q) None (map.get m q) (map.get (unmapped m a k) q)
      (addresses m a k q) (zeros m a k q)

  -- once the range is anchored, it does not matter what it had before
  same-anchored : (m : Contents) (a k : ℕ) → anchored (unmapped m a k) a k ≡ anchored m a k
  same-anchored m a k = same_map nat_cmp_total nat_cmp-IsAntisymmetric _ _ (λ q.
      law.found (unmapped m a k) a k (λ index. Anchored) q
      ∙ (ap (cond (lies_in a k q) (Some Anchored)) (get-unmapped m a k q)
      ∙ (skipped (lies_in a k q) (Some Anchored) None (map.get m q)
      ∙ sym (law.found m a k (λ index. Anchored) q))))

  len-unmapped : (m : Contents) (a k : ℕ) → len (unmapped m a k) ≤ len m
  len-unmapped m a k =
      let same = ap len (same-anchored m a k) in
      let of_rest = law.taken (unmapped m a k) a k (λ index. Anchored) in
      let of_all = law.taken m a k (λ index. Anchored) in
      let few = law.at_most m a k in
      let all = all-needed law (unmapped m a k) a k (λ i lt.
      ap is_some (get-unmapped m a k (a + i)
      ∙ ap (λ b. cond b None (map.get m (a + i))) (inside a k i lt))) in
      omega (arith, same, of_rest, of_all, few, all)

  in-turn : (m : Contents) (extents : List Extent) → len (changed_in_turn unmapped m extents) ≤ len m
  in-turn m [] = omega arith
  in-turn m (e ∷ es) =
      let one = len-unmapped m e.lba e.count in
      let rest = in-turn (unmapped m e.lba e.count) es in
      omega (arith, one, rest)

  -- ---- An operation that finds no refusal leaves no more used than the pool has

  abbrev pub KeepsSpace : Result Effect Refusal → Type 0
  KeepsSpace (Ok effect) = effect.found ≡ None
      → len effect.after.disk.contents ≤ effect.after.disk.pool
  KeepsSpace (Err refusal) = Unit {0}

  sound-keeps : {A : Type 0} (found : Result A Refusal) (becomes : A → Effect)
      → ((value : A) → len (becomes value).after.disk.contents ≤ (becomes value).after.disk.pool)
      → KeepsSpace (when_sound found becomes)
  sound-keeps (Ok value) becomes h = λ none. h value
  sound-keeps (Err refusal) becomes h = tt

  operation-keeps : (state : State) (i : ℕ) (o : Operation) → len state.disk.contents ≤ state.disk.pool
      → KeepsSpace (effect_of state i o)
  operation-keeps state i (operation.Write out) h = fits _
  operation-keeps state i (operation.CompareAndWrite exchange) h =
      λ none. fits _ (exchange-none _ _ none)
  operation-keeps state i (operation.OrWrite out) h = fits _
  operation-keeps state i (operation.Copy segment) h = fits _
  operation-keeps state i (operation.Fill extent block) h = fits _
  operation-keeps state i (operation.Anchor extents) h = fits _
  operation-keeps state i (operation.AnchorExtent extent) h = fits _
  operation-keeps state i (operation.Unmap extents) h =
      λ none. let fewer = in-turn state.disk.contents extents in omega (arith, fewer, h)
  operation-keeps state i (operation.UnmapExtent extent) h =
      λ none. let fewer = in-turn state.disk.contents (extent ∷ []) in omega (arith, fewer, h)
  operation-keeps state i (operation.UnmapAll blocks) h =
      λ none. let fewer = in-turn state.disk.contents (extent 0 blocks ∷ []) in omega (arith, fewer, h)
  operation-keeps state i (operation.ReturnModes request n) h = sound-keeps _ _ (λ list. h)
  operation-keeps state i (operation.ChangeModes width sp list) h = sound-keeps _ _ (λ modes. h)
  operation-keeps state i (operation.ChangeReservations action scope_type list) h =
      sound-keeps _ _ (λ change. h)
  operation-keeps state i _ h = λ none. h

  pub by-checks : (state : State) (i : ℕ) (checked : Result Operation Refusal)
      → len state.disk.contents ≤ state.disk.pool
      → KeepsSpace (checked_next checked (effect_of state i))
  by-checks state i (Ok o) h = operation-keeps state i o h
  by-checks state i (Err refusal) h = tt

  pub keeps-space : (state : State) (i : ℕ) (cdb data_out : List ℕ)
      → len state.disk.contents ≤ state.disk.pool
      → KeepsSpace (checked_next (checked_cdb state i cdb data_out) (effect_of state i))
  keeps-space state i cdb data_out h = by-checks state i (checked_cdb state i cdb data_out) h
