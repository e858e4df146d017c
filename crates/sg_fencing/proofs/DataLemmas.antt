-- The answer to an operation that does not read does not depend on the data of the blocks.
use Rattle.std.proofs.Common.{◌≡◌, ◌<◌, ℕ, ◌+◌, zero, suc, List, [], ◌∷◌, Bool, true, false, cond}
use Rattle.std.proofs.Common.{Option, Some, None, Ok, refl, sym, ap, ◌∙◌, arith, is_some}
use Rattle.std.proofs.lemmas.Bool.{false≢true}
use Rattle.std.proofs.lemmas.Bool.Decides.{nat_tests}
use Rattle.std.specs.Cmp.{nat_cmp_total}
use Rattle.std.specs.FinMap.{contains_key, get, len, same_map, nat_cmp-IsAntisymmetric}
use Rattle.std.specs.List.{prefix_len, range_with_len}
use Rattle.std.specs.Option.{option_map_or}
use Rattle.std.specs.Prelude.{◌-◌, ◌==◌, min, nat_lt}
use Rattle.sg_wire.specs.FirstBytes.{first_bytes}
use Rattle.sg_wire.specs.declared.extent.Extent.{Extent}
use Rattle.sg_store.specs.Disk.{Contents, IsWellFormed, Mapping, anchored, block_at, lies_in, need}
use Rattle.sg_store.specs.Disk.{remapped}
use Rattle.sg_store.specs.Disk.Mapping.{Data, Anchored}
use Rattle.sg_store.specs.Laws.{RemappingTakesWhatIsNeeded}
use Rattle.sg_wire.specs.LbaStatus.{code_of, status_data}
use Rattle.sg_store.specs.LbaStatus.{count_alike, descriptors_from, max_addresses}
use Rattle.sg_store.specs.LbaStatus.{max_descriptors, status_in}
use Rattle.sg_wire.specs.declared.lba_status.ProvisioningStatus.{ProvisioningStatus}
use Rattle.sg_wire.specs.declared.lba_status.ProvisioningStatus.TheVariants.{Deallocated}
use Rattle.sg_wire.specs.declared.lba_status.StatusDescriptor.{StatusDescriptor}
use Rattle.sg_target.specs.Effect.{no_space, returning_up_to, storing, with_contents}
use Rattle.sg_target.specs.ModeCommands.{changing_modes, mode_parameters, selected_modes}
use Rattle.sg_target.specs.ProvisioningCommands.{changed_in_turn}
use Rattle.sg_target.specs.ReservationCommands.{changing_reservations, reservation_change}
use Rattle.sg_target.specs.Semantics.{medium_use}
use Rattle.sg_target.specs.State.{IsWithinLimits, State}
use Rattle.sg_target.specs.Step.{executed, good, outcome, refused}
use Rattle.sg_target.specs.Charge.{step_by}
use Rattle.sg_target.specs.declared.operation.Operation.{Operation}
use Rattle.sg_target.specs.declared.operation.Operation.TheVariants as operation
use Rattle.sg_target.specs.declared.refusal.Reason.TheVariants.{SpaceAllocationFailed}
use Rattle.sg_target.specs.declared.refusal.Refusal.{Refusal}
use Rattle.sg_target.specs.declared.refusal.Refusal.TheVariants.{CheckCondition}
use Rattle.sg_target.proofs.NeedLemmas.{need-alike}
use Rattle.sg_fencing.specs.Laws.{HaveTheSameStatuses, OnlyReadsReturnData}
use Rattle.sg_fencing.proofs.UnseenLemmas.{luns-alike, report-alike, sound-alike}

-- ---- The addresses that are used

abbrev is_used : ProvisioningStatus → Bool
is_used Deallocated = false
is_used _ = true

used-by-status : (o : Option Mapping) → is_some o ≡ is_used (status_in o)
used-by-status None = refl
used-by-status (Some (Data block)) = refl
used-by-status (Some Anchored) = refl

-- the same addresses are used
record AreAlike (m n : Contents) : Type 0 where
  keys : (q : ℕ) → contains_key m q ≡ contains_key n q
  size : len m ≡ len n

none-outside : (capacity : ℕ) (m : Contents) → IsWellFormed capacity m → (q : ℕ)
    → lies_in 0 capacity q ≡ false → (o : Option Mapping) → get m q ≡ o → get m q ≡ None
none-outside capacity m whole q out None e = e
none-outside capacity m whole q out (Some mapping) e =
    let below : q < capacity = (whole.each q mapping e).0 in
    let inside : lies_in 0 capacity q ≡ true = grind (arith, nat_tests) in
    absurd (false≢true (sym out ∙ inside))

same-all : (lies : Bool) (o p : Option Mapping) → (lies ≡ false → o ≡ None) → (lies ≡ false → p ≡ None)
    → cond lies (Some Anchored) o ≡ cond lies (Some Anchored) p
same-all true o p e f = refl
same-all false o p e f = e refl ∙ sym (f refl)

picked : (lies : Bool) (x y : Mapping) (o p : Option Mapping) → is_some o ≡ is_some p
    → is_some (cond lies (Some x) o) ≡ is_some (cond lies (Some y) p)
picked true x y o p e = refl
picked false x y o p e = e

module _ (law : RemappingTakesWhatIsNeeded) where
  -- once all addresses of the disk are anchored, two maps are the same
  at-first : (capacity : ℕ) (m n : Contents) → IsWellFormed capacity m → IsWellFormed capacity n
      → HaveTheSameStatuses m n → AreAlike m n
  at-first capacity m n whole whole' h =
      let keys = λ (q : ℕ).
      used-by-status (get m q) ∙ (ap is_used (h q) ∙ sym (used-by-status (get n q))) in
      let same : anchored m 0 capacity ≡ anchored n 0 capacity =
      same_map nat_cmp_total nat_cmp-IsAntisymmetric _ _ (λ q.
      law.found m 0 capacity (λ index. Anchored) q
      ∙ (same-all (lies_in 0 capacity q) (get m q) (get n q)
      (λ out. none-outside capacity m whole q out (get m q) refl)
      (λ out. none-outside capacity n whole' q out (get n q) refl)
      ∙ sym (law.found n 0 capacity (λ index. Anchored) q))) in
      let sizes = ap len same in
      let first = law.taken m 0 capacity (λ index. Anchored) in
      let second = law.taken n 0 capacity (λ index. Anchored) in
      let needs : need m 0 capacity ≡ need n 0 capacity =
      need-alike law m n 0 capacity (λ i below. keys (0 + i)) in
      record { keys = keys; size = omega (arith, sizes, first, second, needs) }

  remapped-alike : (m n : Contents) (a k : ℕ) (f g : ℕ → Mapping) → AreAlike m n
      → AreAlike (remapped m a k f) (remapped n a k g)
  remapped-alike m n a k f g h =
      let first = law.taken m a k f in
      let second = law.taken n a k g in
      let needs = need-alike law m n a k (λ i below. h.keys (a + i)) in
      record {
        keys =
            λ q.
            ap is_some (law.found m a k f q)
            ∙ (picked (lies_in a k q) (f (q - a)) (g (q - a)) (get m q) (get n q) (h.keys q)
            ∙ sym (ap is_some (law.found n a k g q)));
        size = omega (arith, first, second, needs, h.size);
      }

  anchored-alike : (m n : Contents) (extents : List Extent) → AreAlike m n
      → AreAlike (changed_in_turn anchored m extents) (changed_in_turn anchored n extents)
  anchored-alike m n [] h = h
  anchored-alike m n (e ∷ es) h =
      anchored-alike (anchored m e.lba e.count) (anchored n e.lba e.count) es
      (remapped-alike m n e.lba e.count (λ index. Anchored) (λ index. Anchored) h)

-- ---- GET LBA STATUS

module _ (m n : Contents) (h : HaveTheSameStatuses m n) (capacity : ℕ) where
  same-count : (lba : ℕ) → count_alike m capacity lba ≡ count_alike n capacity lba
  unfolding count_alike
  same-count lba = λ d.
      prefix_len (λ address. code_of (h address d) == code_of (h lba d))
      (range_with_len lba (min max_addresses (capacity - lba)))

  same-descriptors : (limit lba : ℕ)
      → descriptors_from m capacity lba limit ≡ descriptors_from n capacity lba limit
  unfolding descriptors_from
  same-descriptors zero lba = refl
  same-descriptors (suc limit) lba =
      let count = same-count lba in
      let rest = same-descriptors limit (lba + count_alike m capacity lba)
      ∙ ap (λ k. descriptors_from n capacity (lba + k) limit) count in
      λ d. cond {A = List StatusDescriptor} (nat_lt lba capacity)
      (record { lba = lba; count = count d; status = h lba d } ∷ rest d) []

-- ---- Operations

module _ (law : RemappingTakesWhatIsNeeded) (s : State) (x : Contents) (i : ℕ)
    (w : IsWithinLimits s) (w' : IsWithinLimits (with_contents s x))
    (h : HaveTheSameStatuses s.disk.contents x) where
  abbrev t : State
  t = with_contents s x

  abbrev m : Contents
  m = s.disk.contents

  used : AreAlike m x
  used = at-first law s.disk.capacity m x w.blocks w'.blocks h

  abbrev lack : Bool → Option Refusal
  lack lacks = cond {A = Option Refusal} lacks (Some (CheckCondition SpaceAllocationFailed)) None

  by-lack : (first second : Contents) (lacks : Bool)
      → (option_map_or (refused s i) (lack lacks) (executed (storing s first))).answer
      ≡ (option_map_or (refused t i) (lack lacks) (executed (storing t second))).answer
  by-lack first second true = refl
  by-lack first second false = refl

  stored-alike : (first second : Contents) → len first ≡ len second
      → (outcome s i (Ok (storing s first))).answer ≡ (outcome t i (Ok (storing t second))).answer
  unfolding no_space
  stored-alike first second sizes =
      by-lack first second (nat_lt s.disk.pool (len first))
      ∙ ap
      (λ k. (option_map_or (refused t i) (lack (nat_lt s.disk.pool k))
      (executed (storing t second))).answer)
      sizes

  operation-alike : (o : Operation) → (medium_use o).read ≡ None
      → (step_by s i o).answer ≡ (step_by t i o).answer
  unfolding selected_modes reservation_change
  operation-alike (operation.Read extent) r = cc
  operation-alike (operation.Verify extent) r = cc
  operation-alike (operation.Compare out) r = cc
  operation-alike (operation.CompareEach extent block) r = cc
  operation-alike (operation.CompareAndWrite exchange) r = cc
  operation-alike (operation.OrWrite out) r = cc
  operation-alike (operation.Copy segment) r = cc
  operation-alike (operation.Write out) r =
      stored-alike _ _ (remapped-alike law m x out.extent.lba out.extent.count
      (λ index. Data (block_at out.bytes index)) (λ index. Data (block_at out.bytes index)) used).size
  operation-alike (operation.Fill extent block) r =
      stored-alike _ _ (remapped-alike law m x extent.lba extent.count (λ index. Data block)
      (λ index. Data block) used).size
  operation-alike (operation.Anchor extents) r =
      stored-alike _ _ (anchored-alike law m x extents used).size
  operation-alike (operation.AnchorExtent extent) r =
      stored-alike _ _ (anchored-alike law m x (extent ∷ []) used).size
  operation-alike (operation.ReturnReport report n) r =
      report-alike s x i report n (λ shows. sym used.size)
  operation-alike (operation.ReturnLuns listed n) r = luns-alike s x i listed n
  operation-alike (operation.ReturnLbaStatus start n) r =
      ap (λ (ds : List StatusDescriptor). good (first_bytes n (status_data ds)))
      (same-descriptors m x h s.disk.capacity max_descriptors start)
  operation-alike (operation.ReturnModes request n) r =
      sound-alike s x i (mode_parameters s.modes request) (returning_up_to s n) (returning_up_to t n)
      (λ list. refl)
  operation-alike (operation.ChangeModes ten sp list) r =
      sound-alike s x i (selected_modes s ten sp list) (changing_modes s i) (changing_modes t i)
      (λ modes. refl)
  operation-alike (operation.ChangeReservations action scope_type list) r =
      sound-alike s x i (reservation_change s i action scope_type list) (changing_reservations s i)
      (changing_reservations t i) (λ change. refl)
  operation-alike _ r = refl

pub only-reads : RemappingTakesWhatIsNeeded → OnlyReadsReturnData
only-reads law state contents i o w w' h r =
    sym (operation-alike law state contents i w w' h o r)
