-- What heals an armed fault.
use Rattle.std.proofs.Common.{◌≡◌, inl, inr, ℕ, zero, suc, ◌-◌, Bool, true, false, not, ◌&&◌, List, [], ◌∷◌}
use Rattle.std.proofs.Common.{Option, Some, None, Result, Ok, Err, refl, sym, ap, ◌∙◌, subst, get_or, set}
use Rattle.std.proofs.Common.{map}
use Rattle.std.specs.List.{list_any}
use Rattle.std.specs.Option.{option_map_or}
use Rattle.std.specs.Prelude.{if◌then◌else◌, is_none, is_some, nat_lt, option_map}
use Rattle.std.specs.Prelude.{slice_get, ◌||◌, ◌==◌}
use Rattle.sg_wire.specs.CdbDecoding.{command_in}
use Rattle.sg_wire.specs.declared.extent.Extent.{Extent}
use Rattle.sg_faults.specs.Arming.{is_spent, next_count, spent}
use Rattle.sg_faults.specs.Faults.{Faults, after_asking, asked, decided, healed, healed_slot, met}
use Rattle.sg_faults.specs.Faults.{struck_in}
use Rattle.sg_faults.specs.Meeting.{Seen, heals, meets, one_contains, reaches_medium}
use Rattle.sg_faults.specs.Places.{At, afterwards, at_medium, on_arrival}
use Rattle.sg_faults.specs.declared.fault.ArmedFault.{ArmedFault}
use Rattle.sg_faults.specs.declared.fault.BadBlocks.{BadBlocks}
use Rattle.sg_faults.specs.declared.fault.Count.{Count}
use Rattle.sg_faults.specs.declared.fault.Fault.{Fault}
use Rattle.sg_faults.specs.declared.outcome.Afterwards.{Afterwards}
use Rattle.sg_faults.specs.declared.outcome.AtMedium.{AtMedium}
use Rattle.sg_faults.specs.declared.outcome.OnArrival.{OnArrival}
use Rattle.sg_faults.specs.declared.outcome.Struck.{Struck}
use Rattle.sg_target.specs.Armed.{Armed, Attempt, afterwards_step, armed_step}
use Rattle.sg_target.specs.Armed.{arrival_attempt, attempt, attempt_of, checked_attempt}
use Rattle.sg_target.specs.Armed.{fault_by, finished_if_good, first_blocks, lacks_room, marked_by}
use Rattle.sg_target.specs.Armed.{medium_attempt, seen, step_of_checked}
use Rattle.sg_target.specs.Checks.{checked_cdb}
use Rattle.sg_target.specs.FaultLaws.{HealsByWrites, HealsWhatItOverwrites, IsExecutedAs}
use Rattle.sg_target.specs.FaultLaws.{OnlyOverwritingHeals, is_write_long}
use Rattle.sg_target.specs.Semantics.{medium_use}
use Rattle.sg_target.specs.State.{profile_of}
use Rattle.sg_target.specs.Step.{Step}
use Rattle.sg_target.specs.declared.operation.Operation.{Operation}
use Rattle.sg_target.specs.declared.operation.Operation.TheVariants as operation
use Rattle.sg_target.specs.declared.refusal.Refusal.{Refusal}
use Rattle.sg_target.specs.declared.reply.Status.{Status}
use Rattle.sg_target.specs.declared.reply.Status.TheVariants.{Good}
use Rattle.sg_target.proofs.ArmedLemmas.{of-both}
use Rattle.sg_target.proofs.FaultLawLemmas.{Tried, is-tried}
use Rattle.sg_target.proofs.LiftLemmas.{not_good}
use Rattle.sg_target.proofs.MarkingLemmas.{only-write-long}

-- ---- A count without a limit

abbrev is_unlimited : Count → Bool
is_unlimited count = is_none count.times

or-both : (a b c d : Bool) → (a ≡ true → c ≡ true) → (b ≡ true → d ≡ true) → (a || b) ≡ true
    → (c || d) ≡ true
or-both true b c d l r h = ap (λ x. x || d) (l refl)
or-both false b c d l r h = by c (r h)
  where
    by : (c : Bool) → d ≡ true → (c || d) ≡ true
    by true e = refl
    by false e = e

left-unlimited : (times : Option ℕ) → is_none times ≡ true
    → is_none (option_map (λ n. n - 1) times) ≡ true
left-unlimited None e = refl
left-unlimited (Some n) e = cc

next-unlimited : (count : Count) → is_unlimited count ≡ true → is_unlimited (next_count count) ≡ true
next-unlimited count e = by-skip (nat_lt 0 count.skip)
  where
    by-skip : (waits : Bool) → is_unlimited (if waits then record count { skip = count.skip - 1 }
        else record count { times = option_map (λ times. times - 1) count.times }) ≡ true
    by-skip true = e
    by-skip false = left-unlimited count.times e

unspent : (times : Option ℕ) → is_none times ≡ true
    → not (option_map_or (λ n. n == 0) times false) ≡ true
unspent None e = refl
unspent (Some n) e = cc

some-unspent : (counts : List Count) → list_any is_unlimited counts ≡ true
    → list_any (λ count. not (is_spent count)) counts ≡ true
some-unspent [] h = h
some-unspent (count ∷ counts) h =
    or-both (is_unlimited count) (list_any is_unlimited counts) _ _ (unspent count.times)
    (some-unspent counts) h

keep : (b : Bool) → b ≡ true → b ≡ true
keep b h = h

some-next : (counts : List Count) (i : ℕ) → list_any is_unlimited counts ≡ true
    → list_any is_unlimited (set counts i (next_count (get_or counts i spent))) ≡ true
some-next [] zero h = h
some-next [] (suc i) h = h
some-next (count ∷ counts) zero h =
    or-both (is_unlimited count) (list_any is_unlimited counts) _ _ (next-unlimited count)
    (keep (list_any is_unlimited counts)) h
some-next (count ∷ counts) (suc i) h =
    or-both (is_unlimited count) (list_any is_unlimited counts) _ _ (keep (is_unlimited count))
    (some-next counts i) h

-- ---- A fault that is asked

module _ (fault : Fault) (blocks : Extent) where
  later : (slot : Option ArmedFault) (faults : Faults) (n : ℕ) → HealsByWrites faults n fault blocks
      → HealsByWrites (slot ∷ faults) (suc n) fault blocks
  later slot faults n h = record {
    armed = h.armed;
    at_number = h.at_number;
    fault_is = h.fault_is;
    blocks_are = h.blocks_are;
    unlimited = h.unlimited;
  }

  before : (slot : Option ArmedFault) (faults : Faults) (n : ℕ)
      → HealsByWrites (slot ∷ faults) (suc n) fault blocks → HealsByWrites faults n fault blocks
  before slot faults n h = record {
    armed = h.armed;
    at_number = h.at_number;
    fault_is = h.fault_is;
    blocks_are = h.blocks_are;
    unlimited = h.unlimited;
  }

  record IsKept (a now : ArmedFault) : Type 0 where
    fault_is : now.fault ≡ a.fault
    unlimited : list_any is_unlimited now.counts ≡ true

  module _ {A : Type 0} (at : At A) (command : Seen) where
    met-kept : (a : ArmedFault) → list_any is_unlimited a.counts ≡ true → IsKept a (met at command a)
    met-kept a h =
        of-both (IsKept a) (is_some (at a.fault.outcome) && meets command a.fault)
        (record { fault_is = refl; unlimited = some-next a.counts command.initiator h })
        (record { fault_is = refl; unlimited = h })

    asked-slot : (slot : Option ArmedFault) (a : ArmedFault) (rest : Faults) → slot ≡ Some a
        → list_any is_unlimited a.counts ≡ true
        → slice_get (after_asking at command slot ∷ rest) 0 ≡ Some (Some (met at command a))
    asked-slot slot a rest e h =
        ap (λ s. Some (after_asking at command s)) e
        ∙ ap (λ b. Some (if b then Some (met at command a) else None))
        (some-unspent (met at command a).counts (met-kept a h).unlimited)

    pub asked-stays : (faults : Faults) (n : ℕ) → HealsByWrites faults n fault blocks
        → HealsByWrites (asked at command faults) n fault blocks
    asked-stays [] n h = let none = h.at_number in cc
    asked-stays (slot ∷ faults) zero h =
        let same : slot ≡ Some h.armed = let e = h.at_number in cc in
        let kept = met-kept h.armed h.unlimited in
        let rest = if is_some (struck_in at command slot) then faults else asked at command faults in
        record {
          armed = met at command h.armed;
          at_number = asked-slot slot h.armed rest same h.unlimited;
          fault_is = kept.fault_is ∙ h.fault_is;
          blocks_are = h.blocks_are;
          unlimited = kept.unlimited;
        }
    asked-stays (slot ∷ faults) (suc n) h =
        let rest = if is_some (struck_in at command slot) then faults else asked at command faults in
        later (after_asking at command slot) rest n
        (of-both (λ (rest : Faults). HealsByWrites rest n fault blocks)
        (is_some (struck_in at command slot)) (before slot faults n h)
        (asked-stays faults n (before slot faults n h)))

    -- a free number stays free
    pub asked-free : (faults : Faults) (n : ℕ) → slice_get faults n ≡ Some None
        → slice_get (asked at command faults) n ≡ Some None
    asked-free [] n h = cc
    asked-free (slot ∷ faults) zero h =
        let none : slot ≡ None = cc in ap (λ s. Some (after_asking at command s)) none
    asked-free (slot ∷ faults) (suc n) h =
        of-both (λ (rest : Faults). slice_get rest n ≡ Some None)
        (is_some (struck_in at command slot)) h (asked-free faults n h)

  -- ---- A command that is executed

  healed-at : (command : Seen) (faults : Faults) (n : ℕ) (slot : Option ArmedFault)
      → slice_get faults n ≡ Some slot
      → slice_get (map (healed_slot command) faults) n ≡ Some (healed_slot command slot)
  healed-at command [] n slot h = cc
  healed-at command (first ∷ faults) zero slot h = let e : first ≡ slot = cc in
      ap (λ s. Some (healed_slot command s)) e
  healed-at command (first ∷ faults) (suc n) slot h = healed-at command faults n slot h

  abbrev is_healed : Seen → Bool
  is_healed command = one_contains command.overwritten blocks

  slot-healed : (command : Seen) (faults : Faults) (n : ℕ) (h : HealsByWrites faults n fault blocks)
      → slice_get (healed command faults) n
      ≡ Some (if is_healed command then None else Some h.armed)
  unfolding healed
  slot-healed command faults n h =
      healed-at command faults n (Some h.armed) h.at_number
      ∙ ap
      (λ (bad : Option BadBlocks). Some (if option_map_or (heals command) bad false then None
      else Some h.armed))
      (ap (λ (f : Fault). f.blocks) h.fault_is ∙ h.blocks_are)

  healed-stays : (command : Seen) (faults : Faults) (n : ℕ) → is_healed command ≡ false
      → HealsByWrites faults n fault blocks → HealsByWrites (healed command faults) n fault blocks
  healed-stays command faults n e h = record {
    armed = h.armed;
    at_number =
        slot-healed command faults n h
        ∙ ap (λ b. Some (if b then None else Some h.armed)) e;
    fault_is = h.fault_is;
    blocks_are = h.blocks_are;
    unlimited = h.unlimited;
  }

  healed-goes : (command : Seen) (faults : Faults) (n : ℕ) → is_healed command ≡ true
      → HealsByWrites faults n fault blocks → slice_get (healed command faults) n ≡ Some None
  healed-goes command faults n e h =
      slot-healed command faults n h ∙ ap (λ b. Some (if b then None else Some h.armed)) e

  after-faults : (struck : Option (Struck Afterwards)) (done : Step) (faults : Faults)
      → (afterwards_step struck done faults).after.faults ≡ faults
  after-faults None done faults = refl
  after-faults (Some struck) done faults = refl

  abbrev Stay : ℕ → Faults → Type 0
  Stay n faults = HealsByWrites faults n fault blocks

  finished-stays : (status : Status) (command : Seen) (faults : Faults) (done : Step) (n : ℕ)
      → (status ≡ Good → is_healed command ≡ false) → Stay n faults
      → Stay n (finished_if_good status None command faults done).after.faults
  finished-stays Good command faults done n e h =
      let left = healed command faults in
      subst (Stay n)
      (sym (after-faults (decided afterwards command left) done (asked afterwards command left)))
      (asked-stays afterwards command left n (healed-stays command faults n (e refl) h))
  finished-stays _ command faults done n e h = h

  finished-goes : (status : Status) (command : Seen) (faults : Faults) (done : Step) (n : ℕ)
      → status ≡ Good → is_healed command ≡ true → Stay n faults
      → slice_get (finished_if_good status None command faults done).after.faults n ≡ Some None
  finished-goes Good command faults done n good e h =
      let left = healed command faults in
      ap (λ (fs : Faults). slice_get fs n)
      (after-faults (decided afterwards command left) done (asked afterwards command left))
      ∙ asked-free afterwards command left n (healed-goes command faults n e h)
  finished-goes _ command faults done n good e h = cc

  -- ---- The attempt

  medium-stays : (struck : Option (Struck AtMedium)) (o : Operation) (faults : Faults) (n : ℕ)
      → Stay n faults → Stay n (medium_attempt struck o faults).faults
  medium-stays None o faults n h = h
  medium-stays (Some struck) o faults n h = h

  checked-stays : (command : Seen) (checked : Result Operation Refusal) (faults : Faults) (n : ℕ)
      → Stay n faults → Stay n (checked_attempt command checked faults).faults
  checked-stays command (Err refusal) faults n h = h
  checked-stays command (Ok o) faults n h =
      of-both (λ (t : Attempt). Stay n t.faults) (reaches_medium command)
      (medium-stays (decided at_medium command faults) o _ n (asked-stays at_medium command faults n h)) h

  arrival-stays : (struck : Option (Struck OnArrival)) (command : Seen)
      (checked : Result Operation Refusal) (faults : Faults) (n : ℕ) → Stay n faults
      → Stay n (arrival_attempt struck command checked faults).faults
  arrival-stays None command checked faults n h = checked-stays command checked faults n h
  arrival-stays (Some struck) command checked faults n h = h

  attempt-stays : (faults : Faults) (command : Seen) (checked : Result Operation Refusal) (n : ℕ)
      → Stay n faults → Stay n (attempt faults command checked).faults
  attempt-stays faults command checked n h =
      let tried =
      arrival_attempt (decided on_arrival command faults) command checked (asked on_arrival command faults) in
      let left = arrival-stays (decided on_arrival command faults) command checked _ n
      (asked-stays on_arrival command faults n h) in
      of-both (λ (t : Attempt). Stay n t.faults) (lacks_room command tried) left left

-- ---- The law

-- the first blocks of an operation mark no block if it marks none
first-mark : (n : ℕ) (o : Operation) → fault_by (first_blocks n o) ≡ fault_by o
first-mark n (operation.Read e) = refl
first-mark n (operation.Write out) = refl
first-mark n (operation.Fill e block) = refl
first-mark n o = refl

module _ (disk : Armed) (i : ℕ) (cdb data_out : List ℕ)
    (other : is_write_long (command_in (profile_of disk.state) cdb) ≡ false) where
  abbrev tried : Attempt
  tried = attempt_of disk i cdb data_out

  unmarked-by : (result : Result Operation Refusal) → Tried disk.state i cdb data_out result
      → marked_by result ≡ None
  unmarked-by result (inl same) =
      ap marked_by same ∙ only-write-long disk.state i cdb data_out other
  unmarked-by result (inr (inl dropped)) = ap marked_by dropped.is
  unmarked-by result (inr (inr short)) =
      ap marked_by short.is
      ∙ (first-mark short.blocks short.operation
      ∙ (ap marked_by (sym short.passed) ∙ only-write-long disk.state i cdb data_out other))

  unmarked : marked_by tried.result ≡ None
  unmarked = unmarked-by tried.result (is-tried disk i cdb data_out)

  abbrev done : Step
  done = step_of_checked disk.state i tried.result

  abbrev command : Seen
  command = seen i cdb tried.result

  faults-are : (finished_if_good done.answer.status None command tried.faults done).after.faults
      ≡ (armed_step disk i cdb data_out).after.faults
  faults-are =
      ap
      (λ (m : Option Fault).
      (finished_if_good done.answer.status m command tried.faults done).after.faults)
      (sym unmarked)

  module _ (number : ℕ) (fault : Fault) (blocks : Extent)
      (h : HealsByWrites disk.faults number fault blocks) where
    still : HealsByWrites tried.faults number fault blocks
    still =
        let checked = checked_cdb disk.state i cdb data_out in
        attempt-stays fault blocks disk.faults (seen i cdb checked) checked number h

    spares : ((o : Operation) → IsExecutedAs disk i cdb data_out o
        → one_contains (medium_use o).overwritten blocks ≡ false)
        → (result : Result Operation Refusal) → tried.result ≡ result
        → (step_of_checked disk.state i result).answer.status ≡ Good
        → one_contains (seen i cdb result).overwritten blocks ≡ false
    spares none (Ok o) e good = none o (record { result = e; good = good })
    spares none (Err refusal) e good = absurd (not_good disk.state i refusal good)

    pub heals-these : HealsWhatItOverwrites disk i cdb data_out number fault blocks
    heals-these = record {
      stays =
          λ none.
          subst (λ (faults : Faults). HealsByWrites faults number fault blocks) faults-are
          (finished-stays fault blocks done.answer.status command tried.faults done number
          (spares none tried.result refl) still);
      goes =
          λ o executed contained.
          ap (λ (faults : Faults). slice_get faults number) (sym faults-are)
          ∙ finished-goes fault blocks done.answer.status command tried.faults done number
          (ap (λ r. (step_of_checked disk.state i r).answer.status) executed.result ∙ executed.good)
          (ap (λ r. one_contains (seen i cdb r).overwritten blocks) executed.result ∙ contained)
          still;
    }

pub only-overwriting-heals : OnlyOverwritingHeals
only-overwriting-heals disk i cdb data_out number fault blocks h other =
    heals-these disk i cdb data_out other number fault blocks h
