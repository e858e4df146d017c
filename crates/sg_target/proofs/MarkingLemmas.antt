-- Only WRITE LONG marks a block as bad.
use Rattle.std.proofs.Common.{◌≡◌, ℕ, List, Bool, true, false, Option, Some, None, Result, Ok, Err}
use Rattle.std.proofs.Common.{refl, sym, ap, ◌∙◌, not, ◌&&◌, ◌==◌, cond, if◌then◌else◌}
use Rattle.std.specs.Option.{option_map_or}
use Rattle.std.specs.Prelude.{is_some, ok_or}
use Rattle.sg_copy.specs.declared.copy_list.Segment.{Segment}
use Rattle.sg_wire.specs.CdbDecoding.{command_in}
use Rattle.sg_wire.specs.FirstBytes.{first_bytes}
use Rattle.sg_wire.specs.Profile.{rules_of}
use Rattle.sg_wire.specs.declared.command.Command.{Command}
use Rattle.sg_wire.specs.declared.command.Command.TheVariants as command
use Rattle.sg_wire.specs.declared.command.verify.ByteCheck.{ByteCheck}
use Rattle.sg_wire.specs.declared.command.verify.ByteCheck.TheVariants as check
use Rattle.sg_wire.specs.declared.extent.Extent.{Extent}
use Rattle.sg_pages.specs.BlockDescriptor.{logical_block_length}
use Rattle.sg_wire.specs.SupportedOperations.{requested_report}
use Rattle.sg_pages.specs.Reports.{extended_header_asked, lists_unit, log_page_with}
use Rattle.sg_pages.specs.declared.reports.Report.TheVariants as report
use Rattle.sg_faults.specs.Faults.{have_room_after}
use Rattle.sg_faults.specs.Meeting.{Seen}
use Rattle.sg_faults.specs.declared.fault.Fault.{Fault}
use Rattle.sg_target.specs.Armed.{Attempt, fault_by, marked_by, with_room}
use Rattle.sg_target.specs.Checks.{checked_cdb}
use Rattle.sg_target.specs.Config.{ConfigFields}
use Rattle.sg_target.specs.Demands.{demands, extent, takes, too_long, unmap_extent, unmap_extents}
use Rattle.sg_target.specs.CopyRequest.{copy_asked, list_asked}
use Rattle.sg_target.specs.Demands.{list_refusal, verify, verify_only}
use Rattle.sg_target.specs.FaultLaws.{is_write_long}
use Rattle.sg_target.specs.PrimaryCommands.{inquiry_page}
use Rattle.sg_target.specs.Demands.{extents_out}
use Rattle.sg_target.specs.ProvisioningCommands.{block_out, same_block, unmaps}
use Rattle.sg_target.specs.Refusal.{or_refused, unless_refused, when_sound}
use Rattle.sg_target.specs.ReservationCommands.{fields_out}
use Rattle.sg_target.specs.State.{State, config_of, profile_of}
use Rattle.sg_target.specs.declared.operation.Operation.{Operation}
use Rattle.sg_target.specs.declared.operation.Operation.TheVariants.{ChangeReservations, CompareEach, Copy}
use Rattle.sg_target.specs.declared.operation.Operation.TheVariants.{Fill, Nothing}
use Rattle.sg_target.specs.declared.operation.Operation.TheVariants.{ReturnInquiry, ReturnLuns}
use Rattle.sg_target.specs.declared.operation.Operation.TheVariants.{ReturnReport, UnmapAll}
use Rattle.sg_target.specs.declared.refusal.Reason.TheVariants.{InsufficientResources, InvalidFieldInCdb}
use Rattle.sg_target.specs.declared.refusal.Refusal.{Refusal}
use Rattle.sg_target.specs.declared.refusal.Refusal.TheVariants.{CheckCondition}
use Rattle.sg_target.proofs.LiftLemmas.{asked}

-- a command that marks no block has room
pub unmarked-stays : (command : Seen) (tried : Attempt) → marked_by tried.result ≡ None
    → with_room command tried ≡ tried
unmarked-stays command tried none =
    ap
    (λ (mark : Option Fault). if is_some mark && not (have_room_after command tried.faults)
    then record tried { result = Err (CheckCondition InsufficientResources) } else tried)
    none

-- ---- By the command

sound-unmarked : {A : Type 0} (sound : Result A Refusal) (becomes : A → Operation)
    → ((value : A) → fault_by (becomes value) ≡ None) → marked_by (when_sound sound becomes) ≡ None
sound-unmarked (Ok value) becomes h = h value
sound-unmarked (Err refusal) becomes h = refl

same-unmarked : (anchor is_unmapped : Bool) (extent : Extent) (block : List ℕ)
    → fault_by (if is_unmapped then unmap_extent anchor extent else Fill extent block) ≡ None
same-unmarked true true extent block = refl
same-unmarked false true extent block = refl
same-unmarked anchor false extent block = refl

unmap-unmarked : (anchor : Bool) (extents : List Extent) → fault_by (unmap_extents anchor extents) ≡ None
unmap-unmarked true extents = refl
unmap-unmarked false extents = refl

each-unmarked : (config : ConfigFields) (extent : Extent) (byte : ℕ) (block : List ℕ) (none : Bool)
    → marked_by (cond none (verify_only config extent byte)
    (takes config logical_block_length (too_long config extent.count byte)
    (Ok (CompareEach extent block)))).operation ≡ None
each-unmarked config extent byte block true = refl
each-unmarked config extent byte block false = refl

verify-unmarked : (config : ConfigFields) (check : ByteCheck) (extent : Extent) (byte : ℕ)
    (data_out : List ℕ) → marked_by (verify config check extent byte data_out).operation ≡ None
verify-unmarked config check.Nothing extent byte data_out = refl
verify-unmarked config check.Reserved extent byte data_out = refl
verify-unmarked config check.DataOut extent byte data_out = refl
verify-unmarked config check.OneBlock extent byte data_out =
    each-unmarked config extent byte (block_out data_out) (extent.count == 0)

copy-unmarked : (segment : Option Segment) → fault_by (option_map_or Copy segment Nothing) ≡ None
copy-unmarked (Some segment) = refl
copy-unmarked None = refl

format-unmarked : (refused : Option Refusal) (blocks : ℕ)
    → marked_by (unless_refused refused (Ok (UnmapAll blocks))) ≡ None
format-unmarked None blocks = refl
format-unmarked (Some refusal) blocks = refl

unmarked : (config : ConfigFields) (command : Command) (data_out : List ℕ)
    → is_write_long (Ok command) ≡ false
    → marked_by (demands config command data_out).operation ≡ None
unmarked config (command.Inquiry c) data_out other =
    sound-unmarked
    (ok_or (inquiry_page config.identity.profile c.evpd c.page_code)
    (CheckCondition (InvalidFieldInCdb 2)))
    (λ page. ReturnInquiry page c.allocation_length) (λ page. refl)
unmarked config (command.Verify10 c) data_out other =
    verify-unmarked config c.byte_check (extent c.extent.lba c.extent.count) 7 data_out
unmarked config (command.Verify12 c) data_out other =
    verify-unmarked config c.byte_check (extent c.extent.lba c.extent.count) 6 data_out
unmarked config (command.Verify16 c) data_out other =
    verify-unmarked config c.byte_check (extent c.extent.lba c.extent.count) 10 data_out
unmarked config (command.ExtendedCopy c) data_out other =
    sound-unmarked (list_asked config (first_bytes c.list_length data_out)) copy_asked
    (λ list. copy-unmarked list.segment)
unmarked config (command.LogSense c) data_out other =
    sound-unmarked
    (or_refused (λ byte. CheckCondition (InvalidFieldInCdb byte))
    (log_page_with c.page_code c.subpage_code c.parameter_pointer))
    (λ page. ReturnReport (report.Log page c.parameter_pointer) c.allocation_length) (λ page. refl)
unmarked config (command.ReportSupportedOperationCodes c) data_out other =
    sound-unmarked
    (ok_or (requested_report config.identity.profile c) (CheckCondition (InvalidFieldInCdb 2)))
    (λ requested. ReturnReport (report.Commands requested) c.allocation_length) (λ requested. refl)
unmarked config (command.ReportTargetPortGroups c) data_out other =
    sound-unmarked (ok_or (extended_header_asked c.format) (CheckCondition (InvalidFieldInCdb 1)))
    (λ header. ReturnReport (report.TargetPortGroups header) c.allocation_length) (λ header. refl)
unmarked config (command.ReportLuns c) data_out other =
    sound-unmarked (ok_or (lists_unit c.select) (CheckCondition (InvalidFieldInCdb 2)))
    (λ listed. ReturnLuns listed c.allocation_length) (λ listed. refl)
unmarked config (command.FormatUnit c) data_out other =
    format-unmarked (list_refusal c data_out) config.blocks
unmarked config (command.WriteLong10 c) data_out other = cc
unmarked config (command.WriteSame10 c) data_out other =
    same-unmarked c.anchor (unmaps c.unmap (block_out data_out)) _ (block_out data_out)
unmarked config (command.WriteSame16 c) data_out other =
    let block = same_block c.ndob data_out in
    same-unmarked c.anchor (unmaps c.unmap block) _ block
unmarked config (command.Unmap c) data_out other =
    sound-unmarked (extents_out config c.list_length data_out) (unmap_extents c.anchor)
    (unmap-unmarked c.anchor)
unmarked config (command.PersistentReserveOut c) data_out other =
    sound-unmarked (fields_out (rules_of config.identity.profile) c.action
    (first_bytes c.list_length data_out))
    (ChangeReservations c.action c.scope_type) (λ list. refl)
unmarked config other data_out h = refl

module _ (state : State) (i : ℕ) (cdb data_out : List ℕ)
    (other : is_write_long (command_in (profile_of state) cdb) ≡ false) where
  by-checked : (checked : Result Operation Refusal) → checked_cdb state i cdb data_out ≡ checked
      → marked_by checked ≡ None
  by-checked (Err refusal) e = refl
  by-checked (Ok operation) e = let k = asked state i cdb data_out operation e in
      ap marked_by (sym k.operation_is)
      ∙ unmarked (config_of state) k.command data_out (ap is_write_long (sym k.read_as) ∙ other)

  pub only-write-long : marked_by (checked_cdb state i cdb data_out) ≡ None
  only-write-long = by-checked (checked_cdb state i cdb data_out) refl
