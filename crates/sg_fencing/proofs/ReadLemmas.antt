-- Commands that change no block, and commands that change nothing of the unit.
use Rattle.std.proofs.Common.{◌≡◌, ℕ, Bool, true, false, List, Result, Ok, Err}
use Rattle.std.proofs.Common.{◌==◌, refl, subst, cond, sym, ◌∙◌}
use Rattle.std.proofs.lemmas.Bool.{false≢true}
use Rattle.std.specs.Prelude.{ok_or}
use Rattle.sg_wire.specs.FirstBytes.{first_bytes}
use Rattle.sg_wire.specs.Profile.{rules_of}
use Rattle.sg_wire.specs.declared.command.Command.{Command}
use Rattle.sg_wire.specs.declared.command.Command.TheVariants as command
use Rattle.sg_wire.specs.declared.extent.Extent.{Extent}
use Rattle.sg_wire.specs.declared.command.verify.ByteCheck.{ByteCheck}
use Rattle.sg_wire.specs.declared.command.verify.ByteCheck.TheVariants as check
use Rattle.sg_pages.specs.BlockDescriptor.{logical_block_length}
use Rattle.sg_target.specs.Config.{ConfigFields}
use Rattle.sg_target.specs.Demands.{demands, extent, takes, too_long, verify, verify_only}
use Rattle.sg_target.specs.PrimaryCommands.{inquiry_page}
use Rattle.sg_target.specs.ProvisioningCommands.{block_out}
use Rattle.sg_wire.specs.SupportedOperations.{requested_report}
use Rattle.sg_pages.specs.Reports.{extended_header_asked, lists_unit, log_page_with}
use Rattle.sg_pages.specs.declared.reports.Report.TheVariants as report
use Rattle.sg_target.specs.Refusal.{or_refused, when_sound}
use Rattle.sg_target.specs.ReservationCommands.{fields_out}
use Rattle.sg_target.specs.declared.operation.Operation.{Operation}
use Rattle.sg_target.specs.declared.operation.Operation.TheVariants.{ChangeModes, ChangeReservations}
use Rattle.sg_target.specs.declared.operation.Operation.TheVariants.{CompareEach, MarkBad, StartStop}
use Rattle.sg_target.specs.declared.operation.Operation.TheVariants.{ReturnInquiry, ReturnLuns}
use Rattle.sg_target.specs.declared.operation.Operation.TheVariants.{ReturnReport}
use Rattle.sg_target.specs.declared.refusal.Reason.TheVariants.{InvalidFieldInCdb}
use Rattle.sg_target.specs.declared.refusal.Refusal.{Refusal}
use Rattle.sg_target.specs.declared.refusal.Refusal.TheVariants.{CheckCondition}
use Rattle.sg_target.specs.Semantics.{medium_use}
use Rattle.sg_fencing.specs.Laws.{may_change_blocks, may_change_unit}

-- WRITE LONG writes to the medium, and leaves each block with its data and its status
abbrev pub changes_blocks : Operation → Bool
changes_blocks (MarkBad lba cor_dis) = false
changes_blocks operation = (medium_use operation).writes

-- the operation changes more than pending conditions
abbrev pub changes_unit : Operation → Bool
changes_unit (StartStop start) = true
changes_unit (ChangeModes width sp list) = true
changes_unit (ChangeReservations action scope_type list) = true
changes_unit operation = changes_blocks operation

-- the command may change blocks, or the unit, if the operation does
pub record ReadsIf (command : Command) (operation : Operation) : Type 0 where
  pub reads : may_change_blocks (Ok command) ≡ false → changes_blocks operation ≡ false
  pub leaves : may_change_unit (Ok command) ≡ false → changes_unit operation ≡ false

abbrev ReadsIfAsked : Command → Result Operation Refusal → Type 0
ReadsIfAsked command (Ok operation) = ReadsIf command operation
ReadsIfAsked command (Err refusal) = Unit {0}

changing-reads : (command : Command) (asked : Result Operation Refusal)
    → may_change_blocks (Ok command) ≡ true → may_change_unit (Ok command) ≡ true
    → ReadsIfAsked command asked
changing-reads command (Ok operation) h u = record {
  reads = λ no. absurd (false≢true (sym no ∙ h));
  leaves = λ no. absurd (false≢true (sym no ∙ u));
}
changing-reads command (Err refusal) h u = tt

reads-or-refused : {A : Type 0} (command : Command) (sound : Result A Refusal) (becomes : A → Operation)
    → ((value : A) → ReadsIf command (becomes value))
    → ReadsIfAsked command (when_sound sound becomes)
reads-or-refused command (Ok value) becomes h = h value
reads-or-refused command (Err refusal) becomes h = tt

blocks-left : (operation : Operation) → changes_unit operation ≡ false → changes_blocks operation ≡ false
blocks-left (StartStop start) h = refl
blocks-left (ChangeModes width sp list) h = refl
blocks-left (ChangeReservations action scope_type list) h = refl
blocks-left _ h = h

sound-reads : {A : Type 0} (command : Command) (sound : Result A Refusal) (becomes : A → Operation)
    → ((value : A) → changes_unit (becomes value) ≡ false)
    → ReadsIfAsked command (when_sound sound becomes)
sound-reads command sound becomes h =
    reads-or-refused command sound becomes
    (λ value. record { reads = λ no. blocks-left (becomes value) (h value); leaves = λ no. h value })

-- VERIFY changes no block
module _ (command : Command) (config : ConfigFields) (extent : Extent) (byte : ℕ) where
  each-reads : (block : List ℕ) (none : Bool)
      → ReadsIfAsked command (cond none (verify_only config extent byte)
      (takes config logical_block_length (too_long config extent.count byte)
      (Ok (CompareEach extent block)))).operation
  each-reads block true = record { reads = λ no. refl; leaves = λ no. refl }
  each-reads block false = record { reads = λ no. refl; leaves = λ no. refl }

  verify-reads : (check : ByteCheck) (data_out : List ℕ)
      → ReadsIfAsked command (verify config check extent byte data_out).operation
  verify-reads check.Nothing data_out = record { reads = λ no. refl; leaves = λ no. refl }
  verify-reads check.Reserved data_out = record { reads = λ no. refl; leaves = λ no. refl }
  verify-reads check.DataOut data_out = record { reads = λ no. refl; leaves = λ no. refl }
  verify-reads check.OneBlock data_out = each-reads (block_out data_out) (extent.count == 0)

reads-if : (config : ConfigFields) (command : Command) (data_out : List ℕ)
    → ReadsIfAsked command (demands config command data_out).operation
reads-if config (command.Write6 c) data_out =
    changing-reads (command.Write6 c) (demands config (command.Write6 c) data_out).operation refl refl
reads-if config (command.Write10 c) data_out =
    changing-reads (command.Write10 c) (demands config (command.Write10 c) data_out).operation refl refl
reads-if config (command.Write12 c) data_out =
    changing-reads (command.Write12 c) (demands config (command.Write12 c) data_out).operation refl refl
reads-if config (command.Write16 c) data_out =
    changing-reads (command.Write16 c) (demands config (command.Write16 c) data_out).operation refl refl
reads-if config (command.WriteAndVerify10 c) data_out =
    changing-reads (command.WriteAndVerify10 c)
    (demands config (command.WriteAndVerify10 c) data_out).operation refl refl
reads-if config (command.WriteAndVerify12 c) data_out =
    changing-reads (command.WriteAndVerify12 c)
    (demands config (command.WriteAndVerify12 c) data_out).operation refl refl
reads-if config (command.WriteAndVerify16 c) data_out =
    changing-reads (command.WriteAndVerify16 c)
    (demands config (command.WriteAndVerify16 c) data_out).operation refl refl
reads-if config (command.CompareAndWrite c) data_out =
    changing-reads (command.CompareAndWrite c)
    (demands config (command.CompareAndWrite c) data_out).operation refl refl
reads-if config (command.FormatUnit c) data_out =
    changing-reads (command.FormatUnit c) (demands config (command.FormatUnit c) data_out).operation refl refl
reads-if config (command.SanitizeBlockErase c) data_out =
    changing-reads (command.SanitizeBlockErase c)
    (demands config (command.SanitizeBlockErase c) data_out).operation refl refl
reads-if config (command.SanitizeCryptographicErase c) data_out =
    changing-reads (command.SanitizeCryptographicErase c)
    (demands config (command.SanitizeCryptographicErase c) data_out).operation refl refl
reads-if config (command.ExtendedCopy c) data_out =
    changing-reads (command.ExtendedCopy c)
    (demands config (command.ExtendedCopy c) data_out).operation refl refl
reads-if config (command.OrWrite16 c) data_out =
    changing-reads (command.OrWrite16 c) (demands config (command.OrWrite16 c) data_out).operation refl refl
reads-if config (command.WriteAtomic16 c) data_out =
    changing-reads (command.WriteAtomic16 c)
    (demands config (command.WriteAtomic16 c) data_out).operation refl refl
reads-if config (command.Verify10 c) data_out =
    verify-reads (command.Verify10 c) config (extent c.extent.lba c.extent.count) 7 c.byte_check data_out
reads-if config (command.Verify12 c) data_out =
    verify-reads (command.Verify12 c) config (extent c.extent.lba c.extent.count) 6 c.byte_check data_out
reads-if config (command.Verify16 c) data_out =
    verify-reads (command.Verify16 c) config (extent c.extent.lba c.extent.count) 10 c.byte_check data_out
reads-if config (command.LogSense c) data_out =
    sound-reads (command.LogSense c)
    (or_refused (λ byte. CheckCondition (InvalidFieldInCdb byte))
    (log_page_with c.page_code c.subpage_code c.parameter_pointer))
    (λ page. ReturnReport (report.Log page c.parameter_pointer) c.allocation_length) (λ page. refl)
reads-if config (command.ReportSupportedOperationCodes c) data_out =
    sound-reads (command.ReportSupportedOperationCodes c)
    (ok_or (requested_report config.identity.profile c) (CheckCondition (InvalidFieldInCdb 2)))
    (λ requested. ReturnReport (report.Commands requested) c.allocation_length) (λ requested. refl)
reads-if config (command.ReportTargetPortGroups c) data_out =
    sound-reads (command.ReportTargetPortGroups c)
    (ok_or (extended_header_asked c.format) (CheckCondition (InvalidFieldInCdb 1)))
    (λ header. ReturnReport (report.TargetPortGroups header) c.allocation_length) (λ header. refl)
reads-if config (command.ReportLuns c) data_out =
    sound-reads (command.ReportLuns c)
    (ok_or (lists_unit c.select) (CheckCondition (InvalidFieldInCdb 2)))
    (λ listed. ReturnLuns listed c.allocation_length) (λ listed. refl)
reads-if config (command.WriteSame10 c) data_out =
    changing-reads (command.WriteSame10 c)
    (demands config (command.WriteSame10 c) data_out).operation refl refl
reads-if config (command.WriteSame16 c) data_out =
    changing-reads (command.WriteSame16 c)
    (demands config (command.WriteSame16 c) data_out).operation refl refl
reads-if config (command.Unmap c) data_out =
    changing-reads (command.Unmap c) (demands config (command.Unmap c) data_out).operation refl refl
reads-if config (command.Inquiry c) data_out =
    sound-reads (command.Inquiry c)
    (ok_or (inquiry_page config.identity.profile c.evpd c.page_code)
    (CheckCondition (InvalidFieldInCdb 2)))
    (λ page. ReturnInquiry page c.allocation_length) (λ page. refl)
reads-if config (command.PersistentReserveOut c) data_out =
    reads-or-refused (command.PersistentReserveOut c)
    (fields_out (rules_of config.identity.profile) c.action (first_bytes c.list_length data_out))
    (ChangeReservations c.action c.scope_type)
    (λ list. record { reads = λ no. refl; leaves = λ no. cc })
reads-if config other data_out = record { reads = λ no. refl; leaves = λ no. cc }

reads-at-ok : (command : Command) (asked : Result Operation Refusal) (operation : Operation)
    → ReadsIfAsked command asked → asked ≡ Ok operation → ReadsIf command operation
reads-at-ok command asked operation h e = subst (ReadsIfAsked command) e h

pub asked-reads : (config : ConfigFields) (command : Command) (data_out : List ℕ) (operation : Operation)
    → (demands config command data_out).operation ≡ Ok operation → ReadsIf command operation
asked-reads config command data_out operation e =
    reads-at-ok command _ operation (reads-if config command data_out) e
