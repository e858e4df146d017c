-- The facts about a command that its operation shows. Of the laws' modules only this one and
-- ReadLemmas know commands. A command has a case only if its operation looks at more than its fields.
use Rattle.std.proofs.Common.{◌≡◌, ℕ, Bool, true, false, List, Option, Some, None, Result, Ok, Err}
use Rattle.std.proofs.Common.{◌==◌, ◌&&◌, refl, subst, ap, cond, ◌∙◌}
use Rattle.std.proofs.lemmas.Bool.{false≢true}
use Rattle.std.specs.Prelude.{if◌then◌else◌, nat_lt, ok_or}
use Rattle.std.specs.Option.{option_map_or}
use Rattle.sg_wire.specs.FirstBytes.{first_bytes}
use Rattle.sg_wire.specs.OutList.{list_of as out_list_of}
use Rattle.sg_wire.specs.Profile.{rules_of}
use Rattle.sg_wire.specs.Layout.{layout}
use Rattle.sg_wire.specs.declared.command.Class.{Class}
use Rattle.sg_wire.specs.declared.command.Class.TheVariants.{Always, Reads, Writes}
use Rattle.sg_wire.specs.declared.command.Command.{Command}
use Rattle.sg_wire.specs.declared.command.Command.TheVariants as command
use Rattle.sg_wire.specs.declared.command.CdbFault.{CdbFault}
use Rattle.sg_copy.specs.declared.copy_list.Segment.{Segment}
use Rattle.sg_wire.specs.declared.command.copy.ExtendedCopy.{ExtendedCopy}
use Rattle.sg_wire.specs.declared.command.format.FormatUnit.{FormatUnit}
use Rattle.sg_wire.specs.declared.command.diagnostic.LogSense.{LogSense}
use Rattle.sg_wire.specs.declared.command.out_action.OutAction.{OutAction}
use Rattle.sg_wire.specs.declared.extent.Extent.{Extent}
use Rattle.sg_wire.specs.declared.out_list.OutList.{OutList}
use Rattle.sg_wire.specs.declared.command.start_stop.StartStopUnit.{StartStopUnit}
use Rattle.sg_wire.specs.declared.command.verify.ByteCheck.{ByteCheck}
use Rattle.sg_wire.specs.declared.command.verify.ByteCheck.TheVariants as check
use Rattle.sg_pages.specs.BlockDescriptor.{logical_block_length}
use Rattle.sg_target.specs.Demands.{extent, takes, too_long, verify, verify_only}
use Rattle.sg_target.specs.Armed.{first_blocks}
use Rattle.sg_target.specs.Config.{ConfigFields}
use Rattle.sg_target.specs.CopyRequest.{copy_asked, list_asked}
use Rattle.sg_target.specs.Demands.{demands, list_refusal, unmap_extent, unmap_extents}
use Rattle.sg_target.specs.PrimaryCommands.{inquiry_page}
use Rattle.sg_target.specs.ProvisioningCommands.{block_out, same_block, unmaps}
use Rattle.sg_target.specs.Demands.{extents_out}
use Rattle.sg_wire.specs.SupportedOperations.{requested_report}
use Rattle.sg_pages.specs.Reports.{extended_header_asked, lists_unit, log_page_with, unless_past_last}
use Rattle.sg_pages.specs.declared.reports.LogPage.{LogPage}
use Rattle.sg_pages.specs.declared.reports.LogPage.TheVariants.{InformationalExceptions}
use Rattle.sg_pages.specs.declared.reports.LogPage.TheVariants.{LogicalBlockProvisioning}
use Rattle.sg_pages.specs.declared.reports.LogPage.TheVariants.{SupportedPages, SupportedSubpages}
use Rattle.sg_pages.specs.declared.reports.Report.TheVariants as report
use Rattle.sg_target.specs.Refusal.{or_refused, unless_refused, when_sound}
use Rattle.sg_target.specs.ReservationCommands.{fields_out, has_list_length}
use Rattle.sg_target.specs.declared.operation.Operation.{Operation}
use Rattle.sg_target.specs.declared.operation.Operation.TheVariants.{Compare, CompareAndWrite, Copy, OrWrite}
use Rattle.sg_target.specs.declared.operation.Operation.TheVariants.{CompareEach, Verify}
use Rattle.sg_target.specs.declared.operation.Operation.TheVariants.{ChangeModes, Read, Write, Fill}
use Rattle.sg_target.specs.declared.operation.Operation.TheVariants.{Unmap, UnmapExtent, Anchor, AnchorExtent}
use Rattle.sg_target.specs.declared.operation.Operation.TheVariants.{MarkBad, Nothing, StartStop, UnmapAll}
use Rattle.sg_target.specs.declared.operation.Operation.TheVariants.{ReturnInquiry, ReturnLbaStatus}
use Rattle.sg_target.specs.declared.operation.Operation.TheVariants.{ReturnLuns, ReturnReport}
use Rattle.sg_target.specs.declared.operation.Operation.TheVariants.{ReturnReservations}
use Rattle.sg_target.specs.declared.operation.Operation.TheVariants.{ChangeReservations}
use Rattle.sg_target.specs.declared.refusal.Reason.TheVariants.{InvalidFieldInCdb}
use Rattle.sg_target.specs.declared.refusal.Reason.TheVariants.{ParameterListLengthError}
use Rattle.sg_target.specs.declared.refusal.Refusal.{Refusal}
use Rattle.sg_target.specs.declared.refusal.Refusal.TheVariants.{CheckCondition}
use Rattle.sg_fencing.specs.Fencing.{counts_used, shows_others}

-- the class of the commands that ask for an operation, if it looks at blocks or changes blocks or
-- modes
abbrev pub class_for : Operation → Option Class
class_for (Read extent) = Some Reads
class_for (ReturnLbaStatus start n) = Some Reads
class_for (Verify extent) = Some Reads
class_for (Compare out) = Some Reads
class_for (CompareEach extent block) = Some Reads
class_for (CompareAndWrite exchange) = Some Writes
class_for (OrWrite out) = Some Writes
class_for (Copy segment) = Some Writes
class_for (Write out) = Some Writes
class_for (Fill extent block) = Some Writes
class_for (MarkBad lba cor_dis) = Some Writes
class_for (Unmap extents) = Some Writes
class_for (UnmapExtent extent) = Some Writes
class_for (UnmapAll blocks) = Some Writes
class_for (Anchor extents) = Some Writes
class_for (AnchorExtent extent) = Some Writes
class_for (ChangeModes width sp list) = Some Writes
class_for (StartStop false) = Some Writes
class_for _ = None

-- the first blocks of an operation are of its class
pub first-class : (n : ℕ) (operation : Operation)
    → class_for (first_blocks n operation) ≡ class_for operation
first-class n (Read extent) = refl
first-class n (Write out) = refl
first-class n (Fill extent block) = refl
first-class n _ = refl

-- another command than PERSISTENT RESERVE OUT, or PERSISTENT RESERVE OUT with an action of a kind
abbrev pub is_of_kind : (OutAction → Bool) → Result Command CdbFault → Bool
is_of_kind kind (Ok (command.PersistentReserveOut c)) = kind c.action
is_of_kind kind _ = true

abbrev pub fits : (OutAction → Bool) → Operation → Bool
fits kind (ChangeReservations action scope_type list) = kind action
fits kind _ = true

abbrev pub shows : Operation → Bool
shows (ReturnReservations action n) = true
shows (ChangeReservations action scope_type list) = true
shows _ = false

-- a log page has the number of used addresses
abbrev pub shows_number : Operation → Bool
shows_number (ReturnReport (report.Log LogicalBlockProvisioning pointer) n) = true
shows_number _ = false

pub first-number : (n : ℕ) (operation : Operation)
    → shows_number (first_blocks n operation) ≡ shows_number operation
first-number n (Read extent) = refl
first-number n (Write out) = refl
first-number n (Fill extent block) = refl
first-number n _ = refl

-- the command is of the operation's class and of each of its kinds, and shows others if the
-- operation does; it counts the used addresses if the operation shows their number
pub record Suits (command : Command) (operation : Operation) : Type 0 where
  pub class : (class : Class) → class_for operation ≡ Some class → (layout command).class ≡ class
  pub of_kind : (kind : OutAction → Bool) → is_of_kind kind (Ok command) ≡ true
      → fits kind operation ≡ true
  pub shown : shows_others (Ok command) ≡ shows operation
  pub number : shows_number operation ≡ true → counts_used (Ok command) ≡ true

some-same : {class : Class} → Some Writes ≡ Some class → Writes ≡ class
some-same h = cc

abbrev SuitsIf : Command → Result Operation Refusal → Type 0
SuitsIf command (Ok operation) = Suits command operation
SuitsIf command (Err refusal) = Unit {0}

sound-suits : {A : Type 0} (command : Command) (sound : Result A Refusal) (becomes : A → Operation)
    → ((value : A) → Suits command (becomes value)) → SuitsIf command (when_sound sound becomes)
sound-suits command (Ok value) becomes h = h value
sound-suits command (Err refusal) becomes h = tt

same-suits : (command : Command) → (layout command).class ≡ Writes
    → shows_others (Ok command) ≡ false
    → (anchor is_unmapped : Bool) (extent : Extent) (block : List ℕ)
    → Suits command (if is_unmapped then unmap_extent anchor extent else Fill extent block)
same-suits command w s true true extent block =
    record { class = λ class h. cc; of_kind = λ kind k. refl; shown = s; number = λ n. cc }
same-suits command w s false true extent block =
    record { class = λ class h. cc; of_kind = λ kind k. refl; shown = s; number = λ n. cc }
same-suits command w s anchor false extent block =
    record { class = λ class h. cc; of_kind = λ kind k. refl; shown = s; number = λ n. cc }

unmap-suits : (command : Command) → (layout command).class ≡ Writes
    → shows_others (Ok command) ≡ false
    → (anchor : Bool) (extents : List Extent) → Suits command (unmap_extents anchor extents)
unmap-suits command w s true extents =
    record { class = λ class h. cc; of_kind = λ kind k. refl; shown = s; number = λ n. cc }
unmap-suits command w s false extents =
    record { class = λ class h. cc; of_kind = λ kind k. refl; shown = s; number = λ n. cc }

-- VERIFY reads
module _ (command : Command) (r : (layout command).class ≡ Reads)
    (s : shows_others (Ok command) ≡ false) (config : ConfigFields) (extent : Extent) (byte : ℕ) where
  each-suits : (block : List ℕ) (none : Bool)
      → SuitsIf command (cond none (verify_only config extent byte)
      (takes config logical_block_length (too_long config extent.count byte)
      (Ok (CompareEach extent block)))).operation
  each-suits block true = record {
    class = λ class h. cc;
    of_kind = λ kind k. refl;
    shown = s;
    number = λ n. cc;
  }
  each-suits block false = record {
    class = λ class h. cc;
    of_kind = λ kind k. refl;
    shown = s;
    number = λ n. cc;
  }

  verify-suits : (check : ByteCheck) (data_out : List ℕ)
      → SuitsIf command (verify config check extent byte data_out).operation
  verify-suits check.Nothing data_out =
      record { class = λ class h. cc; of_kind = λ kind k. refl; shown = s; number = λ n. cc }
  verify-suits check.Reserved data_out =
      record { class = λ class h. cc; of_kind = λ kind k. refl; shown = s; number = λ n. cc }
  verify-suits check.DataOut data_out =
      record { class = λ class h. cc; of_kind = λ kind k. refl; shown = s; number = λ n. cc }
  verify-suits check.OneBlock data_out = each-suits (block_out data_out) (extent.count == 0)

-- EXTENDED COPY writes, unless its list has no segment
copy-suits : (c : ExtendedCopy) (segment : Option Segment)
    → Suits (command.ExtendedCopy c) (option_map_or Copy segment Nothing)
copy-suits c (Some segment) =
    record { class = λ class h. cc; of_kind = λ kind k. refl; shown = refl; number = λ n. cc }
copy-suits c None =
    record { class = λ class h. cc; of_kind = λ kind k. refl; shown = refl; number = λ n. cc }

-- FORMAT UNIT writes
format-suits : (c : FormatUnit) (refused : Option Refusal) (blocks : ℕ)
    → SuitsIf (command.FormatUnit c) (unless_refused refused (Ok (UnmapAll blocks)))
format-suits c None blocks =
    record { class = λ class h. cc; of_kind = λ kind k. refl; shown = refl; number = λ n. cc }
format-suits c (Some refusal) blocks = tt

-- START STOP UNIT is a command that writes if it stops the unit
start-suits : (c : StartStopUnit) (start : Bool) → c.start ≡ start
    → Suits (command.StartStopUnit c) (StartStop start)
start-suits c true e = record {
  class = λ class h. cc;
  of_kind = λ kind k. refl;
  shown = refl;
  number = λ n. cc;
}
start-suits c false e = record {
  class = λ class h. ap (λ b. if b && c.power_condition == 0 then Always else Writes) e ∙ some-same h;
  of_kind = λ kind k. refl;
  shown = refl;
  number = λ n. cc;
}

-- LOG SENSE has the page with the number only for its code
no-number : (past : Bool)
    → cond {A = Result LogPage ℕ} past (Err 5) (Ok InformationalExceptions) ≡ Ok LogicalBlockProvisioning
    → ⊥
no-number true h = cc
no-number false h = cc

by-tests : (pages subpages page subpage exceptions : Bool) (byte pointer : ℕ)
    → option_map_or (unless_past_last pointer)
    (cond pages (Some SupportedPages) (cond subpages (Some SupportedSubpages)
    (cond (page && subpage) (Some LogicalBlockProvisioning)
    (cond exceptions (Some InformationalExceptions) None)))) (Err byte)
    ≡ Ok LogicalBlockProvisioning → page ≡ true
by-tests true subpages page subpage exceptions byte pointer h = cc
by-tests false true page subpage exceptions byte pointer h = cc
by-tests false false true subpage exceptions byte pointer h = refl
by-tests false false false subpage true byte pointer h = absurd (no-number (nat_lt 0 pointer) h)
by-tests false false false subpage false byte pointer h = cc

provisioning-code : (page_code subpage_code pointer : ℕ)
    → log_page_with page_code subpage_code pointer ≡ Ok LogicalBlockProvisioning
    → (page_code == 0x0C) ≡ true
provisioning-code page_code subpage_code pointer h = by-tests _ _ _ _ _ _ _ h

log-suits : (c : LogSense) (page : Result LogPage ℕ)
    → (page ≡ Ok LogicalBlockProvisioning → (c.page_code == 0x0C) ≡ true)
    → SuitsIf (command.LogSense c)
    (when_sound (or_refused (λ byte. CheckCondition (InvalidFieldInCdb byte)) page)
    (λ its. ReturnReport (report.Log its c.parameter_pointer) c.allocation_length))
log-suits c (Ok LogicalBlockProvisioning) h =
    record { class = λ class e. cc; of_kind = λ kind k. refl; shown = refl; number = λ n. h refl }
log-suits c (Ok page) h =
    record { class = λ class e. cc; of_kind = λ kind k. refl; shown = refl; number = λ n. cc }
log-suits c (Err byte) h = tt

pub suits : (config : ConfigFields) (command : Command) (data_out : List ℕ)
    → SuitsIf command (demands config command data_out).operation
suits config (command.Inquiry c) data_out =
    sound-suits (command.Inquiry c)
    (ok_or (inquiry_page config.identity.profile c.evpd c.page_code)
    (CheckCondition (InvalidFieldInCdb 2)))
    (λ page. ReturnInquiry page c.allocation_length)
    (λ page. record { class = λ class h. cc; of_kind = λ kind k. refl; shown = refl; number = λ n. cc })
suits config (command.Verify10 c) data_out =
    verify-suits (command.Verify10 c) refl refl config (extent c.extent.lba c.extent.count) 7
    c.byte_check data_out
suits config (command.Verify12 c) data_out =
    verify-suits (command.Verify12 c) refl refl config (extent c.extent.lba c.extent.count) 6
    c.byte_check data_out
suits config (command.Verify16 c) data_out =
    verify-suits (command.Verify16 c) refl refl config (extent c.extent.lba c.extent.count) 10
    c.byte_check data_out
suits config (command.ExtendedCopy c) data_out =
    sound-suits (command.ExtendedCopy c) (list_asked config (first_bytes c.list_length data_out)) copy_asked
    (λ list. copy-suits c list.segment)
suits config (command.FormatUnit c) data_out =
    format-suits c (list_refusal c data_out) config.blocks
suits config (command.LogSense c) data_out =
    log-suits c (log_page_with c.page_code c.subpage_code c.parameter_pointer)
    (provisioning-code c.page_code c.subpage_code c.parameter_pointer)
suits config (command.ReportSupportedOperationCodes c) data_out =
    sound-suits (command.ReportSupportedOperationCodes c)
    (ok_or (requested_report config.identity.profile c) (CheckCondition (InvalidFieldInCdb 2)))
    (λ requested. ReturnReport (report.Commands requested) c.allocation_length)
    (λ requested. record {
      class = λ class h. cc;
      of_kind = λ kind k. refl;
      shown = refl;
      number = λ n. cc;
    })
suits config (command.ReportTargetPortGroups c) data_out =
    sound-suits (command.ReportTargetPortGroups c)
    (ok_or (extended_header_asked c.format) (CheckCondition (InvalidFieldInCdb 1)))
    (λ header. ReturnReport (report.TargetPortGroups header) c.allocation_length)
    (λ header. record {
      class = λ class h. cc;
      of_kind = λ kind k. refl;
      shown = refl;
      number = λ n. cc;
    })
suits config (command.ReportLuns c) data_out =
    sound-suits (command.ReportLuns c)
    (ok_or (lists_unit c.select) (CheckCondition (InvalidFieldInCdb 2)))
    (λ listed. ReturnLuns listed c.allocation_length)
    (λ listed. record {
      class = λ class h. cc;
      of_kind = λ kind k. refl;
      shown = refl;
      number = λ n. cc;
    })
suits config (command.StartStopUnit c) data_out = start-suits c c.start refl
suits config (command.WriteSame10 c) data_out =
    same-suits (command.WriteSame10 c) refl refl c.anchor
    (unmaps c.unmap (block_out data_out)) _ (block_out data_out)
suits config (command.WriteSame16 c) data_out =
    let block = same_block c.ndob data_out in
    same-suits (command.WriteSame16 c) refl refl c.anchor (unmaps c.unmap block) _ block
suits config (command.Unmap c) data_out =
    sound-suits (command.Unmap c) (extents_out config c.list_length data_out)
    (unmap_extents c.anchor) (unmap-suits (command.Unmap c) refl refl c.anchor)
suits config (command.PersistentReserveOut c) data_out =
    sound-suits (command.PersistentReserveOut c)
    (fields_out (rules_of config.identity.profile) c.action (first_bytes c.list_length data_out))
    (ChangeReservations c.action c.scope_type)
    (λ list. record { class = λ class h. cc; of_kind = λ kind k. k; shown = refl; number = λ n. cc })
suits config other data_out =
    record { class = λ class h. cc; of_kind = λ kind k. refl; shown = refl; number = λ n. cc }

at-ok : (command : Command) (asked : Result Operation Refusal) (operation : Operation)
    → SuitsIf command asked → asked ≡ Ok operation → Suits command operation
at-ok command asked operation h e = subst (SuitsIf command) e h

pub asked-suits : (config : ConfigFields) (command : Command) (data_out : List ℕ) (operation : Operation)
    → (demands config command data_out).operation ≡ Ok operation → Suits command operation
asked-suits config command data_out operation e =
    at-ok command _ operation (suits config command data_out) e

-- PERSISTENT RESERVE OUT asks for the change with the fields of its list
pub listed : (action : OutAction) (scope_type : ℕ) (is_whole : Bool) (list : OutList)
    (short : Refusal) (operation : Operation)
    → when_sound (cond is_whole (Ok list) (Err short)) (ChangeReservations action scope_type)
    ≡ Ok operation
    → ChangeReservations action scope_type list ≡ operation
listed action scope_type true list short operation e = cc
listed action scope_type false list short operation e = cc

-- another command than PERSISTENT RESERVE OUT, or one with an action and a list of a kind
abbrev pub is_of_list_kind : (OutAction → OutList → Bool) → Result Command CdbFault
    → (data_out : List ℕ) → Bool
is_of_list_kind kind (Ok (command.PersistentReserveOut c)) data_out =
    kind c.action (out_list_of c.action (first_bytes c.list_length data_out))
is_of_list_kind kind _ data_out = true

abbrev pub fits_list : (OutAction → OutList → Bool) → Operation → Bool
fits_list kind (ChangeReservations action scope_type list) = kind action list
fits_list kind _ = true

fits-all : (kind : OutAction → OutList → Bool) (operation : Operation)
    → fits (λ action. false) operation ≡ true → fits_list kind operation ≡ true
fits-all kind (ChangeReservations action scope_type list) h = absurd (false≢true h)
fits-all kind _ h = refl

pub asked-fits : (config : ConfigFields) (command : Command) (data_out : List ℕ) (operation : Operation)
    → (demands config command data_out).operation ≡ Ok operation
    → (kind : OutAction → OutList → Bool) → is_of_list_kind kind (Ok command) data_out ≡ true
    → fits_list kind operation ≡ true
asked-fits config (command.PersistentReserveOut c) data_out operation e kind h =
    let bytes = first_bytes c.list_length data_out in
    subst (λ (o : Operation). fits_list kind o ≡ true)
    (listed c.action c.scope_type (has_list_length (rules_of config.identity.profile) c.action bytes)
    (out_list_of c.action bytes) (CheckCondition ParameterListLengthError) operation e)
    h
asked-fits config command data_out operation e kind h =
    fits-all kind operation
    ((asked-suits config command data_out operation e).of_kind (λ action. false) refl)
