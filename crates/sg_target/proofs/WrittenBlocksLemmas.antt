-- The blocks that commands write.
use Rattle.std.proofs.Common.{◌≡◌, ℕ, ◌==◌, Bool, true, false, cond, List, [], ◌∷◌}
use Rattle.std.proofs.Common.{Option, Some, None, Result, Ok, Err, refl, sym, ap, ◌∙◌, subst}
use Rattle.std.specs.Option.{option_map_or}
use Rattle.std.specs.Prelude.{◌||◌, if◌then◌else◌, ok_or}
use Rattle.sg_copy.specs.declared.copy_list.CopyList.{CopyList}
use Rattle.sg_copy.specs.declared.copy_list.Segment.{Segment}
use Rattle.sg_wire.specs.FirstBytes.{first_bytes}
use Rattle.sg_wire.specs.Profile.{rules_of}
use Rattle.sg_wire.specs.SupportedOperations.{requested_report}
use Rattle.sg_wire.specs.declared.command.Command.{Command}
use Rattle.sg_wire.specs.declared.command.Command.TheVariants as command
use Rattle.sg_wire.specs.declared.command.verify.ByteCheck.{ByteCheck}
use Rattle.sg_wire.specs.declared.command.verify.ByteCheck.TheVariants as check
use Rattle.sg_wire.specs.declared.extent.Extent.{Extent}
use Rattle.sg_store.specs.Disk.{block, block_at, data_in, lies_in, replaced}
use Rattle.sg_store.specs.Laws.{RemappingTakesWhatIsNeeded}
use Rattle.sg_store.specs.LbaStatus.{status_in}
use Rattle.sg_pages.specs.BlockDescriptor.{logical_block_length}
use Rattle.sg_pages.specs.Reports.{extended_header_asked, lists_unit, log_page_with}
use Rattle.sg_pages.specs.declared.reports.Report.TheVariants as report
use Rattle.sg_target.specs.BlockCommands.{copied_block, destination_of, ored_block}
use Rattle.sg_target.specs.CommandLaws.{CommandsWriteOnlyTheirBlocks, IsUntouched, blocks_written}
use Rattle.sg_target.specs.CommandLaws.{segment_asked, sound_extents}
use Rattle.sg_target.specs.Config.{ConfigFields}
use Rattle.sg_target.specs.Demands.{demands, extent, extents_out, list_refusal, takes, too_long}
use Rattle.sg_target.specs.CopyRequest.{copy_asked, list_asked}
use Rattle.sg_target.specs.Demands.{unmap_extent, unmap_extents, verify, verify_only}
use Rattle.sg_target.specs.Effect.{Effect, returning_up_to, with_contents}
use Rattle.sg_target.specs.FaultLaws.{CommandsOverwriteTheirBlocks, reads_first}
use Rattle.sg_target.specs.Laws.{AnchorsEachExtent, UnmapsEachExtent, lies_in_any}
use Rattle.sg_target.specs.ModeCommands.{changing_modes, mode_parameters, selected_modes}
use Rattle.sg_target.specs.PrimaryCommands.{inquiry_page}
use Rattle.sg_target.specs.ProvisioningCommands.{anchoring, block_out, unmapping, unmaps}
use Rattle.sg_target.specs.Refusal.{or_refused, unless_refused, when_sound}
use Rattle.sg_target.specs.ReservationCommands.{changing_reservations, fields_out, reservation_change}
use Rattle.sg_target.specs.Semantics.{effect_of, medium_use}
use Rattle.sg_target.specs.State.{State, config_of}
use Rattle.sg_target.specs.Step.{Step, outcome, refused}
use Rattle.sg_target.specs.declared.operation.Operation.{Operation}
use Rattle.sg_target.specs.declared.operation.Operation.TheVariants as operation
use Rattle.sg_target.specs.declared.refusal.Reason.TheVariants.{InvalidFieldInCdb}
use Rattle.sg_target.specs.declared.refusal.Reason.TheVariants.{UnitAttention as Attention}
use Rattle.sg_target.specs.declared.refusal.Refusal.{Refusal}
use Rattle.sg_target.specs.declared.refusal.Refusal.TheVariants.{CheckCondition}
use Rattle.sg_target.proofs.LiftLemmas.{asked, lifted, outcome-by}
use Rattle.sg_target.proofs.OrWriteLawLemmas.{replaced-at}

-- ---- By the command

-- the blocks that an operation writes
abbrev written_by : Operation → List Extent
written_by (operation.Copy segment) = destination_of segment ∷ []
written_by o = cond (medium_use o).writes (medium_use o).extents []

-- an operation, if a command asks for one, writes these blocks, and overwrites them or none
abbrev WritesThese : Result Operation Refusal → (first : Bool) → List Extent → Type 0
WritesThese (Ok o) first extents =
    (written_by o ≡ extents) × ((medium_use o).overwritten ≡ (if first then [] else extents))
WritesThese (Err refusal) first extents = Unit {0}

sound-none : {A : Type 0} (sound : Result A Refusal) (becomes : A → Operation)
    → ((value : A) → WritesThese (Ok (becomes value)) false [])
    → WritesThese (when_sound sound becomes) false []
sound-none (Ok value) becomes h = h value
sound-none (Err refusal) becomes h = tt

same-writes : (anchor is_unmapped : Bool) (e : Extent) (block : List ℕ)
    → WritesThese (Ok (if is_unmapped then unmap_extent anchor e else operation.Fill e block)) false
    (e ∷ [])
same-writes true true e block = (refl, refl)
same-writes false true e block = (refl, refl)
same-writes anchor false e block = (refl, refl)

unmap-writes : (anchor : Bool) (found : Result (List Extent) Refusal)
    → WritesThese (when_sound found (unmap_extents anchor)) false (sound_extents found)
unmap-writes true (Ok extents) = (refl, refl)
unmap-writes false (Ok extents) = (refl, refl)
unmap-writes anchor (Err refusal) = tt

each-none : (config : ConfigFields) (e : Extent) (byte : ℕ) (block : List ℕ) (none : Bool)
    → WritesThese (cond none (verify_only config e byte)
    (takes config logical_block_length (too_long config e.count byte)
    (Ok (operation.CompareEach e block)))).operation false []
each-none config e byte block true = (refl, refl)
each-none config e byte block false = (refl, refl)

verify-none : (config : ConfigFields) (check : ByteCheck) (e : Extent) (byte : ℕ) (data_out : List ℕ)
    → WritesThese (verify config check e byte data_out).operation false []
verify-none config check.Nothing e byte data_out = (refl, refl)
verify-none config check.Reserved e byte data_out = (refl, refl)
verify-none config check.DataOut e byte data_out = (refl, refl)
verify-none config check.OneBlock e byte data_out =
    each-none config e byte (block_out data_out) (e.count == 0)

format-writes : (refused : Option Refusal) (blocks : ℕ)
    → WritesThese (unless_refused refused (Ok (operation.UnmapAll blocks))) false (extent 0 blocks ∷ [])
format-writes None blocks = (refl, refl)
format-writes (Some refusal) blocks = tt

segment-writes : (segment : Option Segment)
    → WritesThese (Ok (option_map_or operation.Copy segment operation.Nothing)) false
    (option_map_or (λ segment. destination_of segment ∷ []) segment [])
segment-writes (Some segment) = (refl, refl)
segment-writes None = (refl, refl)

copy-writes : (found : Result CopyList Refusal)
    → WritesThese (when_sound found copy_asked) false
    (option_map_or (λ segment. destination_of segment ∷ []) (segment_asked found) [])
copy-writes (Ok list) = segment-writes list.segment
copy-writes (Err refusal) = tt

writes-these : (config : ConfigFields) (c : Command) (data_out : List ℕ)
    → WritesThese (demands config c data_out).operation (reads_first (Ok c))
    (blocks_written config (Ok c) data_out)
writes-these config (command.Inquiry c) data_out =
    sound-none
    (ok_or (inquiry_page config.identity.profile c.evpd c.page_code)
    (CheckCondition (InvalidFieldInCdb 2)))
    (λ page. operation.ReturnInquiry page c.allocation_length) (λ page. (refl, refl))
writes-these config (command.Verify10 c) data_out =
    verify-none config c.byte_check (extent c.extent.lba c.extent.count) 7 data_out
writes-these config (command.Verify12 c) data_out =
    verify-none config c.byte_check (extent c.extent.lba c.extent.count) 6 data_out
writes-these config (command.Verify16 c) data_out =
    verify-none config c.byte_check (extent c.extent.lba c.extent.count) 10 data_out
writes-these config (command.ExtendedCopy c) data_out =
    copy-writes (list_asked config (first_bytes c.list_length data_out))
writes-these config (command.LogSense c) data_out =
    sound-none
    (or_refused (λ byte. CheckCondition (InvalidFieldInCdb byte))
    (log_page_with c.page_code c.subpage_code c.parameter_pointer))
    (λ page. operation.ReturnReport (report.Log page c.parameter_pointer) c.allocation_length)
    (λ page. (refl, refl))
writes-these config (command.ReportSupportedOperationCodes c) data_out =
    sound-none
    (ok_or (requested_report config.identity.profile c) (CheckCondition (InvalidFieldInCdb 2)))
    (λ requested. operation.ReturnReport (report.Commands requested) c.allocation_length)
    (λ requested. (refl, refl))
writes-these config (command.ReportTargetPortGroups c) data_out =
    sound-none (ok_or (extended_header_asked c.format) (CheckCondition (InvalidFieldInCdb 1)))
    (λ header. operation.ReturnReport (report.TargetPortGroups header) c.allocation_length)
    (λ header. (refl, refl))
writes-these config (command.ReportLuns c) data_out =
    sound-none (ok_or (lists_unit c.select) (CheckCondition (InvalidFieldInCdb 2)))
    (λ listed. operation.ReturnLuns listed c.allocation_length) (λ listed. (refl, refl))
writes-these config (command.FormatUnit c) data_out =
    format-writes (list_refusal c data_out) config.blocks
writes-these config (command.WriteSame10 c) data_out =
    same-writes c.anchor (unmaps c.unmap _) _ _
writes-these config (command.WriteSame16 c) data_out =
    same-writes c.anchor (unmaps c.unmap _) _ _
writes-these config (command.Unmap c) data_out =
    unmap-writes c.anchor (extents_out config c.list_length data_out)
writes-these config (command.PersistentReserveOut c) data_out =
    sound-none (fields_out (rules_of config.identity.profile) c.action
    (first_bytes c.list_length data_out))
    (operation.ChangeReservations c.action c.scope_type) (λ list. (refl, refl))
writes-these config other data_out = (refl, refl)

asked-writes : (config : ConfigFields) (c : Command) (data_out : List ℕ) (o : Operation)
    → (demands config c data_out).operation ≡ Ok o
    → WritesThese (Ok o) (reads_first (Ok c)) (blocks_written config (Ok c) data_out)
asked-writes config c data_out o e =
    subst (λ r. WritesThese r (reads_first (Ok c)) (blocks_written config (Ok c) data_out)) e
    (writes-these config c data_out)

pub overwrite-theirs : CommandsOverwriteTheirBlocks
overwrite-theirs state i cdb data_out o e =
    let k = asked state i cdb data_out o e in
    (asked-writes (config_of state) k.command data_out o k.operation_is).1
    ∙ ap
    (λ parsed. if reads_first parsed then [] else blocks_written (config_of state) parsed data_out)
    (sym k.command_is)

-- ---- By the operation

same-outside : {X : Type 0} (b : Bool) (given old now : X) → b ≡ false → now ≡ cond b given old
    → now ≡ old
same-outside true given old now h e = cc
same-outside false given old now h e = e

apart-one : (b : Bool) → (b || false) ≡ false → b ≡ false
apart-one true h = h
apart-one false h = h

module _ (law : RemappingTakesWhatIsNeeded) (unmapped : UnmapsEachExtent) (anchored : AnchorsEachExtent)
    (state : State) (i address : ℕ) where
  abbrev Apart : List Extent → Type 0
  Apart extents = lies_in_any extents address ≡ false

  abbrev Untouched : Result Effect Refusal → Type 0
  Untouched (Ok effect) = IsUntouched state effect.after address
  Untouched (Err refusal) = Unit {0}

  replaced-apart : (e : Extent) (f : ℕ → List ℕ) → Apart (e ∷ [])
      → IsUntouched state (with_contents state (replaced state.disk.contents e.lba e.count f)) address
  replaced-apart e f h =
      let apart = apart-one (lies_in e.lba e.count address) h in
      record {
        status = same-outside _ _ _ _ apart
            (replaced-at law state.disk.contents e.lba e.count f status_in address);
        block = same-outside _ _ _ _ apart
            (replaced-at law state.disk.contents e.lba e.count f data_in address);
      }

  unmapped-apart : (extents : List Extent) → Apart extents
      → IsUntouched state (unmapping state extents).after address
  unmapped-apart extents h = record {
    status = same-outside _ _ _ _ h (unmapped.statuses state extents address);
    block = same-outside _ _ _ _ h (unmapped.blocks state extents address);
  }

  anchored-apart : (extents : List Extent) → Apart extents
      → IsUntouched state (anchoring state extents).after address
  anchored-apart extents h = record {
    status = same-outside _ _ _ _ h (anchored.statuses state extents address);
    block = same-outside _ _ _ _ h (anchored.blocks state extents address);
  }

  sound-apart : {A : Type 0} (sound : Result A Refusal) (becomes : A → Effect)
      → ((value : A) → IsUntouched state (becomes value).after address)
      → Untouched (when_sound sound becomes)
  sound-apart (Ok value) becomes h = h value
  sound-apart (Err refusal) becomes h = tt

  by-operation : (o : Operation) → Apart (written_by o) → Untouched (effect_of state i o)
  by-operation (operation.Write out) h = replaced-apart out.extent (block_at out.bytes) h
  by-operation (operation.OrWrite out) h =
      replaced-apart out.extent (ored_block state.disk.contents out) h
  by-operation (operation.Copy segment) h =
      replaced-apart (destination_of segment) (copied_block state.disk.contents segment) h
  by-operation (operation.CompareAndWrite exchange) h =
      replaced-apart exchange.extent (block_at exchange.replacement) h
  by-operation (operation.Fill e block) h = replaced-apart e (λ index. block) h
  by-operation (operation.Unmap extents) h = unmapped-apart extents h
  by-operation (operation.UnmapExtent e) h = unmapped-apart (e ∷ []) h
  by-operation (operation.UnmapAll blocks) h = unmapped-apart (extent 0 blocks ∷ []) h
  by-operation (operation.Anchor extents) h = anchored-apart extents h
  by-operation (operation.AnchorExtent e) h = anchored-apart (e ∷ []) h
  by-operation (operation.ReturnModes request n) h =
      sound-apart (mode_parameters state.modes request) (returning_up_to state n)
      (λ list. record { status = refl; block = refl })
  by-operation (operation.ChangeModes width sp list) h =
      sound-apart (selected_modes state width sp list) (changing_modes state i)
      (λ modes. record { status = refl; block = refl })
  by-operation (operation.ChangeReservations action scope_type list) h =
      sound-apart (reservation_change state i action scope_type list) (changing_reservations state i)
      (λ change. record { status = refl; block = refl })
  by-operation _ h = record { status = refl; block = refl }

  abbrev StepLeaves : Step → Type 0
  StepLeaves done = IsUntouched state done.state address

  refused-apart : (refusal : Refusal) → StepLeaves (refused state i refusal)
  refused-apart (CheckCondition (Attention condition)) = record { status = refl; block = refl }
  refused-apart _ = record { status = refl; block = refl }

  outcome-apart : (effect : Result Effect Refusal) → Untouched effect
      → StepLeaves (outcome state i effect)
  outcome-apart (Ok effect) h = outcome-by state i StepLeaves effect refused-apart (λ none. h)
  outcome-apart (Err refusal) h = refused-apart refusal

pub write-only-theirs : RemappingTakesWhatIsNeeded → UnmapsEachExtent → AnchorsEachExtent
    → CommandsWriteOnlyTheirBlocks
write-only-theirs law unmapped anchored state i cdb data_out address h =
    lifted state i cdb data_out (StepLeaves law unmapped anchored state i address)
    (refused-apart law unmapped anchored state i address)
    (λ o k.
    let named = (asked-writes (config_of state) k.command data_out o k.operation_is).0
    ∙ ap (λ parsed. blocks_written (config_of state) parsed data_out) (sym k.command_is) in
    let apart = outcome-apart law unmapped anchored state i address (effect_of state i o)
    (by-operation law unmapped anchored state i address o
    (ap (λ extents. lies_in_any extents address) named ∙ h)) in
    record { status = apart.status; block = apart.block })
