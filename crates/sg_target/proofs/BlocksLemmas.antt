-- Each command leaves the mapped addresses within the capacity, and their blocks of 512 bytes.
use Rattle.std.proofs.Common.{◌≡◌, ◌≤◌, ◌<◌, ℕ, ◌+◌, ◌*◌, List, [], ◌∷◌, length, take, drop, map}
use Rattle.std.proofs.Common.{Bool, true, false, cond, Option, Some, None, Result, Ok, Err, refl}
use Rattle.std.proofs.Common.{◌==◌, ◌∙◌, arith, eqb-true, length-take, length-drop}
use Rattle.std.specs.Option.{option_map_or}
use Rattle.std.specs.Prelude.{max, min, nat_lt, ok_or}
use Rattle.sg_copy.specs.declared.copy_list.Segment.{Segment}
use Rattle.sg_wire.specs.Profile.{rules_of}
use Rattle.sg_wire.specs.FirstBytes.{first_bytes}
use Rattle.sg_target.specs.PrimaryCommands.{inquiry_page}
use Rattle.sg_target.specs.ReservationCommands.{fields_out}
use Rattle.sg_target.specs.declared.refusal.Reason.TheVariants.{InvalidFieldInCdb, LbaOutOfRange}
use Rattle.sg_target.specs.declared.refusal.Refusal.TheVariants.{CheckCondition}
use Rattle.std.proofs.lemmas.Bool.Decides.{nat_tests}
use Rattle.sg_wire.specs.declared.command.Command.{Command}
use Rattle.sg_wire.specs.declared.command.Command.TheVariants as command
use Rattle.sg_wire.specs.declared.command.CdbFault.{CdbFault}
use Rattle.sg_wire.specs.declared.extent.Extent.{Extent}
use Rattle.sg_wire.specs.CdbDecoding.{command_in}
use Rattle.sg_store.specs.Disk.{Contents, IsWellFormed, anchored, block, block_at, unmapped, zero_block}
use Rattle.sg_store.specs.Disk.Mapping.{Data, Anchored}
use Rattle.sg_store.specs.Laws.{DisksStayWellFormed}
use Rattle.sg_wire.specs.declared.command.verify.ByteCheck.{ByteCheck}
use Rattle.sg_wire.specs.declared.command.verify.ByteCheck.TheVariants as check
use Rattle.sg_target.specs.BlockCommands.{BlocksOutFields, blocks_out, bytes_of, exchange_out}
use Rattle.sg_target.specs.BlockCommands.{copied_block, ored_block, past_capacity}
use Rattle.sg_target.proofs.MovedLemmas.{long_enough, moved-whole}
use Rattle.sg_target.proofs.OrWriteLemmas.{length-block, length-or}
use Rattle.sg_pages.specs.BlockDescriptor.{logical_block_length}
use Rattle.sg_wire.specs.SupportedOperations.{requested_report}
use Rattle.sg_pages.specs.Reports.{extended_header_asked, lists_unit, log_page_with}
use Rattle.sg_pages.specs.declared.reports.Report.TheVariants as report
use Rattle.sg_target.specs.Checks.{cdb_checks, checked_cdb, checked_operation}
use Rattle.sg_target.specs.Checks.{checked_parse, not_ready, out_of_range}
use Rattle.sg_target.specs.Checks.{requested, short_data_out, unsupported_value, write_protection}
use Rattle.sg_target.specs.Config.{ConfigFields}
use Rattle.sg_target.specs.DataOut.{blocks_need, moved, need}
use Rattle.sg_target.specs.Demands.{Demands, bad_atomic, bad_comparison, bad_same}
use Rattle.sg_target.specs.CopyRequest.{copy_asked, list_asked}
use Rattle.sg_target.specs.Demands.{demands, extent, list_refusal}
use Rattle.sg_target.specs.Demands.{exchange_need, takes, takes_blocks, verify, verify_only, write}
use Rattle.sg_target.specs.Demands.{too_long, same_length, unmap_extent, unmap_extents}
use Rattle.sg_target.specs.Demands.{unmap_or_fill}
use Rattle.sg_target.specs.Effect.{Effect}
use Rattle.sg_target.specs.Extents.{AreOnDisk}
use Rattle.sg_target.specs.ProvisioningCommands.{block_out, changed_in_turn, same_block, unmaps}
use Rattle.sg_target.specs.Demands.{extents_out}
use Rattle.sg_target.specs.Refusal.{checked_next, first_some, or_refused, unless_refused, when_sound}
use Rattle.sg_target.specs.Semantics.{effect_of, medium_use}
use Rattle.sg_target.specs.State.{State, config_of, profile_of}
use Rattle.sg_target.specs.declared.operation.Operation.{Operation}
use Rattle.sg_target.specs.declared.operation.Operation.TheVariants as operation
use Rattle.sg_target.specs.declared.refusal.Refusal.{Refusal}

-- ---- what an operation brings

-- the bytes of its blocks, or one block
abbrev pub IsSound : Operation → Type 0
IsSound (operation.Write out) = length out.bytes ≡ bytes_of out.extent
IsSound (operation.CompareAndWrite exchange) = length exchange.replacement ≡ bytes_of exchange.extent
IsSound (operation.OrWrite out) = length out.bytes ≡ bytes_of out.extent
IsSound (operation.Fill extent block) = length block ≡ logical_block_length
IsSound _ = Unit {0}

abbrev Sound : Result Operation Refusal → Type 0
Sound (Ok o) = IsSound o
Sound (Err refusal) = Unit {0}

when : {A : Type 0} (found : Result A Refusal) (becomes : A → Operation)
    → ((value : A) → IsSound (becomes value)) → Sound (when_sound found becomes)
when (Ok value) becomes h = h value
when (Err refusal) becomes h = tt

copy-sound : (segment : Option Segment) → IsSound (option_map_or operation.Copy segment operation.Nothing)
copy-sound (Some segment) = tt
copy-sound None = tt

unless : (refused : Option Refusal) (asked : Result Operation Refusal) → (refused ≡ None → Sound asked)
    → Sound (unless_refused refused asked)
unless None asked h = h refl
unless (Some refusal) asked h = tt

requested-sound : (d : Demands) (data_out : List ℕ) → Sound d.operation
    → Sound (requested d data_out)
requested-sound d data_out h =
    unless
    (first_some (unsupported_value d.unsupported ∷ short_data_out d.data_out data_out ∷ []))
    d.operation (λ e. h)

takes-sound : (config : ConfigFields) (n : ℕ) (unsupported : Option ℕ)
    (asked : Result Operation Refusal) (data_out : List ℕ) → (n ≤ length data_out → Sound asked)
    → Sound (requested (takes config n unsupported asked) data_out)
takes-sound config n unsupported asked data_out h =
    unless
    (first_some (unsupported_value unsupported ∷ short_data_out (Some (need config n)) data_out ∷ []))
    asked (λ e. h (long_enough config n unsupported data_out e))

whole : (n : ℕ) (data_out : List ℕ) → n ≤ length data_out → length (take n data_out) ≡ n
whole n data_out h = omega (arith, length-take n data_out)

blocks-sound : (config : ConfigFields) (extent : Extent) (unsupported : Option ℕ)
    (asked : BlocksOutFields → Operation) (data_out : List ℕ)
    → ((out : BlocksOutFields) → length out.bytes ≡ bytes_of out.extent → IsSound (asked out))
    → Sound (requested (takes_blocks config extent unsupported asked data_out) data_out)
blocks-sound config extent unsupported asked data_out h =
    let out = moved config extent data_out in
    unless
    (first_some
    (unsupported_value unsupported ∷ short_data_out (Some (blocks_need config extent)) data_out ∷ []))
    (Ok (asked (blocks_out out data_out)))
    (λ e. h (blocks_out out data_out)
    (whole (bytes_of out) data_out (moved-whole config extent unsupported data_out e)))

write-sound : (config : ConfigFields) (extent : Extent) (unsupported : Option ℕ) (data_out : List ℕ)
    → Sound (requested (write config extent unsupported data_out) data_out)
write-sound config extent unsupported data_out =
    blocks-sound config extent unsupported operation.Write data_out (λ out h. h)

atomic-sound : (config : ConfigFields) (extent : Extent) (unsupported : Option ℕ) (data_out : List ℕ)
    → Sound (requested (takes config (bytes_of extent) unsupported (Ok
    (operation.Write (blocks_out extent data_out))))
    data_out)
atomic-sound config extent unsupported data_out =
    takes-sound config (bytes_of extent) unsupported
    (Ok (operation.Write (blocks_out extent data_out))) data_out (whole (bytes_of extent) data_out)

fill-or-unmap : (anchor is_unmap : Bool) (extent : Extent) (block : List ℕ)
    → length block ≡ logical_block_length
    → IsSound (cond is_unmap (unmap_extent anchor extent) (operation.Fill extent block))
fill-or-unmap true true extent block h = tt
fill-or-unmap false true extent block h = tt
fill-or-unmap anchor false extent block h = h

-- WRITE SAME has a whole block, with NDOB, too
pub same-whole : (ndob : Bool) (data_out : List ℕ) → same_length ndob ≤ length data_out
    → length (same_block ndob data_out) ≡ logical_block_length
unfolding zero_block
same-whole true data_out h = refl
same-whole false data_out h = whole logical_block_length data_out h

write_same-sound : (config : ConfigFields) (anchor unmap ndob : Bool) (extent : Extent)
    (unsupported : Option ℕ) (data_out : List ℕ)
    → Sound (requested (takes config (same_length ndob) unsupported
    (Ok (unmap_or_fill anchor unmap extent (same_block ndob data_out)))) data_out)
write_same-sound config anchor unmap ndob extent unsupported data_out =
    let block = same_block ndob data_out in
    takes-sound config (same_length ndob) unsupported
    (Ok (unmap_or_fill anchor unmap extent block)) data_out
    (λ h. fill-or-unmap anchor (unmaps unmap block) extent block (same-whole ndob data_out h))

extents-sound : (anchor : Bool) (extents : List Extent) → IsSound (unmap_extents anchor extents)
extents-sound true extents = tt
extents-sound false extents = tt

-- VERIFY brings nothing that has to be sound
each-sound : (config : ConfigFields) (extent : Extent) (byte : ℕ) (data_out : List ℕ) (none : Bool)
    → Sound (requested (cond none (verify_only config extent byte)
    (takes config logical_block_length (too_long config extent.count byte)
    (Ok (operation.CompareEach extent (block_out data_out))))) data_out)
each-sound config extent byte data_out true =
    requested-sound (verify_only config extent byte) data_out tt
each-sound config extent byte data_out false =
    takes-sound config logical_block_length (too_long config extent.count byte)
    (Ok (operation.CompareEach extent (block_out data_out))) data_out (λ h. tt)

verify-sound : (config : ConfigFields) (check : ByteCheck) (extent : Extent) (byte : ℕ)
    (data_out : List ℕ) → Sound (requested (verify config check extent byte data_out) data_out)
verify-sound config check.Nothing extent byte data_out =
    requested-sound (verify config check.Nothing extent byte data_out) data_out tt
verify-sound config check.Reserved extent byte data_out =
    requested-sound (verify config check.Reserved extent byte data_out) data_out tt
verify-sound config check.DataOut extent byte data_out =
    requested-sound (verify config check.DataOut extent byte data_out) data_out tt
verify-sound config check.OneBlock extent byte data_out =
    each-sound config extent byte data_out (extent.count == 0)

-- COMPARE AND WRITE has as many bytes to write as to compare
exchange-sound : (extent : Extent) (data_out : List ℕ) (is_whole : Bool)
    → (length data_out == 2 * bytes_of extent) ≡ is_whole
    → Sound (requested (record {
      unsupported = cond is_whole None (Some 13);
      data_out = Some (exchange_need extent);
      operation = Ok (operation.CompareAndWrite (exchange_out extent data_out));
    }) data_out)
exchange-sound extent data_out false e = tt
exchange-sound extent data_out true e =
    let whole = eqb-true (length data_out) (2 * bytes_of extent) e in
    unless (first_some (short_data_out (Some (exchange_need extent)) data_out ∷ []))
    (Ok (operation.CompareAndWrite (exchange_out extent data_out)))
    (λ _. omega (arith, whole, length-drop (bytes_of extent) data_out))

-- FORMAT UNIT brings nothing that has to be sound
format-sound : (refused : Option Refusal) (blocks : ℕ)
    → Sound (unless_refused refused (Ok (operation.UnmapAll blocks)))
format-sound None blocks = tt
format-sound (Some refusal) blocks = tt

command-sound : (config : ConfigFields) (c : Command) (data_out : List ℕ)
    → Sound (requested (demands config c data_out) data_out)
command-sound config (command.Write6 short) data_out =
    write-sound config (extent short.0 short.1) None data_out
command-sound config (command.Write10 c) data_out =
    write-sound config (extent c.lba c.count) (too_long config c.count 7) data_out
command-sound config (command.Write12 c) data_out =
    write-sound config (extent c.lba c.count) (too_long config c.count 6) data_out
command-sound config (command.Write16 c) data_out =
    write-sound config (extent c.lba c.count) (too_long config c.count 10) data_out
command-sound config (command.WriteAndVerify10 c) data_out =
    write-sound config (extent c.extent.lba c.extent.count)
    (bad_comparison c.byte_check (too_long config c.extent.count 7)) data_out
command-sound config (command.WriteAndVerify12 c) data_out =
    write-sound config (extent c.extent.lba c.extent.count)
    (bad_comparison c.byte_check (too_long config c.extent.count 6)) data_out
command-sound config (command.WriteAndVerify16 c) data_out =
    write-sound config (extent c.extent.lba c.extent.count)
    (bad_comparison c.byte_check (too_long config c.extent.count 10)) data_out
command-sound config (command.CompareAndWrite c) data_out =
    let named = extent c.lba c.count in
    exchange-sound named data_out (length data_out == 2 * bytes_of named) refl
command-sound config (command.OrWrite16 c) data_out =
    blocks-sound config (extent c.lba c.count) (too_long config c.count 10) operation.OrWrite data_out
    (λ out h. h)
command-sound config (command.WriteAtomic16 c) data_out =
    atomic-sound config (extent c.lba c.count) (bad_atomic config c.boundary c.count) data_out
command-sound config (command.Verify10 c) data_out =
    verify-sound config c.byte_check (extent c.extent.lba c.extent.count) 7 data_out
command-sound config (command.Verify12 c) data_out =
    verify-sound config c.byte_check (extent c.extent.lba c.extent.count) 6 data_out
command-sound config (command.Verify16 c) data_out =
    verify-sound config c.byte_check (extent c.extent.lba c.extent.count) 10 data_out
command-sound config (command.FormatUnit c) data_out =
    requested-sound (demands config (command.FormatUnit c) data_out) data_out
    (format-sound (list_refusal c data_out) config.blocks)
command-sound config (command.ExtendedCopy c) data_out =
    requested-sound (demands config (command.ExtendedCopy c) data_out) data_out
    (when (list_asked config (first_bytes c.list_length data_out)) copy_asked
    (λ list. copy-sound list.segment))
command-sound config (command.LogSense c) data_out =
    requested-sound (demands config (command.LogSense c) data_out) data_out
    (when
    (or_refused (λ byte. CheckCondition (InvalidFieldInCdb byte))
    (log_page_with c.page_code c.subpage_code c.parameter_pointer))
    (λ page. operation.ReturnReport (report.Log page c.parameter_pointer) c.allocation_length)
    (λ page. tt))
command-sound config (command.ReportSupportedOperationCodes c) data_out =
    requested-sound (demands config (command.ReportSupportedOperationCodes c) data_out) data_out
    (when
    (ok_or (requested_report config.identity.profile c) (CheckCondition (InvalidFieldInCdb 2)))
    (λ requested. operation.ReturnReport (report.Commands requested) c.allocation_length)
    (λ requested. tt))
command-sound config (command.ReportTargetPortGroups c) data_out =
    requested-sound (demands config (command.ReportTargetPortGroups c) data_out) data_out
    (when (ok_or (extended_header_asked c.format) (CheckCondition (InvalidFieldInCdb 1)))
    (λ header. operation.ReturnReport (report.TargetPortGroups header) c.allocation_length)
    (λ header. tt))
command-sound config (command.ReportLuns c) data_out =
    requested-sound (demands config (command.ReportLuns c) data_out) data_out
    (when (ok_or (lists_unit c.select) (CheckCondition (InvalidFieldInCdb 2)))
    (λ listed. operation.ReturnLuns listed c.allocation_length) (λ listed. tt))
command-sound config (command.WriteSame10 c) data_out =
    write_same-sound config c.anchor c.unmap false (extent c.lba c.count)
    (bad_same config c.anchor c.unmap false c.count 7 data_out) data_out
command-sound config (command.WriteSame16 c) data_out =
    write_same-sound config c.anchor c.unmap c.ndob (extent c.lba c.count)
    (bad_same config c.anchor c.unmap c.ndob c.count 10 data_out) data_out
command-sound config (command.Inquiry c) data_out =
    requested-sound (demands config (command.Inquiry c) data_out) data_out
    (when (ok_or (inquiry_page config.identity.profile c.evpd c.page_code)
    (CheckCondition (InvalidFieldInCdb 2)))
    (λ page. operation.ReturnInquiry page c.allocation_length) (λ page. tt))
command-sound config (command.Unmap c) data_out =
    requested-sound (demands config (command.Unmap c) data_out) data_out
    (when (extents_out config c.list_length data_out) (unmap_extents c.anchor)
    (extents-sound c.anchor))
command-sound config (command.PersistentReserveOut c) data_out =
    requested-sound (demands config (command.PersistentReserveOut c) data_out) data_out
    (when (fields_out (rules_of config.identity.profile) c.action
    (first_bytes c.list_length data_out))
    (operation.ChangeReservations c.action c.scope_type) (λ list. tt))
command-sound config c data_out = requested-sound (demands config c data_out) data_out tt

-- ---- what has passed the checks

-- extents that are not refused are on the disk
past-none : (capacity end : ℕ) (refusal : Refusal) (checks : List (Option Refusal)) (is_past : Bool)
    → nat_lt capacity end ≡ is_past
    → first_some (cond is_past (Some refusal) None ∷ checks) ≡ None
    → (end ≤ capacity) × (first_some checks ≡ None)
past-none capacity end refusal checks true past e = cc
past-none capacity end refusal checks false past e = (grind (arith, nat_tests), e)

pub on_disk : (capacity : ℕ) (extents : List Extent) → out_of_range capacity extents ≡ None
    → AreOnDisk capacity extents
unfolding out_of_range
on_disk capacity [] e = tt
on_disk capacity (one ∷ rest) e =
    let h = past-none capacity (one.lba + one.count)
    (CheckCondition (LbaOutOfRange (max one.lba capacity)))
    (map (past_capacity capacity) rest) (nat_lt capacity (one.lba + one.count)) refl e in
    (h.0, on_disk capacity rest h.1)

-- the operation's data is sound, and its blocks are on the disk
pub record IsReady (state : State) (o : Operation) : Type 0 where
  pub sound : IsSound o
  pub on_disk : AreOnDisk state.disk.capacity (medium_use o).extents

abbrev pub Ready : State → Result Operation Refusal → Type 0
Ready state (Ok o) = IsReady state o
Ready state (Err refusal) = Unit {0}

passes : (state : State) (o : Operation) (idle range protection : Option Refusal)
    → (range ≡ None → IsReady state o)
    → Ready state (unless_refused (first_some (idle ∷ range ∷ protection ∷ [])) (Ok o))
passes state o None None None h = h refl
passes state o None None (Some refusal) h = tt
passes state o None (Some refusal) protection h = tt
passes state o (Some refusal) range protection h = tt

operation-ready : (state : State) (o : Operation) → IsSound o → Ready state (checked_operation state o)
operation-ready state o h =
    let medium = medium_use o in
    passes state o (not_ready state medium) (out_of_range state.disk.capacity medium.extents)
    (write_protection (rules_of (profile_of state)) state.modes medium)
    (λ e. record { sound = h; on_disk = on_disk state.disk.capacity medium.extents e })

next-ready : (state : State) (asked : Result Operation Refusal) → Sound asked
    → Ready state (checked_next asked (checked_operation state))
next-ready state (Ok o) h = operation-ready state o h
next-ready state (Err refusal) h = tt

parse-ready : (state : State) (parsed : Result Command CdbFault) (data_out : List ℕ)
    → Ready state (checked_parse state parsed data_out)
parse-ready state (Ok c) data_out =
    next-ready state (requested (demands (config_of state) c data_out) data_out)
    (command-sound (config_of state) c data_out)
parse-ready state (Err fault) data_out = tt

unless-ready : (state : State) (refused : Option Refusal) (checked : Result Operation Refusal)
    → Ready state checked → Ready state (unless_refused refused checked)
unless-ready state None checked h = h
unless-ready state (Some refusal) checked h = tt

pub cdb-ready : (state : State) (i : ℕ) (cdb data_out : List ℕ)
    → Ready state (checked_cdb state i cdb data_out)
unfolding checked_cdb
cdb-ready state i cdb data_out =
    let command = command_in (profile_of state) cdb in
    unless-ready state (first_some (cdb_checks state i cdb)) (checked_parse state command data_out)
    (parse-ready state command data_out)

-- ---- what is done then

abbrev pub KeepsBlocks : Result Effect Refusal → Type 0
KeepsBlocks (Ok effect) = IsWellFormed effect.after.disk.capacity effect.after.disk.contents
KeepsBlocks (Err refusal) = Unit {0}

abbrev HasBlocks : State → Type 0
HasBlocks state = IsWellFormed state.disk.capacity state.disk.contents

sound-keeps : {A : Type 0} (found : Result A Refusal) (becomes : A → Effect)
    → ((value : A) → HasBlocks (becomes value).after) → KeepsBlocks (when_sound found becomes)
sound-keeps (Ok value) becomes h = h value
sound-keeps (Err refusal) becomes h = tt

-- one block of some
block-length : (bytes : List ℕ) (count i : ℕ) → length bytes ≡ 512 * count → i < count
    → length (block_at bytes i) ≡ 512
block-length bytes count i h below =
    omega (arith, length-take 512 (drop (512 * i) bytes), length-drop (512 * i) bytes)

both-whole : {m n : ℕ} → m ≡ 512 → n ≡ 512 → min m n ≡ 512
both-whole h k = omega (arith, h, k)

unmapped-keeps : DisksStayWellFormed → (capacity : ℕ) (extents : List Extent) (contents : Contents)
    → IsWellFormed capacity contents → IsWellFormed capacity (changed_in_turn unmapped contents extents)
unmapped-keeps disks capacity [] contents h = h
unmapped-keeps disks capacity (one ∷ rest) contents h =
    unmapped-keeps disks capacity rest (unmapped contents one.lba one.count)
    (disks.unmapping capacity contents one.lba one.count h)

anchored-keeps : DisksStayWellFormed → (capacity : ℕ) (extents : List Extent) (contents : Contents)
    → IsWellFormed capacity contents → AreOnDisk capacity extents
    → IsWellFormed capacity (changed_in_turn anchored contents extents)
anchored-keeps disks capacity [] contents h on_disk = h
anchored-keeps disks capacity (one ∷ rest) contents h on_disk =
    anchored-keeps disks capacity rest (anchored contents one.lba one.count)
    (disks.mapping capacity contents one.lba one.count (λ index. Anchored) h on_disk.0
    (λ i below. tt)) on_disk.1

operation-keeps : DisksStayWellFormed → (state : State) (i : ℕ) (o : Operation)
    → HasBlocks state → IsReady state o → KeepsBlocks (effect_of state i o)
operation-keeps disks state i (operation.Write out) h ready =
    disks.mapping state.disk.capacity state.disk.contents out.extent.lba out.extent.count
    (λ index. Data (block_at out.bytes index)) h ready.on_disk.0
    (λ k below. block-length out.bytes out.extent.count k ready.sound below)
operation-keeps disks state i (operation.CompareAndWrite exchange) h ready =
    disks.mapping state.disk.capacity state.disk.contents exchange.extent.lba exchange.extent.count
    (λ index. Data (block_at exchange.replacement index)) h ready.on_disk.0
    (λ k below. block-length exchange.replacement exchange.extent.count k ready.sound below)
operation-keeps disks state i (operation.OrWrite out) h ready =
    disks.mapping state.disk.capacity state.disk.contents out.extent.lba out.extent.count
    (λ index. Data (ored_block state.disk.contents out index)) h ready.on_disk.0
    (λ k below. length-or (block state.disk.contents (out.extent.lba + k)) (block_at out.bytes k)
    ∙ both-whole (length-block state.disk.capacity state.disk.contents (out.extent.lba + k) h)
    (block-length out.bytes out.extent.count k ready.sound below))
operation-keeps disks state i (operation.Copy segment) h ready =
    disks.mapping state.disk.capacity state.disk.contents segment.destination segment.blocks
    (λ index. Data (copied_block state.disk.contents segment index)) h ready.on_disk.1.0
    (λ k below. length-block state.disk.capacity state.disk.contents (segment.source + k) h)
operation-keeps disks state i (operation.Fill extent block) h ready =
    disks.mapping state.disk.capacity state.disk.contents extent.lba extent.count
    (λ index. Data block) h ready.on_disk.0 (λ k below. ready.sound)
operation-keeps disks state i (operation.Unmap extents) h ready =
    unmapped-keeps disks state.disk.capacity extents state.disk.contents h
operation-keeps disks state i (operation.UnmapExtent extent) h ready =
    unmapped-keeps disks state.disk.capacity (extent ∷ []) state.disk.contents h
operation-keeps disks state i (operation.UnmapAll blocks) h ready =
    unmapped-keeps disks state.disk.capacity (extent 0 blocks ∷ []) state.disk.contents h
operation-keeps disks state i (operation.Anchor extents) h ready =
    anchored-keeps disks state.disk.capacity extents state.disk.contents h ready.on_disk
operation-keeps disks state i (operation.AnchorExtent extent) h ready =
    anchored-keeps disks state.disk.capacity (extent ∷ []) state.disk.contents h ready.on_disk
operation-keeps disks state i (operation.ReturnModes request n) h ready = sound-keeps _ _ (λ list. h)
operation-keeps disks state i (operation.ChangeModes width sp list) h ready =
    sound-keeps _ _ (λ modes. h)
operation-keeps disks state i (operation.ChangeReservations action scope_type list) h ready =
    sound-keeps _ _ (λ change. h)
operation-keeps disks state i _ h ready = h

pub by-checks : DisksStayWellFormed → (state : State) (i : ℕ) (checked : Result Operation Refusal)
    → HasBlocks state → Ready state checked → KeepsBlocks (checked_next checked (effect_of state i))
by-checks disks state i (Ok o) h ready = operation-keeps disks state i o h ready
by-checks disks state i (Err refusal) h ready = tt

pub keeps-blocks : DisksStayWellFormed → (state : State) (i : ℕ) (cdb data_out : List ℕ)
    → HasBlocks state → KeepsBlocks (checked_next (checked_cdb state i cdb data_out) (effect_of state i))
keeps-blocks disks state i cdb data_out h =
    by-checks disks state i (checked_cdb state i cdb data_out) h (cdb-ready state i cdb data_out)
