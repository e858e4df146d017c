-- A WRITE over addresses that have a block of the pool is not refused for space.
use Rattle.std.proofs.Common.{◌≡◌, ℕ, List, [], ◌∷◌, Bool, true, false, cond, Option, Some, None}
use Rattle.std.proofs.Common.{Result, Ok, Err, refl, sym, ap, ◌∙◌}
use Rattle.std.proofs.lemmas.Bool.{false≢true}
use Rattle.std.specs.Prelude.{◌==◌, if◌then◌else◌, ◌+◌, ◌^◌, ◌&&◌, nat_lt, length}
use Rattle.std.specs.Prelude.{option_and_then, slice_index}
use Rattle.std.specs.Option.{option_map}
use Rattle.sg_copy.specs.declared.fault.CopyFault.{CopyFault}
use Rattle.sg_copy.specs.declared.fault.CopyFault.TheVariants.{Length, InvalidAt, NotReachable}
use Rattle.sg_copy.specs.declared.fault.CopyFault.TheVariants.{OtherDeviceType, PastCapacity}
use Rattle.sg_wire.specs.CdbDecoding.{class_in, command_in, command_of}
use Rattle.sg_wire.specs.Profile.{rules_of}
use Rattle.sg_wire.specs.SenseData.{SenseFields, fixed_data, sense_data}
use Rattle.sg_wire.specs.declared.command.CdbFault.{CdbFault}
use Rattle.sg_wire.specs.declared.command.CdbFault.TheVariants.{Empty, Opcode, Short, Field}
use Rattle.sg_wire.specs.declared.command.Class.{Class}
use Rattle.sg_wire.specs.declared.command.Command.{Command}
use Rattle.sg_wire.specs.declared.command.Command.TheVariants as command
use Rattle.sg_wire.specs.declared.extent.Extent.{Extent}
use Rattle.sg_wire.specs.declared.sense.Format.{Format}
use Rattle.sg_wire.specs.declared.sense.Format.TheVariants.{Fixed, Descriptor}
use Rattle.sg_wire.specs.declared.profile.Rules.{Rules}
use Rattle.sg_pages.specs.ModePage.{ModeState, write_protected}
use Rattle.sg_units.specs.Access.{allows}
use Rattle.sg_units.specs.declared.unit_attention.UnitAttention.{UnitAttention}
use Rattle.sg_target.specs.BlockCommands.{blocks_out, bytes_of, past_capacity}
use Rattle.sg_wire.proofs.ProfileLemmas.{read-any}
use Rattle.sg_target.specs.Checks.{attention_refusal, bad_field, blocking_attention, cdb_checks}
use Rattle.sg_target.specs.Checks.{checked_cdb, checked_effect, if_it_outranks, outranking_attention}
use Rattle.sg_target.specs.Checks.{outranks}
use Rattle.sg_target.specs.Checks.{checked_operation, checked_parse, empty_cdb, medium_checks, not_ready}
use Rattle.sg_target.specs.Checks.{out_of_range, pending_attention, requested}
use Rattle.sg_target.specs.Checks.{reservation_conflict, short_cdb, short_data_out, unknown_opcode}
use Rattle.sg_target.specs.Checks.{unsupported_value, write_protection, writes_some}
use Rattle.sg_target.specs.Config.{ConfigFields}
use Rattle.sg_target.specs.CommandLaws.{WritesOverUsedAddressesHaveSpace, blocks_to_write}
use Rattle.sg_target.specs.DataOut.{blocks_need, moved, need, short_reason}
use Rattle.sg_target.specs.Demands.{bad_atomic, bad_comparison, extent, takes, too_long, write}
use Rattle.sg_target.specs.Effect.{Effect}
use Rattle.sg_target.specs.Refusal.{checked_next, first_some, refusal_for, sense_of, unless_refused}
use Rattle.sg_target.specs.Semantics.{MediumUse, effect_of, medium_use}
use Rattle.sg_target.specs.State.{State, config_of, profile_of}
use Rattle.sg_target.specs.Step.{Answer, outcome, refusal_answer, sense_format}
use Rattle.sg_target.specs.declared.operation.Operation.TheVariants as operation
use Rattle.sg_target.specs.declared.refusal.Reason.{Reason}
use Rattle.sg_target.specs.declared.refusal.Reason.TheVariants.{LbaOutOfRange}
use Rattle.sg_target.specs.declared.refusal.Reason.TheVariants.{SoftwareWriteProtected, WriteProtected}
use Rattle.sg_target.specs.declared.refusal.Reason.TheVariants.{DataPhaseError, InvalidInformationUnit}
use Rattle.sg_target.specs.declared.refusal.Reason.TheVariants.{Copy, Miscompare}
use Rattle.sg_target.specs.declared.refusal.Reason.TheVariants.{SpaceAllocationFailed, Fault}
use Rattle.sg_target.specs.declared.refusal.Refusal.{Refusal}
use Rattle.sg_target.specs.declared.refusal.Refusal.TheVariants.{Conflict, CheckCondition}
use Rattle.sg_target.specs.declared.refusal.Refusal.TheVariants.{Busy, TaskSetFull, NoReply}
use Rattle.sg_target.specs.declared.refusal.Refusal.TheVariants.{DeferredError}
use Rattle.sg_target.specs.declared.reply.Status.TheVariants.{Good}
use Rattle.sg_fencing.specs.Laws.{WritesOverUsedAddressesAreNeverRefusedForSpace}

-- ---- The refusal for space, and its answer

-- (an armed fault may look like it, and no WRITE is refused for a copy)
abbrev is_for_space : Reason → Bool
is_for_space SpaceAllocationFailed = true
is_for_space (Fault code first_bad) = true
is_for_space (Copy fault) = true
is_for_space _ = false

abbrev IsOther : Refusal → Type 0
IsOther (CheckCondition reason) = is_for_space reason ≡ false
IsOther (DeferredError code) = ⊥
IsOther _ = Unit {0}

abbrev IsOtherIfAny : Option Refusal → Type 0
IsOtherIfAny None = Unit {0}
IsOtherIfAny (Some refusal) = IsOther refusal

abbrev IsOtherIfRefused : {A : Type 0} → Result A Refusal → Type 0
IsOtherIfRefused (Ok value) = Unit {0}
IsOtherIfRefused (Err refusal) = IsOther refusal

-- the lists differ in a byte
differ : (first second : List ℕ) (index byte : ℕ) → (slice_index first index == byte) ≡ false
    → (slice_index second index == byte) ≡ true → first ≡ second → ⊥
differ first second index byte other is same =
    false≢true (sym other ∙ (ap (λ bytes. slice_index bytes index == byte) same ∙ is))

-- so they do if the first has INFORMATION in fixed format
differ-fixed : (fits : Bool) (lba : ℕ) (s : SenseFields) (second : List ℕ) (index byte : ℕ)
    → (slice_index (fixed_data 0xF0 lba s) index == byte) ≡ false
    → (slice_index (fixed_data 0x70 0 s) index == byte) ≡ false
    → (slice_index second index == byte) ≡ true
    → cond fits (fixed_data 0xF0 lba s) (fixed_data 0x70 0 s) ≡ second → ⊥
differ-fixed true lba s second index byte with_lba without is =
    differ (fixed_data 0xF0 lba s) second index byte with_lba is
differ-fixed false lba s second index byte with_lba without is =
    differ (fixed_data 0x70 0 s) second index byte without is

-- the sense key is byte 2 in fixed format, and byte 1 in descriptor format; only write
-- protection has the same key, and has another qualifier
fixed-apart : (reason : Reason) → is_for_space reason ≡ false
    → sense_data Fixed (sense_of reason) ≡ sense_data Fixed (sense_of SpaceAllocationFailed) → ⊥
unfolding sense_data
fixed-apart SpaceAllocationFailed h = absurd (false≢true (sym h))
fixed-apart (Fault code first_bad) h = absurd (false≢true (sym h))
fixed-apart (Copy fault) h = absurd (false≢true (sym h))
fixed-apart (LbaOutOfRange lba) h =
    differ-fixed (nat_lt lba (2 ^ 32)) lba (sense_of (LbaOutOfRange lba)) _ 2 7 refl refl refl
fixed-apart (Miscompare offset) h =
    differ-fixed (nat_lt offset (2 ^ 32)) offset (sense_of (Miscompare offset)) _ 2 7 refl refl refl
fixed-apart SoftwareWriteProtected h = differ _ _ 13 7 refl refl
fixed-apart WriteProtected h = differ _ _ 13 7 refl refl
fixed-apart _ h = differ _ _ 2 7 refl refl

descriptor-apart : (reason : Reason) → is_for_space reason ≡ false
    → sense_data Descriptor (sense_of reason) ≡ sense_data Descriptor (sense_of SpaceAllocationFailed)
    → ⊥
unfolding sense_data
descriptor-apart SpaceAllocationFailed h = absurd (false≢true (sym h))
descriptor-apart (Fault code first_bad) h = absurd (false≢true (sym h))
descriptor-apart (Copy fault) h = absurd (false≢true (sym h))
descriptor-apart SoftwareWriteProtected h = differ _ _ 3 7 refl refl
descriptor-apart WriteProtected h = differ _ _ 3 7 refl refl
descriptor-apart _ h = differ _ _ 1 7 refl refl

copy-descriptor-apart : (fault : CopyFault)
    → sense_data Fixed (sense_of (Copy fault)) ≡ sense_data Descriptor (sense_of SpaceAllocationFailed) → ⊥
unfolding sense_data
copy-descriptor-apart Length = differ _ _ 0 0x72 refl refl
copy-descriptor-apart (InvalidAt what byte) = differ _ _ 0 0x72 refl refl
copy-descriptor-apart NotReachable = differ _ _ 0 0x72 refl refl
copy-descriptor-apart OtherDeviceType = differ _ _ 0 0x72 refl refl
copy-descriptor-apart PastCapacity = differ _ _ 0 0x72 refl refl

fixed-descriptor-apart : (reason : Reason)
    → sense_data Fixed (sense_of reason) ≡ sense_data Descriptor (sense_of SpaceAllocationFailed) → ⊥
unfolding sense_data
fixed-descriptor-apart (LbaOutOfRange lba) =
    differ-fixed (nat_lt lba (2 ^ 32)) lba (sense_of (LbaOutOfRange lba)) _ 0 0x72 refl refl refl
fixed-descriptor-apart (Miscompare offset) =
    differ-fixed (nat_lt offset (2 ^ 32)) offset (sense_of (Miscompare offset)) _ 0 0x72 refl refl refl
fixed-descriptor-apart (Fault code (Some lba)) =
    differ-fixed (nat_lt lba (2 ^ 32)) lba (sense_of (Fault code (Some lba))) _ 0 0x72 refl refl refl
fixed-descriptor-apart (Copy fault) = copy-descriptor-apart fault
fixed-descriptor-apart (Fault code None) = differ _ _ 0 0x72 refl refl
fixed-descriptor-apart _ = differ _ _ 0 0x72 refl refl

descriptor-fixed-apart : (reason : Reason)
    → sense_data Descriptor (sense_of reason) ≡ sense_data Fixed (sense_of SpaceAllocationFailed) → ⊥
unfolding sense_data
descriptor-fixed-apart reason = differ _ _ 0 0x70 refl refl

sense-apart : (used format : Format) (reason : Reason) → is_for_space reason ≡ false
    → sense_data used (sense_of reason) ≡ sense_data format (sense_of SpaceAllocationFailed) → ⊥
sense-apart Fixed Fixed reason h = fixed-apart reason h
sense-apart Descriptor Descriptor reason h = descriptor-apart reason h
sense-apart Fixed Descriptor reason h = fixed-descriptor-apart reason
sense-apart Descriptor Fixed reason h = descriptor-fixed-apart reason

answer-apart : (used format : Format) (refusal : Refusal) → IsOther refusal
    → refusal_answer used refusal ≡ refusal_answer format (CheckCondition SpaceAllocationFailed) → ⊥
answer-apart used format Conflict h same = let k = ap (λ (a : Answer). a.status) same in cc
answer-apart used format Busy h same = let k = ap (λ (a : Answer). a.status) same in cc
answer-apart used format TaskSetFull h same = let k = ap (λ (a : Answer). a.status) same in cc
answer-apart used format NoReply h same = let k = ap (λ (a : Answer). a.status) same in cc
answer-apart used format (DeferredError code) h same = absurd h
answer-apart used format (CheckCondition reason) h same =
    sense-apart used format reason h (ap (λ (a : Answer). a.sense) same)

-- ---- Checks

first-other : (check : Option Refusal) (checks : List (Option Refusal)) → IsOtherIfAny check
    → IsOtherIfAny (first_some checks) → IsOtherIfAny (first_some (check ∷ checks))
first-other None checks h rest = rest
first-other (Some refusal) checks h rest = h

if-other : (b : Bool) (check : Option Refusal) → IsOtherIfAny check
    → IsOtherIfAny (if b then check else None)
if-other true check h = h
if-other false check h = tt

unless-other : (b : Bool) (check : Option Refusal) → IsOtherIfAny check
    → IsOtherIfAny (if b then None else check)
unless-other true check h = tt
unless-other false check h = h

mapped-other : {A : Type 0} (found : Option A) (refusal : A → Refusal)
    → ((value : A) → IsOther (refusal value)) → IsOtherIfAny (option_map refusal found)
mapped-other None refusal h = tt
mapped-other (Some value) refusal h = h value

empty-other : (parse : Result Command CdbFault) → IsOtherIfAny (empty_cdb parse)
empty-other (Err Empty) = refl
empty-other _ = tt

unknown-other : (parse : Result Command CdbFault) → IsOtherIfAny (unknown_opcode parse)
unknown-other (Err Opcode) = refl
unknown-other _ = tt

short-other : (parse : Result Command CdbFault) → IsOtherIfAny (short_cdb parse)
short-other (Err (Short count)) = refl
short-other _ = tt

field-other : (parse : Result Command CdbFault) → IsOtherIfAny (bad_field parse)
field-other (Err (Field byte)) = refl
field-other _ = tt

fault-other : (fault : CdbFault) → IsOther (refusal_for fault)
fault-other Empty = refl
fault-other fault = refl

class-other : (state : State) (i : ℕ) (class : Option Class)
    → IsOtherIfAny (option_and_then
    (λ class. if allows state.reservations i class then None else Some Conflict) class)
class-other state i None = tt
class-other state i (Some class) =
    unless-other (allows state.reservations i class) (Some Conflict) tt

reason-other : (config : ConfigFields) (is_illegal : Bool)
    → IsOther (CheckCondition (cond is_illegal InvalidInformationUnit DataPhaseError))
reason-other config true = refl
reason-other config false = refl

data-other : (config : ConfigFields) (n : ℕ) (data_out : List ℕ)
    → IsOtherIfAny (short_data_out (Some (need config n)) data_out)
data-other config n data_out =
    if-other (nat_lt (length data_out) n) _
    (reason-other config (rules_of config.identity.profile).short_data_out_is_illegal)

past-other : (capacity : ℕ) (e : Extent) → IsOtherIfAny (past_capacity capacity e)
past-other capacity e = if-other (nat_lt capacity (e.lba + e.count)) _ refl

short-other-by : (config : ConfigFields) (e : Extent) (takes_short : Bool)
    → IsOtherIfAny
    (cond takes_short (past_capacity config.blocks e) (Some (CheckCondition (short_reason config))))
short-other-by config e true = past-other config.blocks e
short-other-by config e false =
    reason-other config (rules_of config.identity.profile).short_data_out_is_illegal

blocks-other : (config : ConfigFields) (e : Extent) (data_out : List ℕ)
    → IsOtherIfAny (short_data_out (Some (blocks_need config e)) data_out)
blocks-other config e data_out =
    if-other (nat_lt (length data_out) (bytes_of e)) _
    (short-other-by config e config.identity.takes_short_data_out)

ready-other : (state : State) (medium : MediumUse) → IsOtherIfAny (not_ready state medium)
ready-other state medium = if-other (state.stopped && medium.needs_ready) _ refl

range-other : (capacity : ℕ) (e : Extent) → IsOtherIfAny (out_of_range capacity (e ∷ []))
unfolding out_of_range
range-other capacity e =
    first-other (past_capacity capacity e) [] (past-other capacity e) tt

protected-other : (only_writes : Bool)
    → IsOther (CheckCondition (cond only_writes WriteProtected SoftwareWriteProtected))
protected-other true = refl
protected-other false = refl

protection-other : (rules : Rules) (modes : ModeState) (medium : MediumUse)
    → IsOtherIfAny (write_protection rules modes medium)
unfolding write_protection
protection-other rules modes medium =
    if-other (write_protected modes && writes_some rules medium) _
    (protected-other rules.protects_only_writes)

ranked-other : (state : State) (found : Option UnitAttention)
    → IsOtherIfAny (option_and_then (if_it_outranks state) found)
ranked-other state None = tt
ranked-other state (Some condition) =
    if-other (outranks state condition) (Some (attention_refusal condition)) refl

cdb-other : (state : State) (i : ℕ) (cdb : List ℕ) → IsOtherIfAny (first_some (cdb_checks state i cdb))
cdb-other state i cdb =
    let c = command_in (profile_of state) cdb in
    let blocking = blocking_attention state i cdb in
    first-other (empty_cdb c) _ (empty-other c)
    (first-other (outranking_attention state i cdb) _ (ranked-other state blocking)
    (first-other (reservation_conflict state i cdb) _ (class-other state i (class_in (profile_of state) cdb))
    (first-other (pending_attention state i cdb) _ (mapped-other blocking _ (λ condition. refl))
    (first-other (unknown_opcode c) _ (unknown-other c)
    (first-other (short_cdb c) _ (short-other c) (first-other (bad_field c) [] (field-other c) tt))))))

-- ---- The command

module _ (state : State) (i : ℕ) (data_out : List ℕ) where
  by-medium : (out : Extent) (first : Option Refusal) → IsOtherIfAny first
      → IsOtherIfRefused
      (checked_next (unless_refused first (Ok (operation.Write (blocks_out out data_out))))
      (effect_of state i))
  by-medium out None h = tt
  by-medium out (Some refusal) h = h

  by-request : (out : Extent) (first : Option Refusal) → IsOtherIfAny first
      → IsOtherIfRefused
      (checked_next
      (checked_next (unless_refused first (Ok (operation.Write (blocks_out out data_out))))
      (checked_operation state))
      (effect_of state i))
  by-request out None h =
      by-medium out
      (first_some (medium_checks state (medium_use (operation.Write (blocks_out out data_out)))))
      (first-other (not_ready state (medium_use (operation.Write (blocks_out out data_out)))) _
      (ready-other state (medium_use (operation.Write (blocks_out out data_out))))
      (first-other (out_of_range state.disk.capacity (out ∷ [])) _
      (range-other state.disk.capacity out)
      (first-other
      (write_protection (rules_of (profile_of state)) state.modes
      (medium_use (operation.Write (blocks_out out data_out)))) []
      (protection-other _ state.modes (medium_use (operation.Write (blocks_out out data_out)))) tt)))
  by-request out (Some refusal) h = h

  write-other : (out : Extent) (unsupported : Option ℕ)
      → IsOtherIfRefused
      (checked_next
      (checked_next (requested (write (config_of state) out unsupported data_out) data_out)
      (checked_operation state))
      (effect_of state i))
  write-other out unsupported =
      let need = blocks_need (config_of state) out in
      by-request (moved (config_of state) out data_out)
      (first_some (unsupported_value unsupported ∷ short_data_out (Some need) data_out ∷ []))
      (first-other (unsupported_value unsupported) _
      (mapped-other unsupported _ (λ byte. refl))
      (first-other (short_data_out (Some need) data_out) []
      (blocks-other (config_of state) out data_out) tt))

  atomic-other : (out : Extent) (unsupported : Option ℕ)
      → IsOtherIfRefused
      (checked_next
      (checked_next (requested (takes (config_of state) (bytes_of out) unsupported
      (Ok (operation.Write (blocks_out out data_out)))) data_out)
      (checked_operation state))
      (effect_of state i))
  atomic-other out unsupported =
      let all = need (config_of state) (bytes_of out) in
      by-request out
      (first_some (unsupported_value unsupported ∷ short_data_out (Some all) data_out ∷ []))
      (first-other (unsupported_value unsupported) _
      (mapped-other unsupported _ (λ byte. refl))
      (first-other (short_data_out (Some all) data_out) []
      (data-other (config_of state) (bytes_of out) data_out) tt))

  by-cdb : (first : Option Refusal) (parse : Result Command CdbFault) (out : Extent)
      → IsOtherIfAny first
      → ((c : Command) → parse ≡ Ok c → blocks_to_write (Ok c) ≡ Some out)
      → IsOtherIfRefused
      (checked_next (unless_refused first (checked_parse state parse data_out)) (effect_of state i))
  by-cdb (Some refusal) parse out h is = h
  by-cdb None (Ok (command.Write6 c)) out h is = write-other (extent c.0 c.1) None
  by-cdb None (Ok (command.Write10 c)) out h is =
      write-other (extent c.lba c.count) (too_long (config_of state) c.count 7)
  by-cdb None (Ok (command.Write12 c)) out h is =
      write-other (extent c.lba c.count) (too_long (config_of state) c.count 6)
  by-cdb None (Ok (command.WriteAndVerify10 c)) out h is =
      write-other (extent c.extent.lba c.extent.count)
      (bad_comparison c.byte_check (too_long (config_of state) c.extent.count 7))
  by-cdb None (Ok (command.WriteAndVerify12 c)) out h is =
      write-other (extent c.extent.lba c.extent.count)
      (bad_comparison c.byte_check (too_long (config_of state) c.extent.count 6))
  by-cdb None (Ok (command.WriteAndVerify16 c)) out h is =
      write-other (extent c.extent.lba c.extent.count)
      (bad_comparison c.byte_check (too_long (config_of state) c.extent.count 10))
  by-cdb None (Ok (command.Write16 c)) out h is =
      write-other (extent c.lba c.count) (too_long (config_of state) c.count 10)
  by-cdb None (Ok (command.WriteAtomic16 c)) out h is =
      atomic-other (extent c.lba c.count) (bad_atomic (config_of state) c.boundary c.count)
  by-cdb None (Err fault) out h is = fault-other fault
  by-cdb None (Ok c) out h is = let none : blocks_to_write (Ok c) ≡ Some out = is c refl in cc

effect-other : (state : State) (i : ℕ) (cdb data_out : List ℕ) (out : Extent)
    → blocks_to_write (command_of cdb) ≡ Some out
    → IsOtherIfRefused (checked_effect state i cdb data_out)
unfolding checked_cdb
effect-other state i cdb data_out out is =
    by-cdb state i data_out (first_some (cdb_checks state i cdb)) (command_in (profile_of state) cdb) out
    (cdb-other state i cdb)
    (λ c e. sym (ap blocks_to_write (read-any (profile_of state) cdb c e)) ∙ is)

-- an effect ends with GOOD, and every other refusal has another answer
outcome-apart : (state : State) (i : ℕ) (checked : Result Effect Refusal) (format : Format)
    → IsOtherIfRefused checked
    → ((effect : Effect) → checked ≡ Ok effect → (outcome state i checked).answer.status ≡ Good)
    → (outcome state i checked).answer ≡ refusal_answer format (CheckCondition SpaceAllocationFailed)
    → ⊥
outcome-apart state i (Ok effect) format h good same =
    let k = sym (good effect refl) ∙ ap (λ (a : Answer). a.status) same in cc
outcome-apart state i (Err refusal) format h good same =
    answer-apart (sense_format state) format refusal h same

pub never-for-space : WritesOverUsedAddressesHaveSpace → WritesOverUsedAddressesAreNeverRefusedForSpace
never-for-space law state i cdb data_out out format w is used =
    outcome-apart state i (checked_effect state i cdb data_out) format
    (effect-other state i cdb data_out out is)
    (λ effect e. law state i cdb data_out out effect w is used e)
