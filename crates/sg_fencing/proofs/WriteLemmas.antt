-- A WRITE that nothing forbids passes each check.
use Rattle.std.proofs.Common.{◌≡◌, ◌≤◌, ℕ, List, [], ◌∷◌, Bool, true, false, Option, Some, None}
use Rattle.std.proofs.Common.{Result, Ok, Err, refl, subst, sym, ap, ◌∙◌, length, ◌+◌, ◌&&◌, ◌==◌, arith}
use Rattle.std.specs.Prelude.{if◌then◌else◌, nat_lt, option_and_then}
use Rattle.std.specs.Option.{option_map}
use Rattle.std.proofs.lemmas.Bool.Decides.{nat_tests}
use Rattle.sg_wire.specs.Laws.{CommandsHaveTheirClass, has_command}
use Rattle.sg_wire.specs.CdbDecoding.{class_in, command_in, command_of, is_blocked_in}
use Rattle.sg_wire.specs.Layout.{layout}
use Rattle.sg_wire.specs.Profile.{is_in, limits_of, rules_of}
use Rattle.sg_wire.specs.declared.command.CdbFault.{CdbFault}
use Rattle.sg_wire.specs.declared.command.Class.{Class}
use Rattle.sg_wire.specs.declared.command.Class.TheVariants.{Writes}
use Rattle.sg_wire.specs.declared.command.Command.{Command}
use Rattle.sg_wire.specs.declared.command.Command.TheVariants as command
use Rattle.sg_wire.specs.declared.command.verify.ByteCheck.{ByteCheck}
use Rattle.sg_wire.specs.declared.extent.Extent.{Extent}
use Rattle.sg_target.proofs.MovedLemmas.{its-blocks, its-comparison, its-undivided, moved-all}
use Rattle.sg_wire.specs.declared.profile.Profile.{Profile}
use Rattle.sg_wire.specs.declared.profile.Profile.TheVariants.{Base, Extended}
use Rattle.sg_wire.specs.declared.profile.Rules.{Rules}
use Rattle.sg_pages.specs.ModePage.{ModeState, write_protected}
use Rattle.sg_units.specs.Access.{allows}
use Rattle.sg_units.specs.Attentions.{oldest}
use Rattle.sg_target.specs.BlockCommands.{blocks_out, bytes_of, past_capacity, writing}
use Rattle.sg_wire.proofs.ProfileLemmas.{is-in, read-any}
use Rattle.sg_target.specs.Checks.{attention_refusal, bad_field, cdb_checks, checked_cdb}
use Rattle.sg_target.specs.Checks.{checked_effect, if_it_outranks, outranking_attention}
use Rattle.sg_target.specs.Checks.{checked_operation, checked_parse, empty_cdb, medium_checks, not_ready}
use Rattle.sg_target.specs.Checks.{out_of_range, pending_attention, requested}
use Rattle.sg_target.specs.Checks.{reservation_conflict, short_cdb, short_data_out, unknown_opcode}
use Rattle.sg_target.specs.Checks.{unsupported_value, write_protection, writes_some}
use Rattle.sg_target.specs.CommandLaws.{AreUsed, WritesOverUsedAddressesHaveSpace, blocks_to_write}
use Rattle.sg_target.specs.CommandLaws.{verified_blocks}
use Rattle.sg_target.specs.DataOut.{DataOutNeed, blocks_need, moved, need}
use Rattle.sg_target.specs.Demands.{Demands, bad_atomic, bad_comparison, extent, takes, too_long}
use Rattle.sg_target.specs.Demands.{write}
use Rattle.sg_target.specs.Effect.{Effect}
use Rattle.sg_target.specs.Refusal.{checked_next, first_some, unless_refused}
use Rattle.sg_target.specs.Semantics.{MediumUse, effect_of, medium_use}
use Rattle.sg_target.specs.State.{State, config_of, profile_of}
use Rattle.sg_target.specs.declared.operation.Operation.{Operation}
use Rattle.sg_target.specs.declared.operation.Operation.TheVariants as operation
use Rattle.sg_target.specs.declared.refusal.Refusal.{Refusal}
use Rattle.sg_target.specs.declared.refusal.Refusal.TheVariants.{Conflict}
use Rattle.sg_fencing.specs.Laws.{NothingForbids, WritesThatNothingForbidsEndWithGood}

-- ---- Checks that do not refuse

pub first-none : (check : Option Refusal) (checks : List (Option Refusal)) → check ≡ None
    → first_some checks ≡ None → first_some (check ∷ checks) ≡ None
first-none None checks h rest = rest
first-none (Some refusal) checks h rest = cc

if-none : {A : Type 0} (b : Bool) (check : Option A) → b ≡ false → (if b then check else None) ≡ None
if-none true check h = cc
if-none false check h = refl

none-if : {A : Type 0} (b : Bool) (found : Option A) → found ≡ None → (if b then found else None) ≡ None
none-if true found h = h
none-if false found h = refl

at-most : (a b : ℕ) → a ≤ b → nat_lt b a ≡ false
at-most a b h = grind (arith, nat_tests)

conflict-none : (state : State) (i : ℕ) (class : Option Class) → class ≡ Some Writes
    → allows state.reservations i Writes ≡ true
    → option_and_then (λ class. if allows state.reservations i class then None else Some Conflict) class
    ≡ None
conflict-none state i class is allowed = rw (is, allowed) refl

-- the checks of the CDB of a command
parsed-none : (parse : Result Command CdbFault) (c : Command) → parse ≡ Ok c
    → (empty_cdb parse ≡ None) × ((unknown_opcode parse ≡ None)
    × ((short_cdb parse ≡ None) × (bad_field parse ≡ None)))
parsed-none (Ok command) c is = (refl, (refl, (refl, refl)))
parsed-none (Err fault) c is = cc

pub cdb-none : (state : State) (i : ℕ) (cdb : List ℕ) (c : Command)
    → command_in (profile_of state) cdb ≡ Ok c
    → class_in (profile_of state) cdb ≡ Some Writes → oldest state.attentions i ≡ None
    → allows state.reservations i Writes ≡ true → first_some (cdb_checks state i cdb) ≡ None
cdb-none state i cdb c is class none allowed =
    let parse = command_in (profile_of state) cdb in
    let passed = parsed-none parse c is in
    let blocking = none-if (is_blocked_in (profile_of state) cdb) (oldest state.attentions i) none in
    first-none (empty_cdb parse) _ passed.0
    (first-none (outranking_attention state i cdb) _ (ap (option_and_then (if_it_outranks state)) blocking)
    (first-none (reservation_conflict state i cdb) _
    (conflict-none state i (class_in (profile_of state) cdb) class allowed)
    (first-none (pending_attention state i cdb) _ (ap (option_map attention_refusal) blocking)
    (first-none (unknown_opcode parse) _ passed.1.0
    (first-none (short_cdb parse) _ passed.1.1.0
    (first-none (bad_field parse) [] passed.1.1.1 refl))))))

pub ready-none : (state : State) (medium : MediumUse) → state.stopped ≡ false
    → not_ready state medium ≡ None
ready-none state medium h =
    if-none (state.stopped && medium.needs_ready) _ (ap (λ b. b && medium.needs_ready) h)

pub range-none : (capacity : ℕ) (out : Extent) → out.lba + out.count ≤ capacity
    → out_of_range capacity (out ∷ []) ≡ None
unfolding out_of_range
range-none capacity out h =
    first-none (past_capacity capacity out) []
    (if-none (nat_lt capacity (out.lba + out.count)) _ (at-most (out.lba + out.count) capacity h)) refl

pub protection-none : (rules : Rules) (modes : ModeState) (medium : MediumUse)
    → write_protected modes ≡ false → write_protection rules modes medium ≡ None
unfolding write_protection
protection-none rules modes medium h =
    let writes = writes_some rules medium in
    if-none (write_protected modes && writes) _ (ap (λ b. b && writes) h)

-- ---- The command

module _ (state : State) (i : ℕ) (data_out : List ℕ) (out : Extent)
    (free : NothingForbids state i data_out out) where
  abbrev asked : Operation
  asked = operation.Write (blocks_out out data_out)

  abbrev IsItsEffect : Result Effect Refusal → Type 0
  IsItsEffect found = found ≡ Ok (writing state (blocks_out out data_out))

  by-medium : (first : Option Refusal) → first ≡ None
      → IsItsEffect (checked_next (unless_refused first (Ok asked)) (effect_of state i))
  by-medium None h = refl
  by-medium (Some refusal) h = cc

  by-request : (first : Option Refusal) → first ≡ None
      → IsItsEffect
      (checked_next (checked_next (unless_refused first (Ok asked)) (checked_operation state))
      (effect_of state i))
  by-request None h =
      by-medium (first_some (medium_checks state (medium_use asked)))
      (first-none (not_ready state (medium_use asked)) _
      (ready-none state (medium_use asked) free.ready)
      (first-none (out_of_range state.disk.capacity (out ∷ [])) _
      (range-none state.disk.capacity out free.on_disk)
      (first-none (write_protection (rules_of (profile_of state)) state.modes (medium_use asked)) []
      (protection-none _ state.modes (medium_use asked) free.unprotected) refl)))
  by-request (Some refusal) h = cc

  -- a command with these demands passes its checks
  abbrev Passes : Demands → Type 0
  Passes d = IsItsEffect
      (checked_next (checked_next (requested d data_out) (checked_operation state)) (effect_of state i))

  -- one that needs the bytes of the blocks, and goes over all of them
  blocks-effect : (need : DataOutNeed) → need.bytes ≡ bytes_of out → (its : Extent) → its ≡ out
      → (unsupported : Option ℕ) → unsupported ≡ None
      → Passes (record {
        unsupported = unsupported;
        data_out = Some need;
        operation = Ok (operation.Write (blocks_out its data_out));
      })
  blocks-effect need bytes its all unsupported h =
      subst
      (λ (e : Extent). Passes (record {
        unsupported = unsupported;
        data_out = Some need;
        operation = Ok (operation.Write (blocks_out e data_out));
      }))
      (sym all)
      (by-request
      (first_some (unsupported_value unsupported ∷ short_data_out (Some need) data_out ∷ []))
      (first-none (unsupported_value unsupported) _ (ap unsupported_value h)
      (first-none (short_data_out (Some need) data_out) []
      (if-none (nat_lt (length data_out) need.bytes) _
      (at-most need.bytes (length data_out) (omega (arith, bytes, free.has_data)))) refl)))

  write-effect : (unsupported : Option ℕ) → unsupported ≡ None
      → Passes (write (config_of state) out unsupported data_out)
  write-effect =
      blocks-effect (blocks_need (config_of state) out) refl (moved (config_of state) out data_out)
      (moved-all (config_of state) out data_out free.has_data)

  abbrev write_all : Extent → (unsupported : Option ℕ) → Demands
  write_all e unsupported =
      takes (config_of state) (bytes_of e) unsupported (Ok (operation.Write (blocks_out e data_out)))

  all-effect : (unsupported : Option ℕ) → unsupported ≡ None → Passes (write_all out unsupported)
  all-effect = blocks-effect (need (config_of state) (bytes_of out)) refl out refl

  allowed-length : (byte : ℕ) → too_long (config_of state) out.count byte ≡ None
  allowed-length byte =
      let most = (limits_of (profile_of state)).transfer_length in
      if-none (nat_lt most out.count) _ (at-most out.count most free.not_too_long)

  at-extent : (named : Extent) → named ≡ out → (unsupported : Option ℕ) → unsupported ≡ None
      → Passes (write (config_of state) named unsupported data_out)
  at-extent named is unsupported h =
      subst (λ (e : Extent). Passes (write (config_of state) e unsupported data_out)) (sym is)
      (write-effect unsupported h)

  verifying : (check : ByteCheck) (named : Extent) → verified_blocks check named ≡ Some out
      → (byte : ℕ)
      → Passes
      (write (config_of state) named
      (bad_comparison check (too_long (config_of state) named.count byte)) data_out)
  verifying check named is byte =
      let e = its-blocks check named out is in
      let length = too_long (config_of state) named.count byte in
      at-extent named e (bad_comparison check length)
      (its-comparison check named out length is
      ∙ (ap (λ (e : Extent). too_long (config_of state) e.count byte) e ∙ allowed-length byte))

  -- a WRITE ATOMIC has the limit of a WRITE, because its profile is the extended one
  atomic-limit : (profile : Profile) → is_in Extended profile ≡ true
      → (limits_of profile).atomic_transfer_length ≡ (limits_of profile).transfer_length
  atomic-limit Base has = cc
  atomic-limit Extended has = refl

  allowed-atomic : (boundary count : ℕ) → (boundary == 0) ≡ true → count ≡ out.count
      → is_in Extended (profile_of state) ≡ true → bad_atomic (config_of state) boundary count ≡ None
  allowed-atomic boundary count whole same has =
      let most = (limits_of (profile_of state)).atomic_transfer_length in
      let long = if nat_lt most count then Some 12 else None in
      ap (λ b. if b then long else Some 10) whole
      ∙ if-none (nat_lt most count) _ (at-most count most
      (omega (arith, same, free.not_too_long, atomic-limit (profile_of state) has)))

  -- the disk has the command
  abbrev Has : Result Command CdbFault → Type 0
  Has parse = (c : Command) → parse ≡ Ok c → has_command (profile_of state) c ≡ true

  by-command : (parse : Result Command CdbFault) → blocks_to_write parse ≡ Some out → Has parse
      → IsItsEffect (checked_next (checked_parse state parse data_out) (effect_of state i))
  by-command (Ok (command.Write6 c)) is has =
      let e : extent c.0 c.1 ≡ out = cc in at-extent (extent c.0 c.1) e None refl
  by-command (Ok (command.Write10 c)) is has =
      let e : extent c.lba c.count ≡ out = cc in
      at-extent (extent c.lba c.count) e (too_long (config_of state) c.count 7)
      (ap (λ (e : Extent). too_long (config_of state) e.count 7) e ∙ allowed-length 7)
  by-command (Ok (command.Write16 c)) is has =
      let e : extent c.lba c.count ≡ out = cc in
      at-extent (extent c.lba c.count) e (too_long (config_of state) c.count 10)
      (ap (λ (e : Extent). too_long (config_of state) e.count 10) e ∙ allowed-length 10)
  by-command (Ok (command.Write12 c)) is has =
      let e : extent c.lba c.count ≡ out = cc in
      at-extent (extent c.lba c.count) e (too_long (config_of state) c.count 6)
      (ap (λ (e : Extent). too_long (config_of state) e.count 6) e ∙ allowed-length 6)
  by-command (Ok (command.WriteAndVerify10 c)) is has =
      verifying c.byte_check (extent c.extent.lba c.extent.count) is 7
  by-command (Ok (command.WriteAndVerify12 c)) is has =
      verifying c.byte_check (extent c.extent.lba c.extent.count) is 6
  by-command (Ok (command.WriteAndVerify16 c)) is has =
      verifying c.byte_check (extent c.extent.lba c.extent.count) is 10
  by-command (Ok (command.WriteAtomic16 c)) is has =
      let named = extent c.lba c.count in
      let whole = its-undivided c.boundary named out is in
      let unsupported = bad_atomic (config_of state) c.boundary c.count in
      subst (λ (e : Extent). Passes (write_all e unsupported)) (sym whole.1)
      (all-effect unsupported
      (allowed-atomic c.boundary c.count whole.0 (ap (λ (e : Extent). e.count) whole.1)
      (has (command.WriteAtomic16 c) refl)))
  by-command _ is has = cc

  by-cdb : (first : Option Refusal) → first ≡ None → (parse : Result Command CdbFault)
      → blocks_to_write parse ≡ Some out → Has parse
      → IsItsEffect
      (checked_next (unless_refused first (checked_parse state parse data_out)) (effect_of state i))
  by-cdb None h parse is has = by-command parse is has
  by-cdb (Some refusal) h parse is has = cc

-- it is a command of the class that writes
record IsWrite (parse : Result Command CdbFault) : Type 0 where
  command : Command
  is : parse ≡ Ok command
  class : (layout command).class ≡ Writes

is-write : (parse : Result Command CdbFault) (out : Extent) → blocks_to_write parse ≡ Some out
    → IsWrite parse
is-write (Ok (command.Write6 c)) out is =
    record { command = command.Write6 c; is = refl; class = refl }
is-write (Ok (command.Write10 c)) out is =
    record { command = command.Write10 c; is = refl; class = refl }
is-write (Ok (command.Write12 c)) out is =
    record { command = command.Write12 c; is = refl; class = refl }
is-write (Ok (command.WriteAndVerify10 c)) out is =
    record { command = command.WriteAndVerify10 c; is = refl; class = refl }
is-write (Ok (command.WriteAndVerify12 c)) out is =
    record { command = command.WriteAndVerify12 c; is = refl; class = refl }
is-write (Ok (command.WriteAndVerify16 c)) out is =
    record { command = command.WriteAndVerify16 c; is = refl; class = refl }
is-write (Ok (command.Write16 c)) out is =
    record { command = command.Write16 c; is = refl; class = refl }
is-write (Ok (command.WriteAtomic16 c)) out is =
    record { command = command.WriteAtomic16 c; is = refl; class = refl }
is-write _ out is = cc

effect-is : CommandsHaveTheirClass → (state : State) (i : ℕ) (cdb data_out : List ℕ) (out : Extent)
    → blocks_to_write (command_in (profile_of state) cdb) ≡ Some out
    → NothingForbids state i data_out out
    → checked_effect state i cdb data_out ≡ Ok (writing state (blocks_out out data_out))
unfolding checked_cdb
effect-is classes state i cdb data_out out is free =
    let parse = command_in (profile_of state) cdb in
    let w = is-write parse out is in
    by-cdb state i data_out out free (first_some (cdb_checks state i cdb))
    (cdb-none state i cdb w.command w.is
    (classes (profile_of state) cdb w.command w.is ∙ ap Some w.class) free.attention free.reservation)
    parse is (is-in (profile_of state) cdb)

pub free-writes : CommandsHaveTheirClass → WritesOverUsedAddressesHaveSpace
    → WritesThatNothingForbidsEndWithGood
free-writes classes law state i cdb data_out out w is free =
    let written = is-write (command_in (profile_of state) cdb) out is in
    let same : blocks_to_write (command_of cdb) ≡ Some out =
    ap blocks_to_write (read-any (profile_of state) cdb written.command written.is ∙ sym written.is)
    ∙ is in
    let used = subst (AreUsed state) (sym (moved-all (config_of state) out data_out free.has_data))
    free.used in
    law state i cdb data_out out (writing state (blocks_out out data_out)) w same used
    (effect-is classes state i cdb data_out out is free)
