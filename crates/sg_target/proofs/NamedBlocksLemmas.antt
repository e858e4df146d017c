-- The blocks that a WRITE names are on the disk if it ends with GOOD.
use Rattle.std.proofs.Common.{◌≡◌, ◌≤◌, ℕ, ◌+◌, List, [], ◌∷◌, length, Bool, true, false, cond}
use Rattle.std.proofs.Common.{Option, Some, None, Ok, refl, sym, ap, ◌∙◌, subst, arith}
use Rattle.std.proofs.lemmas.Bool.Decides.{nat_tests}
use Rattle.std.specs.Prelude.{nat_lt}
use Rattle.sg_wire.specs.declared.command.Command.{Command}
use Rattle.sg_wire.specs.declared.command.Command.TheVariants as command
use Rattle.sg_wire.specs.declared.extent.Extent.{Extent}
use Rattle.sg_target.specs.BlockCommands.{blocks_out, bytes_of}
use Rattle.sg_target.specs.Checks.{medium_checks, short_data_out, unsupported_value}
use Rattle.sg_target.specs.CommandLaws.{WritesNameBlocksOfTheDisk, blocks_to_write}
use Rattle.sg_target.specs.Config.{ConfigFields}
use Rattle.sg_target.specs.DataOut.{blocks_need, moved}
use Rattle.sg_target.specs.Demands.{bad_atomic, bad_comparison, demands, extent, too_long}
use Rattle.sg_target.specs.Refusal.{first_some}
use Rattle.sg_target.specs.Semantics.{medium_use}
use Rattle.sg_target.specs.State.{State, config_of}
use Rattle.sg_target.specs.declared.operation.Operation.{Operation}
use Rattle.sg_target.specs.declared.operation.Operation.TheVariants as operation
use Rattle.sg_target.specs.declared.refusal.Refusal.{Refusal}
use Rattle.sg_target.proofs.BlocksLemmas.{on_disk}
use Rattle.sg_target.proofs.CommandLemmas.{done-well}
use Rattle.sg_target.proofs.LiftLemmas.{request_checks}
use Rattle.sg_target.proofs.MovedLemmas.{its-blocks, its-undivided, long_enough, moved-all, write-asked}

abbrev IsOnDisk : (blocks : ℕ) → Extent → Type 0
IsOnDisk blocks extent = extent.lba + extent.count ≤ blocks

second-none : (a b c : Option Refusal) → first_some (a ∷ b ∷ c ∷ []) ≡ None → b ≡ None
second-none None None c e = refl
second-none None (Some refusal) c e = cc
second-none (Some refusal) b c e = cc

-- ---- A command that takes the bytes of its blocks

module _ (config : ConfigFields) (named : Extent) (data_out : List ℕ)
    (on : IsOnDisk config.blocks (moved config named data_out)) where
  all-on : bytes_of named ≤ length data_out → IsOnDisk config.blocks named
  all-on long = subst (IsOnDisk config.blocks) (moved-all config named data_out long) on

  short-on : (takes_short : Bool) → config.identity.takes_short_data_out ≡ takes_short
      → (blocks_need config named).if_short ≡ None → IsOnDisk config.blocks named
  short-on true is e = grind (arith, nat_tests)
  short-on false is e = cc

  either-on : (is_short : Bool) → nat_lt (length data_out) (bytes_of named) ≡ is_short
      → cond is_short (blocks_need config named).if_short None ≡ None → IsOnDisk config.blocks named
  either-on true short e = short-on config.identity.takes_short_data_out refl e
  either-on false short e = all-on (grind (arith, nat_tests))

  last-none : (unsupported : Option ℕ) (short : Option Refusal)
      → first_some (unsupported_value unsupported ∷ short ∷ []) ≡ None → short ≡ None
  last-none None None e = refl
  last-none None (Some refusal) e = cc
  last-none (Some byte) short e = cc

  blocks-on : (unsupported : Option ℕ)
      → first_some
      (unsupported_value unsupported ∷ short_data_out (Some (blocks_need config named)) data_out ∷ [])
      ≡ None
      → IsOnDisk config.blocks named
  blocks-on unsupported e =
      either-on (nat_lt (length data_out) (bytes_of named)) refl (last-none unsupported _ e)

-- ---- WRITE

module _ (config : ConfigFields) (data_out : List ℕ) (out : Extent)
    (on : IsOnDisk config.blocks (moved config out data_out)) where
  abbrev Accepted : Command → Type 0
  Accepted c = first_some (request_checks (demands config c data_out) data_out) ≡ None

  by-blocks : (named : Extent) → named ≡ out → (unsupported : Option ℕ)
      → first_some
      (unsupported_value unsupported ∷ short_data_out (Some (blocks_need config named)) data_out ∷ [])
      ≡ None
      → IsOnDisk config.blocks out
  by-blocks named same unsupported e =
      blocks-on config out data_out on unsupported
      (ap
      (λ (x : Extent). first_some
      (unsupported_value unsupported ∷ short_data_out (Some (blocks_need config x)) data_out ∷ []))
      (sym same) ∙ e)

  write-on : (c : Command) → Accepted c → blocks_to_write (Ok c) ≡ Some out → IsOnDisk config.blocks out
  write-on (command.Write6 short) a h =
      let same : extent short.0 short.1 ≡ out = cc in by-blocks (extent short.0 short.1) same None a
  write-on (command.Write10 c) a h =
      let same : extent c.lba c.count ≡ out = cc in
      by-blocks (extent c.lba c.count) same (too_long config c.count 7) a
  write-on (command.Write12 c) a h =
      let same : extent c.lba c.count ≡ out = cc in
      by-blocks (extent c.lba c.count) same (too_long config c.count 6) a
  write-on (command.Write16 c) a h =
      let same : extent c.lba c.count ≡ out = cc in
      by-blocks (extent c.lba c.count) same (too_long config c.count 10) a
  write-on (command.WriteAndVerify10 c) a h =
      by-blocks (extent c.extent.lba c.extent.count) (its-blocks c.byte_check _ out h)
      (bad_comparison c.byte_check (too_long config c.extent.count 7)) a
  write-on (command.WriteAndVerify12 c) a h =
      by-blocks (extent c.extent.lba c.extent.count) (its-blocks c.byte_check _ out h)
      (bad_comparison c.byte_check (too_long config c.extent.count 6)) a
  write-on (command.WriteAndVerify16 c) a h =
      by-blocks (extent c.extent.lba c.extent.count) (its-blocks c.byte_check _ out h)
      (bad_comparison c.byte_check (too_long config c.extent.count 10)) a
  write-on (command.WriteAtomic16 c) a h =
      let named = extent c.lba c.count in
      let long = long_enough config (bytes_of named) (bad_atomic config c.boundary c.count) data_out a in
      all-on config out data_out on
      (subst (λ (x : Extent). bytes_of x ≤ length data_out) (its-undivided c.boundary named out h).1 long)
  write-on _ a h = cc

-- the blocks that it writes have passed the check of addresses
medium-on : (state : State) (out : Extent) (data_out : List ℕ) (o : Operation)
    → operation.Write (blocks_out out data_out) ≡ o
    → first_some (medium_checks state (medium_use o)) ≡ None → IsOnDisk state.disk.capacity out
medium-on state out data_out o known e =
    let passed = ap (λ (x : Operation). first_some (medium_checks state (medium_use x))) known ∙ e in
    (on_disk state.disk.capacity (out ∷ []) (second-none _ _ _ passed)).0

pub writes-name : WritesNameBlocksOfTheDisk
writes-name state i cdb data_out named is good =
    let d = done-well state i cdb data_out good in
    let config = config_of state in
    let names : blocks_to_write (Ok d.asked.command) ≡ Some named =
    ap blocks_to_write (sym d.asked.command_is) ∙ is in
    let known = write-asked config data_out d.operation named d.asked.command d.asked.accepted
    d.asked.operation_is names in
    write-on config data_out named
    (medium-on state (moved config named data_out) data_out d.operation known d.asked.on_medium)
    d.asked.command d.asked.accepted names
