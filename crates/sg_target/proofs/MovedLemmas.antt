-- The blocks that a WRITE, an ORWRITE or a VERIFY goes over on a disk that takes too little data-out.
use Rattle.std.proofs.Common.{◌≡◌, ◌≤◌, ℕ, ◌*◌, ◌==◌, List, [], ◌∷◌, length, Bool, true, false, cond}
use Rattle.std.proofs.Common.{Option, Some, None, Result, Ok, refl, sym, ap, ◌∙◌, arith}
use Rattle.std.proofs.Math.Nat.{mul-div-le}
use Rattle.std.proofs.lemmas.Bool.Decides.{nat_tests}
use Rattle.std.proofs.lemmas.Nat.{le-div}
use Rattle.std.specs.Prelude.{◌/◌, min}
use Rattle.sg_wire.specs.declared.command.Command.{Command}
use Rattle.sg_wire.specs.declared.command.Command.TheVariants as command
use Rattle.sg_wire.specs.declared.command.verify.ByteCheck.{ByteCheck}
use Rattle.sg_wire.specs.declared.command.verify.ByteCheck.TheVariants.{Nothing, DataOut}
use Rattle.sg_wire.specs.declared.command.verify.ByteCheck.TheVariants.{Reserved, OneBlock}
use Rattle.sg_wire.specs.declared.extent.Extent.{Extent}
use Rattle.sg_pages.specs.BlockDescriptor.{logical_block_length}
use Rattle.sg_target.specs.BlockCommands.{BlocksOutFields, blocks_out, bytes_of, past_capacity}
use Rattle.sg_target.specs.BlockCommands.{whole_blocks}
use Rattle.sg_target.specs.Checks.{short_data_out, unsupported_value}
use Rattle.sg_target.specs.CommandLaws.{blocks_to_write, undivided_blocks, verified_blocks}
use Rattle.sg_target.specs.Config.{ConfigFields}
use Rattle.sg_target.specs.DataOut.{blocks_need, moved, need, short_reason}
use Rattle.sg_target.specs.Demands.{bad_atomic, bad_comparison, demands, extent, write}
use Rattle.sg_target.specs.Refusal.{first_some}
use Rattle.sg_target.specs.declared.operation.Operation.{Operation}
use Rattle.sg_target.specs.declared.operation.Operation.TheVariants as operation
use Rattle.sg_target.specs.declared.refusal.Refusal.{Refusal}
use Rattle.sg_target.specs.declared.refusal.Refusal.TheVariants.{CheckCondition}
use Rattle.sg_target.proofs.LiftLemmas.{request_checks}

-- data-out that is not refused is long enough
pub long_enough : (config : ConfigFields) (n : ℕ) (unsupported : Option ℕ) (data_out : List ℕ)
    → first_some
    (unsupported_value unsupported ∷ short_data_out (Some (need config n)) data_out ∷ []) ≡ None
    → n ≤ length data_out
long_enough config n (Some byte) data_out e = cc
long_enough config n None data_out e = grind (arith, nat_tests)

-- it has the bytes of the blocks that are moved
first-of-data : (count : ℕ) (data_out : List ℕ)
    → logical_block_length * min (length data_out / logical_block_length) count ≤ length data_out
first-of-data count data_out =
    omega (arith, mul-div-le (length data_out) logical_block_length)

module _ (config : ConfigFields) (extent : Extent) (unsupported : Option ℕ) (data_out : List ℕ) where
  moved-by : (takes_short : Bool)
      → first_some (unsupported_value unsupported
      ∷ short_data_out (Some (record {
        bytes = bytes_of extent;
        if_short = cond takes_short (past_capacity config.blocks extent)
            (Some (CheckCondition (short_reason config)));
      })) data_out ∷ []) ≡ None
      → bytes_of (cond takes_short (whole_blocks extent data_out) extent) ≤ length data_out
  moved-by true e = first-of-data extent.count data_out
  moved-by false e = long_enough config (bytes_of extent) unsupported data_out e

  pub moved-whole : first_some
      (unsupported_value unsupported ∷ short_data_out (Some (blocks_need config extent)) data_out ∷ [])
      ≡ None
      → bytes_of (moved config extent data_out) ≤ length data_out
  moved-whole e = moved-by config.identity.takes_short_data_out e

-- all of them are moved if data-out has all
pub moved-all : (config : ConfigFields) (extent : Extent) (data_out : List ℕ)
    → bytes_of extent ≤ length data_out → moved config extent data_out ≡ extent
moved-all config extent data_out h = by config.identity.takes_short_data_out
  where
    all : min (length data_out / 512) extent.count ≡ extent.count
    all = let enough = le-div extent.count (length data_out) 512 (omega arith) (omega (arith, h)) in
        omega arith

    by : (takes_short : Bool) → cond takes_short (whole_blocks extent data_out) extent ≡ extent
    by true = ap (λ (n : ℕ). record extent { count = n }) all
    by false = refl

-- the same blocks are moved of the extent that a command names
its-one : (found : Result Operation Refusal) (asked o : Operation) → found ≡ Ok asked → found ≡ Ok o
    → asked ≡ o
its-one found asked o e f = cc

abbrev asks_for : (BlocksOutFields → Operation) → Extent → (data_out : List ℕ) → Result Operation Refusal
asks_for asked extent data_out = Ok (asked (blocks_out extent data_out))

pub its-moved : (config : ConfigFields) (data_out : List ℕ) (asked : BlocksOutFields → Operation)
    (named out : Extent) (o : Operation) → named ≡ out
    → asks_for asked (moved config named data_out) data_out ≡ Ok o
    → asked (blocks_out (moved config out data_out) data_out) ≡ o
its-moved config data_out asked named out o same e =
    ap (λ (x : Extent). asked (blocks_out (moved config x data_out) data_out)) (sym same)
    ∙ its-one _ (asked (blocks_out (moved config named data_out) data_out)) o refl e

-- ---- WRITE

-- the comparison of a WRITE AND VERIFY of some blocks is supported
pub its-blocks : (check : ByteCheck) (named out : Extent) → verified_blocks check named ≡ Some out
    → named ≡ out
its-blocks Nothing named out h = cc
its-blocks DataOut named out h = cc
its-blocks Reserved named out h = cc
its-blocks OneBlock named out h = cc

pub its-comparison : (check : ByteCheck) (named out : Extent) (otherwise : Option ℕ)
    → verified_blocks check named ≡ Some out → bad_comparison check otherwise ≡ otherwise
its-comparison Nothing named out otherwise h = refl
its-comparison DataOut named out otherwise h = refl
its-comparison Reserved named out otherwise h = cc
its-comparison OneBlock named out otherwise h = cc

-- a WRITE ATOMIC does not divide its blocks
pub its-undivided : (boundary : ℕ) (named out : Extent) → undivided_blocks boundary named ≡ Some out
    → ((boundary == 0) ≡ true) × (named ≡ out)
its-undivided boundary named out h = by (boundary == 0) h
  where
    by : (whole : Bool) → cond whole (Some named) None ≡ Some out → (whole ≡ true) × (named ≡ out)
    by true h = (refl, cc)
    by false h = cc

module _ (config : ConfigFields) (data_out : List ℕ) (o : Operation) (out : Extent) where
  abbrev Writes : Type 0
  Writes = operation.Write (blocks_out (moved config out data_out) data_out) ≡ o

  moves : (named : Extent) → named ≡ out
      → (write config named None data_out).operation ≡ Ok o → Writes
  moves named same e = its-moved config data_out operation.Write named out o same e

  -- a WRITE ATOMIC has the bytes of all its blocks
  moves-all : (named : Extent) → named ≡ out → bytes_of named ≤ length data_out
      → asks_for operation.Write named data_out ≡ Ok o → Writes
  moves-all named same long e = moves named same
      (ap (λ (x : Extent). asks_for operation.Write x data_out) (moved-all config named data_out long) ∙ e)

  pub write-asked : (c : Command) → first_some (request_checks (demands config c data_out) data_out) ≡ None
      → (demands config c data_out).operation ≡ Ok o → blocks_to_write (Ok c) ≡ Some out → Writes
  write-asked (command.Write6 short) a e h =
      let same : extent short.0 short.1 ≡ out = cc in moves (extent short.0 short.1) same e
  write-asked (command.Write10 c) a e h =
      let same : extent c.lba c.count ≡ out = cc in moves (extent c.lba c.count) same e
  write-asked (command.Write12 c) a e h =
      let same : extent c.lba c.count ≡ out = cc in moves (extent c.lba c.count) same e
  write-asked (command.Write16 c) a e h =
      let same : extent c.lba c.count ≡ out = cc in moves (extent c.lba c.count) same e
  write-asked (command.WriteAndVerify10 c) a e h =
      moves (extent c.extent.lba c.extent.count) (its-blocks c.byte_check _ out h) e
  write-asked (command.WriteAndVerify12 c) a e h =
      moves (extent c.extent.lba c.extent.count) (its-blocks c.byte_check _ out h) e
  write-asked (command.WriteAndVerify16 c) a e h =
      moves (extent c.extent.lba c.extent.count) (its-blocks c.byte_check _ out h) e
  write-asked (command.WriteAtomic16 c) a e h =
      let named = extent c.lba c.count in
      moves-all named (its-undivided c.boundary _ out h).1
      (long_enough config (bytes_of named) (bad_atomic config c.boundary c.count) data_out a) e
  write-asked _ a e h = cc
