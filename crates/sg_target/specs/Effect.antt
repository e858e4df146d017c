-- The effects of operations.
use Rattle.std.specs.FinMap.{len}
use Rattle.std.specs.Prelude.{ℕ, List, [], Option, Some, None, nat_lt, if◌then◌else◌}
use Rattle.sg_store.specs.Disk.{Contents, Disk}
use Rattle.sg_units.specs.Attentions.{without_oldest}
use Rattle.sg_target.specs.State.{State}
use Rattle.sg_target.specs.declared.refusal.Reason.TheVariants.{SpaceAllocationFailed}
use Rattle.sg_target.specs.declared.refusal.Refusal.{Refusal}
use Rattle.sg_target.specs.declared.refusal.Refusal.TheVariants.{CheckCondition}

-- The effect of an operation that no check refuses.
pub record Effect : Type 0 where
  -- all of its data-in
  pub data_in : List ℕ
  -- the allocation length that cuts it, if the command has one
  pub allocation_length : Option ℕ
  -- why the command is refused after all. The operation finds it on its way, after it has gone over
  -- its blocks. Nothing has changed then.
  pub found : Option Refusal
  -- the state after it, if it finds no refusal
  pub after : State

abbrev pub no_effect : State → Effect
no_effect state = record { data_in = []; allocation_length = None; found = None; after = state }

-- Data-in is returned whole, or cut at an allocation length (SPC-4, 4.2.5.6).
abbrev pub returning : State → List ℕ → Effect
returning state data_in = record (no_effect state) { data_in = data_in }

abbrev pub returning_up_to : State → (allocation_length : ℕ) → List ℕ → Effect
returning_up_to state n data_in = record (returning state data_in) { allocation_length = Some n }

-- ---- States after a command

-- The oldest unit attention of an initiator is cleared.
abbrev pub without_attention : State → (initiator : ℕ) → State
without_attention state initiator =
    record state { attentions = without_oldest state.attentions initiator }

-- The disk has other contents.
abbrev pub with_contents : State → Contents → State
with_contents state contents = record state { disk = record state.disk { contents = contents } }

-- ---- Contents that are stored

-- More addresses would be mapped or anchored than the pool has blocks.
unfoldable pub no_space : (after : Disk) → Option Refusal
no_space after =
    if nat_lt after.pool (len after.contents)
    then Some (CheckCondition SpaceAllocationFailed)
    else None

-- An operation stores these contents, if the pool has space for them.
abbrev pub storing : State → Contents → Effect
storing state contents = let after = with_contents state contents in
    record (no_effect state) { found = no_space after.disk; after = after }
