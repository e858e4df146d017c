-- COMPARE AND WRITE (SBC-3, 5.2): what one of them finds in its blocks and leaves there, and how many of
-- those that compete for a block end with GOOD.
use Rattle.std.specs.Prelude.{◌≡◌, ◌≢◌, ℕ, ◌*◌, ◌-◌, List, length, take, drop, Option, Some, None}
use Rattle.std.specs.Prelude.{Result, Ok, ◌∷◌, All, ◌⊎◌, ◌<◌, ◌≤◌, ◌==◌, ◌&&◌, Bool, true, false, slice_get}
use Rattle.std.specs.Prelude.{slice_index}
use Rattle.std.specs.List.{count_by}
use Rattle.sg_wire.specs.CdbDecoding.{command_in, command_of}
use Rattle.sg_wire.specs.declared.command.CdbFault.{CdbFault}
use Rattle.sg_wire.specs.declared.command.Command.{Command}
use Rattle.sg_wire.specs.declared.command.Command.TheVariants as command
use Rattle.sg_wire.specs.declared.extent.Extent.{Extent}
use Rattle.sg_wire.specs.declared.lba_status.ProvisioningStatus.TheVariants.{Mapped}
use Rattle.sg_store.specs.Disk.{block_at, block_length, lies_in}
use Rattle.sg_target.specs.BlockCommands.{blocks_at, bytes_of}
use Rattle.sg_target.specs.CommandLaws.{Changes, blocks_written}
use Rattle.sg_target.specs.Config.{ConfigFields}
use Rattle.sg_target.specs.Demands.{extent}
use Rattle.sg_target.specs.Laws.{lies_in_any}
use Rattle.sg_target.specs.Runs.{answers, state_after_all, step_of}
use Rattle.sg_target.specs.State.{IsWithinLimits, State, config_of, profile_of}
use Rattle.sg_target.specs.Step.{Answer, Step, refusal_answer, sense_format, step}
use Rattle.sg_target.specs.declared.call.Call.{Call}
use Rattle.sg_target.specs.declared.refusal.Reason.TheVariants.{Miscompare}
use Rattle.sg_target.specs.declared.refusal.Refusal.TheVariants.{CheckCondition}
use Rattle.sg_target.specs.declared.reply.Status.{Status}
use Rattle.sg_target.specs.declared.reply.Status.TheVariants.{Good}
use Rattle.sg_fencing.specs.ChosenAnswers.{answers_where}
use Rattle.sg_fencing.specs.Laws.{NothingForbids}

-- ---- One command

-- The blocks of a COMPARE AND WRITE.
abbrev pub blocks_to_exchange : Result Command CdbFault → Option Extent
blocks_to_exchange (Ok (command.CompareAndWrite c)) = Some (extent c.lba c.count)
blocks_to_exchange _ = None

-- Data-out is twice as long as the blocks. Its first half is what the blocks were before, and its
-- second half is what they are after. They are mapped then. Nothing more has changed, but 38h/07h is pending
-- if the command of the initiator has crossed a threshold.
pub record IsExchanged (initiator : ℕ) (before after : State) (named : Extent) (data_out : List ℕ)
    : Type 0 where
  pub two_halves : length data_out ≡ 2 * bytes_of named
  pub found : blocks_at before named ≡ take (bytes_of named) data_out
  pub left : blocks_at after named ≡ drop (bytes_of named) data_out
  pub changes : Changes initiator before after (lies_in named.lba named.count) Mapped
      (λ address. block_at (drop (bytes_of named) data_out) (address - named.lba))

-- A command either ends with GOOD and has exchanged its blocks, or it leaves the disk as it was: the
-- capacity, the pool, and each block with its provisioning status.
pub record ExchangesOrLeaves (initiator : ℕ) (before : State) (done : Step) (named : Extent)
    (data_out : List ℕ) : Type 0 where
  pub good : done.answer.status ≡ Good → IsExchanged initiator before done.state named data_out
  pub not_good : done.answer.status ≢ Good → done.state.disk ≡ before.disk

-- Each COMPARE AND WRITE does so. A base disk refuses it, because it does not have the command.
abbrev pub ExchangesReplaceWhatTheyExpect : Type 0
ExchangesReplaceWhatTheyExpect =
    (state : State) (initiator : ℕ) (cdb data_out : List ℕ) (named : Extent)
    → IsWithinLimits state → blocks_to_exchange (command_of cdb) ≡ Some named
    → ExchangesOrLeaves initiator state (step state initiator cdb data_out) named data_out

-- Nothing forbids an initiator a COMPARE AND WRITE of some blocks: nothing forbids it a WRITE of them, the
-- data-out has two halves of their length, and the blocks are as its first half expects.
pub record NothingForbidsExchange (state : State) (initiator : ℕ) (data_out : List ℕ) (named : Extent)
    : Type 0 where
  pub write : NothingForbids state initiator data_out named
  pub two_halves : length data_out ≡ 2 * bytes_of named
  pub found : blocks_at state named ≡ take (bytes_of named) data_out

-- Such a COMPARE AND WRITE ends with GOOD, if it is a command of the disk's profile.
abbrev pub ExchangesThatNothingForbidsEndWithGood : Type 0
ExchangesThatNothingForbidsEndWithGood =
    (state : State) (initiator : ℕ) (cdb data_out : List ℕ) (named : Extent)
    → IsWithinLimits state → blocks_to_exchange (command_in (profile_of state) cdb) ≡ Some named
    → NothingForbidsExchange state initiator data_out named
    → (step state initiator cdb data_out).answer.status ≡ Good

-- ---- A miscompare

-- A byte differs from the byte at its place among others, and no byte before it does.
pub record IsFirstDifference (offset : ℕ) (bytes others : List ℕ) : Type 0 where
  pub inside : offset < length bytes
  pub differs : slice_index bytes offset ≢ slice_index others offset
  pub first : (k : ℕ) → k < offset → slice_index bytes k ≡ slice_index others k

-- A command ends with MISCOMPARE DURING VERIFY OPERATION, 1Dh/00h. INFORMATION is the offset of the first
-- byte that differs (SBC-3, 5.2). Nothing has changed.
pub record EndsWithMiscompare (before : State) (done : Step) (found expected : List ℕ) : Type 0 where
  pub offset : ℕ
  pub is_first : IsFirstDifference offset found expected
  pub answer : done.answer
      ≡ refusal_answer (sense_format before) (CheckCondition (Miscompare offset))
  pub state : done.state ≡ before

-- A COMPARE AND WRITE ends so if nothing forbids it, but the blocks are not as its first half expects.
abbrev pub MiscomparesPointToTheFirstDifference : Type 0
MiscomparesPointToTheFirstDifference =
    (state : State) (initiator : ℕ) (cdb data_out : List ℕ) (named : Extent)
    → IsWithinLimits state → blocks_to_exchange (command_in (profile_of state) cdb) ≡ Some named
    → NothingForbids state initiator data_out named → length data_out ≡ 2 * bytes_of named
    → blocks_at state named ≢ take (bytes_of named) data_out
    → EndsWithMiscompare state (step state initiator cdb data_out) (blocks_at state named)
    (take (bytes_of named) data_out)

-- ---- A race for a block

-- Initiators compete for a block, as the hosts of a cluster do for a lock. Each sends a COMPARE AND WRITE
-- of that one block, which expects the old block and writes another.
pub record Competes (lba : ℕ) (old : List ℕ) (call : Call) : Type 0 where
  pub names : blocks_to_exchange (command_of call.cdb.now) ≡ Some (extent lba 1)
  pub expects : take block_length call.data_out.now ≡ old
  pub writes_another : drop block_length call.data_out.now ≢ old

-- A command that may write the block, on a disk of a configuration.
abbrev pub may_write : ConfigFields → (lba : ℕ) → Call → Bool
may_write config lba call =
    lies_in_any (blocks_written config (command_of call.cdb.now) call.data_out.now) lba

-- Each command of a list competes for the block, or does not write it.
abbrev pub IsRace : ConfigFields → (lba : ℕ) → (old : List ℕ) → List Call → Type 0
IsRace config lba old calls =
    All (λ call. Competes lba old call ⊎ (may_write config lba call ≡ false)) calls

-- A COMPARE AND WRITE of that one block.
abbrev pub names_only : (lba : ℕ) → Option Extent → Bool
names_only lba None = false
names_only lba (Some named) = named.lba == lba && named.count == 1

abbrev pub is_for_block : (lba : ℕ) → Call → Bool
is_for_block lba call = names_only lba (blocks_to_exchange (command_of call.cdb.now))

abbrev pub is_good : Status → Bool
is_good Good = true
is_good _ = false

-- Such a command wins if it ends with GOOD. This is the number of winners in a list.
abbrev pub winners : (lba : ℕ) → State → List Call → ℕ
winners lba state calls =
    count_by (λ answer. is_good answer.status) (answers_where (is_for_block lba) state calls)

-- At most one wins. If none wins, the block is as it was. If one wins, the block is the one that it wrote,
-- up to the end of the list.
pub record IsDecided (state : State) (lba : ℕ) (calls : List Call) : Type 0 where
  pub at_most_one : winners lba state calls ≤ 1
  pub none : winners lba state calls ≡ 0
      → blocks_at (state_after_all state calls) (extent lba 1) ≡ blocks_at state (extent lba 1)
  pub one : (n : ℕ) (call : Call) (answer : Answer)
      → slice_get calls n ≡ Some call → slice_get (answers state calls) n ≡ Some answer
      → is_for_block lba call ≡ true → answer.status ≡ Good
      → blocks_at (state_after_all state calls) (extent lba 1)
      ≡ drop block_length call.data_out.now

-- This holds for each race, in whatever order the commands come.
abbrev pub RacesHaveAtMostOneWinner : Type 0
RacesHaveAtMostOneWinner =
    (state : State) (lba : ℕ) (old : List ℕ) (calls : List Call)
    → IsWithinLimits state → IsRace (config_of state) lba old calls → IsDecided state lba calls

-- The first command of a race wins if nothing forbids it, and then nobody else does.
pub record FirstWins (state : State) (lba : ℕ) (first : Call) (others : List Call) : Type 0 where
  pub good : (step_of state first).answer.status ≡ Good
  pub only_one : winners lba state (first ∷ others) ≡ 1

abbrev pub TheFirstOfARaceWins : Type 0
TheFirstOfARaceWins =
    (state : State) (lba : ℕ) (old : List ℕ) (first : Call) (others : List Call)
    → IsWithinLimits state → IsRace (config_of state) lba old (first ∷ others)
    → blocks_to_exchange (command_in (profile_of state) first.cdb.now) ≡ Some (extent lba 1)
    → NothingForbidsExchange state first.initiator first.data_out.now (extent lba 1)
    → FirstWins state lba first others
