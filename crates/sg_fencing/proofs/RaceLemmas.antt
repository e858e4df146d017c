-- Races for a block, one command at a time.
use Rattle.std.proofs.Common.{◌≡◌, ◌≢◌, ◌≤◌, ℕ, zero, suc, ◌+◌, Bool, true, false, cond, ◌&&◌, ◌⊎◌}
use Rattle.std.proofs.Common.{inl, inr, List, [], ◌∷◌, ◌++◌, drop, Some, Result, Ok, Err, refl, sym, ap, ◌∙◌}
use Rattle.std.proofs.Common.{arith}
use Rattle.std.specs.Prelude.{slice_get}
use Rattle.std.specs.List.{count_by, AllByRecursion}
use Rattle.std.proofs.lemmas.Bool.{false≢true}
use Rattle.std.proofs.lemmas.Bool.Decides.{nat_tests}
use Rattle.std.proofs.lemmas.List.Elements.{recursion_from_All}
use Rattle.sg_wire.specs.CdbDecoding.{command_of}
use Rattle.sg_wire.specs.declared.command.CdbFault.{CdbFault}
use Rattle.sg_wire.specs.declared.command.Command.{Command}
use Rattle.sg_wire.specs.declared.command.Command.TheVariants as command
use Rattle.sg_store.specs.Disk.{Contents, Disk, block, block_length, blocks}
use Rattle.sg_store.proofs.DiskLemmas.{blocks-more, blocks-none, count-more}
use Rattle.sg_target.specs.BlockCommands.{blocks_at}
use Rattle.sg_target.specs.CommandLaws.{CommandsWriteOnlyTheirBlocks, blocks_written}
use Rattle.sg_target.specs.Config.{ConfigFields}
use Rattle.sg_target.specs.Demands.{extent}
use Rattle.sg_target.specs.Laws.{ConfigurationStays, LimitsAreKept, lies_in_any}
use Rattle.sg_target.specs.Runs.{answers, state_after_all, step_of}
use Rattle.sg_target.specs.State.{IsWithinLimits, State, config_of, profile_of}
use Rattle.sg_target.specs.Step.{Answer}
use Rattle.sg_target.specs.declared.call.Call.{Call}
use Rattle.sg_target.specs.declared.reply.Status.{Status}
use Rattle.sg_target.specs.declared.reply.Status.TheVariants.{Good, CheckCondition, ReservationConflict}
use Rattle.sg_target.specs.declared.reply.Status.TheVariants.{Busy, TaskSetFull, NoReply}
use Rattle.sg_fencing.specs.Exchanges.{ExchangesThatNothingForbidsEndWithGood, IsRace, TheFirstOfARaceWins}
use Rattle.sg_fencing.specs.Exchanges.{Competes, ExchangesReplaceWhatTheyExpect}
use Rattle.sg_fencing.specs.Exchanges.{RacesHaveAtMostOneWinner, blocks_to_exchange}
use Rattle.sg_fencing.specs.Exchanges.{is_for_block, is_good, may_write, names_only, winners}
use Rattle.sg_fencing.proofs.FreeExchangeLemmas.{read-exchange}
use Rattle.sg_fencing.proofs.FencedRunLemmas.{answers_in}

-- ---- Winners

good-is : (status : Status) → is_good status ≡ true → status ≡ Good
good-is Good h = refl
good-is CheckCondition h = cc
good-is ReservationConflict h = cc
good-is Busy h = cc
good-is TaskSetFull h = cc
good-is NoReply h = cc

is-good : (status : Status) → status ≡ Good → is_good status ≡ true
is-good status h = ap is_good h

-- a command that does not write the block is no COMPARE AND WRITE of it
no-exchange : (config : ConfigFields) (parsed : Result Command CdbFault) (data_out : List ℕ) (lba : ℕ)
    → lies_in_any (blocks_written config parsed data_out) lba ≡ false
    → names_only lba (blocks_to_exchange parsed) ≡ false
no-exchange config (Ok (command.CompareAndWrite c)) data_out lba h = grind (arith, nat_tests, h)
no-exchange config (Ok _) data_out lba h = refl
no-exchange config (Err fault) data_out lba h = refl

-- one block, joined
one-block : (m : Contents) (lba : ℕ) → blocks m lba 1 ≡ block m lba
one-block m lba =
    let same : lba + 0 ≡ lba = omega arith in
    blocks-more m lba 0 ∙ (ap (λ (rest : List ℕ). rest ++ block m (lba + 0)) (blocks-none m lba)
    ∙ ap (block m) same)

-- it names the block
names-it : (lba : ℕ) → names_only lba (Some (extent lba 1)) ≡ true
names-it lba = grind (arith, nat_tests)

module _ (lba : ℕ) where
  abbrev wins : State → Call → Bool
  wins state call = is_for_block lba call && is_good (step_of state call).answer.status

one-more : (call : Call) (exchanges : Bool) (answer : Answer) (rest : List (Call × Answer))
    → count_by (λ (a : Answer). is_good a.status) (answers_in (cond exchanges ((call, answer) ∷ rest) rest))
    ≡ cond (exchanges && is_good answer.status) 1 0
    + count_by (λ (a : Answer). is_good a.status) (answers_in rest)
one-more call true answer rest = count-more (λ (a : Answer). is_good a.status) answer (answers_in rest)
one-more call false answer rest = omega arith

winners-more : (lba : ℕ) (state : State) (call : Call) (calls : List Call)
    → winners lba state (call ∷ calls)
    ≡ cond (wins lba state call) 1 0 + winners lba (step_of state call).state calls
winners-more lba state call calls = one-more call (is_for_block lba call) (step_of state call).answer _

-- ---- One command

module _ (limits : LimitsAreKept) (exchange : ExchangesReplaceWhatTheyExpect)
    (leaves : CommandsWriteOnlyTheirBlocks) (same : ConfigurationStays) (config : ConfigFields) (lba : ℕ)
    (old : List ℕ) where
  abbrev the_block : State → List ℕ
  the_block state = blocks_at state (extent lba 1)

  abbrev Takes : Call → Type 0
  Takes call = Competes lba old call ⊎ (may_write config lba call ≡ false)

  -- no table of the disk is past its limit, and its configuration is this one
  record Sound (state : State) : Type 0 where
    limits_are : IsWithinLimits state
    config_is : config_of state ≡ config

  -- it wins, or the block is as it was
  record Wins (state : State) (call : Call) : Type 0 where
    wins_it : wins lba state call ≡ true
    found : the_block state ≡ old
    left : the_block (step_of state call).state ≡ drop block_length call.data_out.now
    another : drop block_length call.data_out.now ≢ old

  record Passes (state : State) (call : Call) : Type 0 where
    wins_not : wins lba state call ≡ false
    stays : the_block (step_of state call).state ≡ the_block state

  same-disk : (state after : State) → after.disk ≡ state.disk → the_block after ≡ the_block state
  same-disk state after e = ap (λ (d : Disk). blocks d.contents lba 1) e

  -- one that competes wins if it ends with GOOD
  for-it : (state : State) (call : Call) → Competes lba old call
      → wins lba state call ≡ is_good (step_of state call).answer.status
  for-it state call c =
      ap (λ b. b && is_good (step_of state call).answer.status)
      (ap (names_only lba) c.names ∙ names-it lba)

  by-good : (state : State) (call : Call) → IsWithinLimits state → Competes lba old call
      → (good : Bool) → is_good (step_of state call).answer.status ≡ good
      → Wins state call ⊎ Passes state call
  by-good state call w c true e =
      let done = exchange state call.initiator call.cdb.now call.data_out.now (extent lba 1) w c.names in
      let its = done.good (good-is (step_of state call).answer.status e) in
      inl
      (record {
        wins_it = for-it state call c ∙ e;
        found = its.found ∙ c.expects;
        left = its.left;
        another = c.writes_another;
      })
  by-good state call w c false e =
      let done = exchange state call.initiator call.cdb.now call.data_out.now (extent lba 1) w c.names in
      inr
      (record {
        wins_not = for-it state call c ∙ e;
        stays = same-disk state (step_of state call).state
            (done.not_good (λ good. false≢true (sym e ∙ is-good _ good)));
      })

  by-call : (state : State) (call : Call) → Sound state → Takes call
      → Wins state call ⊎ Passes state call
  by-call state call w (inl c) = by-good state call w.limits_are c _ refl
  by-call state call w (inr other) =
      let parsed = command_of call.cdb.now in
      let after = (step_of state call).state in
      let untouched = leaves state call.initiator call.cdb.now call.data_out.now lba
      (ap (λ (k : ConfigFields). may_write k lba call) w.config_is ∙ other) in
      inr
      (record {
        wins_not = ap (λ b. b && is_good (step_of state call).answer.status)
            (no-exchange config parsed call.data_out.now lba other);
        stays = one-block after.disk.contents lba ∙ (untouched.block
            ∙ sym (one-block state.disk.contents lba));
      })

  kept : (state : State) (call : Call) → Sound state → Sound (step_of state call).state
  kept state call w = record {
    limits_are = limits.command state call.initiator call.cdb.now call.data_out.now w.limits_are;
    config_is = same.command state call.initiator call.cdb.now call.data_out.now ∙ w.config_is;
  }

  passing : (state : State) (call : Call) (calls : List Call) → wins lba state call ≡ false
      → winners lba state (call ∷ calls) ≡ winners lba (step_of state call).state calls
  passing state call calls e =
      let n = winners lba (step_of state call).state calls in
      let none : 0 + n ≡ n = omega arith in
      winners-more lba state call calls ∙ (ap (λ b. cond b 1 0 + n) e ∙ none)

  winning : (state : State) (call : Call) (calls : List Call) → wins lba state call ≡ true
      → winners lba state (call ∷ calls) ≡ 1 + winners lba (step_of state call).state calls
  winning state call calls e =
      winners-more lba state call calls
      ∙ ap (λ b. cond b 1 0 + winners lba (step_of state call).state calls) e

  -- ---- A list

  -- nobody wins, and the block stays
  abbrev Stays : State → List Call → Type 0
  Stays state calls =
      (winners lba state calls ≡ 0) × (the_block (state_after_all state calls) ≡ the_block state)

  passes-on : (state : State) (call : Call) (calls : List Call) → Passes state call
      → Stays (step_of state call).state calls → Stays state (call ∷ calls)
  passes-on state call calls pass rest =
      (passing state call calls pass.wins_not ∙ rest.0, rest.1 ∙ pass.stays)

  -- so it is once the block is another
  lost-by : (state : State) (call : Call) (calls : List Call) → Wins state call ⊎ Passes state call
      → the_block state ≢ old
      → (the_block (step_of state call).state ≢ old → Stays (step_of state call).state calls)
      → Stays state (call ∷ calls)
  lost-by state call calls (inl win) other rest = absurd (other win.found)
  lost-by state call calls (inr pass) other rest =
      passes-on state call calls pass
      (rest (λ e. other (sym pass.stays ∙ e)))

  lost : (state : State) (calls : List Call) → Sound state → AllByRecursion Takes calls
      → the_block state ≢ old → Stays state calls
  lost state [] w race other = (refl, refl)
  lost state (call ∷ calls) w race other =
      lost-by state call calls (by-call state call w race.0) other
      (lost (step_of state call).state calls (kept state call w) race.1)

  after-winner : (state : State) (call : Call) (calls : List Call) → Sound state
      → AllByRecursion Takes calls → Wins state call → Stays (step_of state call).state calls
  after-winner state call calls w race win =
      lost (step_of state call).state calls (kept state call w) race
      (λ e. win.another (sym win.left ∙ e))

  at-most-one-by : (state : State) (call : Call) (calls : List Call) → Sound state
      → AllByRecursion Takes calls → Wins state call ⊎ Passes state call
      → winners lba (step_of state call).state calls ≤ 1 → winners lba state (call ∷ calls) ≤ 1
  at-most-one-by state call calls w race (inl win) rest =
      omega (arith, winning state call calls win.wins_it, (after-winner state call calls w race win).0)
  at-most-one-by state call calls w race (inr pass) rest =
      omega (arith, passing state call calls pass.wins_not, rest)

  at-most-one : (state : State) (calls : List Call) → Sound state → AllByRecursion Takes calls
      → winners lba state calls ≤ 1
  at-most-one state [] w race = omega arith
  at-most-one state (call ∷ calls) w race =
      at-most-one-by state call calls w race.1 (by-call state call w race.0)
      (at-most-one (step_of state call).state calls (kept state call w) race.1)

  none-wins-by : (state : State) (call : Call) (calls : List Call) → Wins state call ⊎ Passes state call
      → (winners lba (step_of state call).state calls ≡ 0
      → the_block (state_after_all (step_of state call).state calls)
      ≡ the_block (step_of state call).state)
      → winners lba state (call ∷ calls) ≡ 0
      → the_block (state_after_all state (call ∷ calls)) ≡ the_block state
  none-wins-by state call calls (inl win) rest none =
      absurd (omega (arith, none, winning state call calls win.wins_it))
  none-wins-by state call calls (inr pass) rest none =
      rest (sym (passing state call calls pass.wins_not) ∙ none) ∙ pass.stays

  none-wins : (state : State) (calls : List Call) → Sound state → AllByRecursion Takes calls
      → winners lba state calls ≡ 0 → the_block (state_after_all state calls) ≡ the_block state
  none-wins state [] w race none = refl
  none-wins state (call ∷ calls) w race none =
      none-wins-by state call calls (by-call state call w race.0)
      (none-wins (step_of state call).state calls (kept state call w) race.1) none

  first-wins : (state : State) (call : Call) (calls : List Call) → Sound state
      → AllByRecursion Takes calls → wins lba state call ≡ true → Wins state call ⊎ Passes state call
      → the_block (state_after_all state (call ∷ calls)) ≡ drop block_length call.data_out.now
  first-wins state call calls w race wins_it (inl win) =
      (after-winner state call calls w race win).1 ∙ win.left
  first-wins state call calls w race wins_it (inr pass) = absurd (false≢true (sym pass.wins_not ∙ wins_it))

  one-wins : (state : State) (calls : List Call) → Sound state → AllByRecursion Takes calls
      → (n : ℕ) (call : Call) (answer : Answer) → slice_get calls n ≡ Some call
      → slice_get (answers state calls) n ≡ Some answer → is_for_block lba call ≡ true
      → answer.status ≡ Good
      → the_block (state_after_all state calls) ≡ drop block_length call.data_out.now
  one-wins state [] w race n call answer e f exchanges good = cc
  one-wins state (first ∷ calls) w race zero call answer e f exchanges good =
      let same : first ≡ call = cc in
      let answered : (step_of state first).answer ≡ answer = cc in
      let status : is_good (step_of state first).answer.status ≡ true =
      ap (λ (a : Answer). is_good a.status) answered ∙ is-good answer.status good in
      let wins_it : wins lba state first ≡ true =
      ap (λ (c : Call). is_for_block lba c && is_good (step_of state first).answer.status) same
      ∙ (ap (λ b. b && is_good (step_of state first).answer.status) exchanges ∙ status) in
      first-wins state first calls w race.1 wins_it (by-call state first w race.0)
      ∙ ap (λ (c : Call). drop block_length c.data_out.now) same
  one-wins state (first ∷ calls) w race (suc n) call answer e f exchanges good =
      one-wins (step_of state first).state calls (kept state first w) race.1 n call answer e f exchanges good

pub decided : LimitsAreKept → ExchangesReplaceWhatTheyExpect → CommandsWriteOnlyTheirBlocks
    → ConfigurationStays → RacesHaveAtMostOneWinner
decided limits exchange leaves same state lba old calls w race =
    let config = config_of state in
    let sound : Sound limits exchange leaves same config lba old state =
    record { limits_are = w; config_is = refl } in
    let each = recursion_from_All (Takes limits exchange leaves same config lba old) calls race in
    record {
      at_most_one = at-most-one limits exchange leaves same config lba old state calls sound each;
      none = none-wins limits exchange leaves same config lba old state calls sound each;
      one = one-wins limits exchange leaves same config lba old state calls sound each;
    }

-- if the first wins, nobody else does
first-won : LimitsAreKept → ExchangesReplaceWhatTheyExpect → CommandsWriteOnlyTheirBlocks
    → ConfigurationStays → (state : State) (lba : ℕ) (old : List ℕ) (first : Call) (others : List Call)
    → IsWithinLimits state → IsRace (config_of state) lba old (first ∷ others)
    → wins lba state first ≡ true → winners lba state (first ∷ others) ≡ 1
first-won limits exchange leaves same state lba old first others w race wins_it =
    let config = config_of state in
    let sound : Sound limits exchange leaves same config lba old state =
    record { limits_are = w; config_is = refl } in
    let each = recursion_from_All (Takes limits exchange leaves same config lba old) (first ∷ others) race in
    let most = at-most-one limits exchange leaves same config lba old state (first ∷ others) sound each in
    omega (arith, most, winning limits exchange leaves same config lba old state first others wins_it)

pub first-wins-race : LimitsAreKept → ExchangesReplaceWhatTheyExpect → CommandsWriteOnlyTheirBlocks
    → ConfigurationStays → ExchangesThatNothingForbidsEndWithGood → TheFirstOfARaceWins
first-wins-race limits exchange leaves same free state lba old first others w race is nothing =
    let i = first.initiator in
    let cdb = first.cdb.now in
    let good = free state i cdb first.data_out.now (extent lba 1) w is nothing in
    let answered = is-good (step_of state first).answer.status good in
    let its : is_for_block lba first ≡ true =
    ap (names_only lba) (read-exchange (profile_of state) cdb (extent lba 1) is) ∙ names-it lba in
    record {
      good = good;
      only_one = first-won limits exchange leaves same state lba old first others w race
          (ap (λ b. b && is_good (step_of state first).answer.status) its ∙ answered);
    }
