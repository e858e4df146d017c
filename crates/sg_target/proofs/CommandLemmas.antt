-- Commands on blocks that end with GOOD.
use Rattle.std.proofs.Common.{◌≡◌, ◌≤◌, ◌<◌, ℕ, ◌+◌, ◌-◌, ◌*◌, ◌==◌, List, [], ◌∷◌, length, take, drop}
use Rattle.std.proofs.Common.{Bool, true, false, cond, Option, Some, None, Result, Ok, Err, replicate}
use Rattle.std.proofs.Common.{refl, sym, ap, ◌∙◌, subst, arith}
use Rattle.std.proofs.lemmas.Bool.{and_parts, eqb-true}
use Rattle.std.proofs.lemmas.Bool.Decides.{nat_tests}
use Rattle.std.proofs.lemmas.List.{drop-take, take-take}
use Rattle.std.specs.List.{list_all}
use Rattle.std.specs.Prelude.{nat_lt, ◌||◌}
use Rattle.std.specs.Result.{result_map_both}
use Rattle.std.specs.Option.{option_map_or}
use Rattle.sg_wire.specs.FirstBytes.{first_bytes}
use Rattle.sg_wire.specs.CdbDecoding.{command_of}
use Rattle.sg_wire.specs.Profile.{rules_of}
use Rattle.sg_wire.specs.UnmapList.{named_extents, unmap_list}
use Rattle.sg_wire.specs.declared.command.CdbFault.{CdbFault}
use Rattle.sg_wire.specs.declared.command.Command.{Command}
use Rattle.sg_wire.specs.declared.command.Command.TheVariants as command
use Rattle.sg_wire.specs.declared.command.provisioning.Unmap.{Unmap}
use Rattle.sg_wire.specs.declared.extent.Extent.{Extent}
use Rattle.sg_wire.specs.declared.unmap_list.UnmapListFault.{UnmapListFault}
use Rattle.sg_store.specs.Disk.{Contents, block, block_at, lies_in, zero_block, Mapping, need}
use Rattle.sg_store.specs.LbaStatus.{status_at, status_in}
use Rattle.sg_store.specs.Disk.Mapping.{Data}
use Rattle.sg_store.specs.Laws.{RemappingTakesWhatIsNeeded}
use Rattle.std.specs.FinMap.{contains_key, get, len}
use Rattle.std.proofs.Common.{zero, suc, ap₂, is_some}
use Rattle.sg_target.specs.Alerts.{alerted}
use Rattle.sg_target.specs.Checks.{checked_cdb}
use Rattle.sg_target.specs.CommandLaws.{WritesOverUsedAddressesHaveSpace}
use Rattle.sg_target.specs.Refusal.{checked_next, first_some, when_sound}
use Rattle.sg_target.proofs.MovedLemmas.{long_enough, write-asked}
use Rattle.sg_target.proofs.NeedLemmas.{inside}
use Rattle.sg_target.proofs.Space.{space-left}
use Rattle.sg_store.specs.Laws.{AnchorsEachAddress, AnchorZeroesEachBlock, FillMapsEachAddress}
use Rattle.sg_store.specs.Laws.{FillsEachBlock, MapsEachAddress, UnmapsEachAddress, UnmapsEachBlock}
use Rattle.sg_store.specs.Laws.{WritesEachBlock}
use Rattle.sg_wire.specs.declared.lba_status.ProvisioningStatus.{ProvisioningStatus}
use Rattle.sg_wire.specs.declared.lba_status.ProvisioningStatus.TheVariants.{Mapped, Deallocated}
use Rattle.sg_wire.specs.declared.lba_status.ProvisioningStatus.TheVariants.{Anchored}
use Rattle.sg_target.specs.BlockCommands.{blocks_out, bytes_of, reading, writing}
use Rattle.sg_target.specs.CommandLaws.{Changes, EndsWithGood, ReadsReturnTheirBlocks, ReturnsBlocks}
use Rattle.sg_target.specs.CommandLaws.{UnmapsFollowTheirLists, WriteSameFields}
use Rattle.sg_target.specs.CommandLaws.{WriteSamesLeaveTheirBlock, WritesLeaveTheirData}
use Rattle.sg_target.specs.CommandLaws.{blocks_to_read, blocks_to_write, status_of_same}
use Rattle.sg_target.specs.CommandLaws.{unmapped_status}
use Rattle.sg_target.specs.CommandLaws.{write_same_fields}
use Rattle.sg_target.specs.Config.{ConfigFields}
use Rattle.sg_target.specs.DataOut.{moved}
use Rattle.sg_target.specs.Demands.{bad_same, demands, extent, same_length}
use Rattle.sg_target.specs.Demands.{unmap_extent}
use Rattle.sg_target.specs.Demands.{unmap_extents, unmap_or_fill}
use Rattle.sg_target.specs.Effect.{Effect, with_contents}
use Rattle.sg_target.specs.Laws.{AnchorsEachExtent, UnmapsEachExtent, lies_in_any}
use Rattle.sg_target.specs.ProvisioningCommands.{anchoring, filling, same_block, unmap_list_refusal}
use Rattle.sg_target.specs.ProvisioningCommands.{unmapping, unmaps}
use Rattle.sg_target.specs.Semantics.{effect_of}
use Rattle.sg_target.specs.State.{State, config_of, resources_of}
use Rattle.sg_target.specs.Step.{Step, executed, outcome, refused, step, with_alert}
use Rattle.sg_target.specs.declared.operation.Operation.{Operation}
use Rattle.sg_target.specs.declared.operation.Operation.TheVariants as operation
use Rattle.sg_target.specs.declared.refusal.Refusal.{Refusal}
use Rattle.sg_target.specs.declared.reply.Status.TheVariants.{Good}
use Rattle.sg_target.proofs.BlocksLemmas.{same-whole}
use Rattle.sg_target.proofs.AlertLemmas.{no-alert}
use Rattle.sg_target.proofs.LiftLemmas.{Asked, asked, lifted, not_good, outcome-by, request_checks}

-- ---- Any command

-- the operation that it asks for has its effect
module _ (state : State) (i : ℕ) (cdb data_out : List ℕ) where
  pub record Done (done : Step) : Type 0 where
    pub operation : Operation
    pub asked : Asked state i cdb data_out operation
    pub effect : Effect
    pub effect_is : effect_of state i operation ≡ Ok effect
    pub done_is : with_alert state i (executed effect) ≡ done

  abbrev DoneIfGood : Step → Type 0
  DoneIfGood done = done.answer.status ≡ Good → Done done

  by-effect : (operation : Operation) → Asked state i cdb data_out operation
      → (effect : Result Effect Refusal) → effect_of state i operation ≡ effect
      → DoneIfGood (with_alert state i (outcome state i effect))
  by-effect operation k (Ok effect) e good =
      outcome-by state i (λ (done : Step). DoneIfGood (with_alert state i done)) effect
      (λ refusal good. absurd (not_good state i refusal good))
      (λ none good. record {
        operation = operation;
        asked = k;
        effect = effect;
        effect_is = e;
        done_is = refl;
      })
      good
  by-effect operation k (Err refusal) e good = absurd (not_good state i refusal good)

  pub done-well : EndsWithGood state i cdb data_out → Done (step state i cdb data_out)
  done-well =
      lifted state i cdb data_out DoneIfGood (λ refusal good. absurd (not_good state i refusal good))
      (λ operation k. by-effect operation k (effect_of state i operation) refl)

-- what is true of the effect of the operation is true of the step
same-effect : (found : Result Effect Refusal) (first second : Effect) → found ≡ Ok first
    → found ≡ Ok second → first ≡ second
same-effect found first second e f = cc

pub by-operation : (P : Step → Type 0) (state : State) (i : ℕ) (operation : Operation) (effect : Effect)
    (done : Step) (known : Operation) (its : Effect) → known ≡ operation
    → effect_of state i known ≡ Ok its
    → effect_of state i operation ≡ Ok effect → with_alert state i (executed effect) ≡ done
    → P (with_alert state i (executed its)) → P done
by-operation P state i operation effect done known its same e f is h =
    subst P
    (ap (λ (e : Effect). with_alert state i (executed e))
    (same-effect (effect_of state i known) its effect e (ap (effect_of state i) same ∙ f)) ∙ is)
    h

-- ---- READ

read-asked : (config : ConfigFields) (c : Command) (data_out : List ℕ) (o : Operation) (read : Extent)
    → (demands config c data_out).operation ≡ Ok o → blocks_to_read (Ok c) ≡ Some read
    → operation.Read read ≡ o
read-asked config (command.Read6 short) data_out o read e h = cc
read-asked config (command.Read10 c) data_out o read e h = cc
read-asked config (command.Read12 c) data_out o read e h = cc
read-asked config (command.Read16 c) data_out o read e h = cc
read-asked config _ data_out o read e h = cc

pub reads-return : ReadsReturnTheirBlocks
reads-return state i cdb data_out read is good =
    let d = done-well state i cdb data_out good in
    let known = read-asked (config_of state) d.asked.command data_out d.operation read
    d.asked.operation_is (ap blocks_to_read (sym d.asked.command_is) ∙ is) in
    by-operation (λ (done : Step). ReturnsBlocks state done read) state i d.operation d.effect
    (step state i cdb data_out) (operation.Read read) (reading state read) known refl d.effect_is
    d.done_is (record { data_in = refl; state = no-alert state i state refl })

-- ---- WRITE

-- a block of the first bytes of data-out is that of data-out
pub first-block : (data_out : List ℕ) (count index : ℕ) → index < count
    → block_at (take (512 * count) data_out) index ≡ block_at data_out index
first-block data_out count index below =
    let more = 512 * count - 512 * index in
    let sum : 512 * index + more ≡ 512 * count = omega arith in
    let enough : 512 ≤ more = omega arith in
    ap (λ n. take 512 (drop (512 * index) (take n data_out))) (sym sum)
    ∙ (ap (take 512) (drop-take (512 * index) more data_out)
    ∙ take-take 512 more (drop (512 * index) data_out) enough)

-- a range's address has an index below the count
pub below : (lba count address : ℕ) → lies_in lba count address ≡ true → address - lba < count
below lba count address h = grind (arith, nat_tests)

given-first : (lies : Bool) (out : Extent) (data_out : List ℕ) (address : ℕ) (old : List ℕ)
    → (lies ≡ true → address - out.lba < out.count)
    → cond lies (block_at (first_bytes (bytes_of out) data_out) (address - out.lba)) old
    ≡ cond lies (block_at data_out (address - out.lba)) old
given-first true out data_out address old h =
    first-block data_out out.count (address - out.lba) (h refl)
given-first false out data_out address old h = refl

pub writes-leave : MapsEachAddress → WritesEachBlock → WritesLeaveTheirData
writes-leave maps puts state i cdb data_out named is good =
    let d = done-well state i cdb data_out good in
    let contents = state.disk.contents in
    let out = moved (config_of state) named data_out in
    let fields = blocks_out out data_out in
    let known = write-asked (config_of state) data_out d.operation named d.asked.command
    d.asked.accepted d.asked.operation_is (ap blocks_to_write (sym d.asked.command_is) ∙ is) in
    by-operation
    (λ (done : Step). Changes i state done.state (lies_in out.lba out.count) Mapped
    (λ address. block_at data_out (address - out.lba)))
    state i d.operation d.effect (step state i cdb data_out) (operation.Write fields)
    (writing state fields) known refl d.effect_is d.done_is
    (record {
      statuses = maps contents out.lba out.count fields.bytes;
      blocks =
          λ address.
          puts contents out.lba out.count fields.bytes address
          ∙ given-first (lies_in out.lba out.count address) out data_out address (block contents address)
          (below out.lba out.count address);
      rest = refl;
    })

-- ---- A WRITE over addresses that have a block of the pool

pub has-slot : (found : Option Mapping) → (status_in found ≡ Deallocated → ⊥) → is_some found ≡ true
has-slot (Some mapping) h = refl
has-slot None h = absurd (h refl)

pub none-needed : RemappingTakesWhatIsNeeded → (contents : Contents) (lba count : ℕ)
    → ((i : ℕ) → i < count → contains_key contents (lba + i) ≡ true) → need contents lba count ≡ 0
none-needed law contents lba zero h = law.of_none contents lba
none-needed law contents lba (suc count) h =
    let e : suc count ≡ count + 1 = omega arith in
    rw (e, law.of_one_more contents lba count) (
    ap₂ (λ (x : ℕ) (b : Bool). x + cond b 0 1)
    (none-needed law contents lba count (λ i lt. h i (omega arith))) (h count (omega arith)))

module _ (state : State) (i : ℕ) (cdb data_out : List ℕ) (effect : Effect) where
  -- the operation that has passed the checks
  record Passed : Type 0 where
    operation : Operation
    asked_is : Asked state i cdb data_out operation
    effect_is : effect_of state i operation ≡ Ok effect

  passed : (checked : Result Operation Refusal) → checked_cdb state i cdb data_out ≡ checked
      → checked_next checked (effect_of state i) ≡ Ok effect → Passed
  passed (Ok operation) e f = record {
    operation = operation;
    asked_is = asked state i cdb data_out operation e;
    effect_is = f;
  }
  passed (Err refusal) e f = cc

pub used-have-space : RemappingTakesWhatIsNeeded → WritesOverUsedAddressesHaveSpace
used-have-space law state i cdb data_out named effect w is used e =
    let p = passed state i cdb data_out effect (checked_cdb state i cdb data_out) refl e in
    let contents = state.disk.contents in
    let out = moved (config_of state) named data_out in
    let fields = blocks_out out data_out in
    let known = write-asked (config_of state) data_out p.operation named p.asked_is.command
    p.asked_is.accepted p.asked_is.operation_is
    (ap blocks_to_write (sym p.asked_is.command_is) ∙ is) in
    let its : writing state fields ≡ effect =
    same-effect (effect_of state i (operation.Write fields)) (writing state fields) effect refl
    (ap (effect_of state i) known ∙ p.effect_is) in
    let none : need contents out.lba out.count ≡ 0 =
    none-needed law contents out.lba out.count
    (λ index lt. has-slot (get contents (out.lba + index))
    (used (out.lba + index) (inside out.lba out.count index lt))) in
    let after = (writing state fields).after.disk in
    let same : len after.contents ≡ len contents + need contents out.lba out.count =
    law.taken contents out.lba out.count (λ index. Data (block_at fields.bytes index)) in
    let fits : len after.contents ≤ after.pool =
    omega (arith, same, none, w.used) in
    ap (λ (found : Result Effect Refusal). (outcome state i found).answer.status) e
    ∙ (ap (λ (x : Effect). (outcome state i (Ok x)).answer.status) (sym its)
    ∙ ap
    (λ (found : Option Refusal).
    (option_map_or (refused state i) found (executed (writing state fields))).answer.status)
    (space-left after fits))

-- ---- UNMAP

record Listed (only anchor : Bool) (found : Result (List Extent) UnmapListFault) (o : Operation)
    : Type 0 where
  extents : List Extent
  listed : found ≡ Ok extents
  is : unmap_extents anchor (named_extents only extents) ≡ o

listed : (only anchor : Bool) (found : Result (List Extent) UnmapListFault) (o : Operation)
    → when_sound (result_map_both (named_extents only) unmap_list_refusal found) (unmap_extents anchor)
    ≡ Ok o → Listed only anchor found o
listed only anchor (Ok extents) o e = record { extents = extents; listed = refl; is = cc }
listed only anchor (Err fault) o e = cc

abbrev ignores_empty : ConfigFields → Bool
ignores_empty config = (rules_of config.identity.profile).unmap_ignores_empty_extents

-- an extent of no block has no address
empty-apart : (lba count address : ℕ) → nat_lt 0 count ≡ false → lies_in lba count address ≡ false
empty-apart lba count address h = grind (arith, nat_tests)

lies-in-rest : (first : Extent) (rest : List Extent) (address : ℕ) (names : Bool)
    → nat_lt 0 first.count ≡ names
    → lies_in_any (named_extents true rest) address ≡ lies_in_any rest address
    → lies_in_any (cond names (first ∷ named_extents true rest) (named_extents true rest)) address
    ≡ lies_in_any (first ∷ rest) address
lies-in-rest first rest address true is h = ap (λ b. lies_in first.lba first.count address || b) h
lies-in-rest first rest address false is h =
    h ∙ ap (λ b. b || lies_in_any rest address)
    (sym (empty-apart first.lba first.count address is))

lies-in-named : (only : Bool) (extents : List Extent) (address : ℕ)
    → lies_in_any (named_extents only extents) address ≡ lies_in_any extents address
lies-in-named false extents address = refl
lies-in-named true [] address = refl
lies-in-named true (first ∷ rest) address =
    lies-in-rest first rest address (nat_lt 0 first.count) refl (lies-in-named true rest address)

unmap-asked : (config : ConfigFields) (k : Command) (c : Unmap) (data_out : List ℕ) (o : Operation)
    → (demands config k data_out).operation ≡ Ok o → (parsed : Result Command CdbFault)
    → parsed ≡ Ok k → parsed ≡ Ok (command.Unmap c)
    → Listed (ignores_empty config) c.anchor (unmap_list (first_bytes c.list_length data_out)) o
unmap-asked config k c data_out o e parsed h is =
    let same : k ≡ command.Unmap c = cc in
    listed (ignores_empty config) c.anchor (unmap_list (first_bytes c.list_length data_out)) o
    (subst (λ (other : Command). (demands config other data_out).operation ≡ Ok o) same e)

module _ (state : State) (i : ℕ) where
  abbrev effect_of_unmap : (anchor : Bool) → List Extent → Effect
  effect_of_unmap anchor extents = cond anchor (anchoring state extents) (unmapping state extents)

  unmap-effect : (anchor : Bool) (extents : List Extent)
      → effect_of state i (unmap_extents anchor extents) ≡ Ok (effect_of_unmap anchor extents)
  unmap-effect true extents = refl
  unmap-effect false extents = refl

  unmap-changes : UnmapsEachExtent → AnchorsEachExtent → (anchor : Bool) (extents : List Extent)
      → Changes i state (alerted (resources_of state) i (effect_of_unmap anchor extents).after)
      (lies_in_any extents) (unmapped_status anchor) (λ address. zero_block)
  unmap-changes unmaps anchors true extents = record {
    statuses = anchors.statuses state extents;
    blocks = anchors.blocks state extents;
    rest = refl;
  }
  unmap-changes unmaps anchors false extents = record {
    statuses = unmaps.statuses state extents;
    blocks = unmaps.blocks state extents;
    rest = refl;
  }

pub unmaps-follow : UnmapsEachExtent → AnchorsEachExtent → UnmapsFollowTheirLists
unmaps-follow unmaps anchors state i cdb data_out c is good =
    let d = done-well state i cdb data_out good in
    let known = unmap-asked (config_of state) d.asked.command c data_out d.operation
    d.asked.operation_is (command_of cdb) d.asked.command_is is in
    let only = ignores_empty (config_of state) in
    let named = named_extents only known.extents in
    record {
      extents = known.extents;
      listed = known.listed;
      unmapped =
          subst
          (λ (inside : ℕ → Bool). Changes i state (step state i cdb data_out).state inside
          (unmapped_status c.anchor) (λ address. zero_block))
          (λ d address. lies-in-named only known.extents address d)
          (by-operation
          (λ (done : Step). Changes i state done.state (lies_in_any named)
          (unmapped_status c.anchor) (λ address. zero_block))
          state i d.operation d.effect (step state i cdb data_out)
          (unmap_extents c.anchor named) (effect_of_unmap state i c.anchor named)
          known.is (unmap-effect state i c.anchor named) d.effect_is d.done_is
          (unmap-changes state i unmaps anchors c.anchor named));
    }

-- ---- WRITE SAME

abbrev same_fields : (anchor unmap ndob : Bool) → Extent → WriteSameFields
same_fields anchor unmap ndob extent =
    record { extent = extent; anchor = anchor; unmap = unmap; ndob = ndob }

abbrev asked_by : WriteSameFields → (data_out : List ℕ) → Operation
asked_by c data_out = unmap_or_fill c.anchor c.unmap c.extent (same_block c.ndob data_out)

same-asked : (config : ConfigFields) (k : Command) (data_out : List ℕ) (o : Operation) (c : WriteSameFields)
    → (demands config k data_out).operation ≡ Ok o → write_same_fields (Ok k) ≡ Some c
    → asked_by c data_out ≡ o
same-asked config (command.WriteSame10 w) data_out o c e h =
    let same : same_fields w.anchor w.unmap false (extent w.lba w.count) ≡ c = cc in
    let is : asked_by (same_fields w.anchor w.unmap false (extent w.lba w.count)) data_out ≡ o = cc in
    ap (λ (f : WriteSameFields). asked_by f data_out) (sym same) ∙ is
same-asked config (command.WriteSame16 w) data_out o c e h =
    let same : same_fields w.anchor w.unmap w.ndob (extent w.lba w.count) ≡ c = cc in
    let is : asked_by (same_fields w.anchor w.unmap w.ndob (extent w.lba w.count)) data_out ≡ o = cc in
    ap (λ (f : WriteSameFields). asked_by f data_out) (sym same) ∙ is
same-asked config _ data_out o c e h = cc

same-long : (config : ConfigFields) (k : Command) (data_out : List ℕ) (c : WriteSameFields)
    → first_some (request_checks (demands config k data_out) data_out) ≡ None
    → write_same_fields (Ok k) ≡ Some c → same_length c.ndob ≤ length data_out
same-long config (command.WriteSame10 w) data_out c e h =
    let same : same_fields w.anchor w.unmap false (extent w.lba w.count) ≡ c = cc in
    subst (λ (f : WriteSameFields). same_length f.ndob ≤ length data_out) same
    (long_enough config 512 (bad_same config w.anchor w.unmap false w.count 7 data_out) data_out e)
same-long config (command.WriteSame16 w) data_out c e h =
    let same : same_fields w.anchor w.unmap w.ndob (extent w.lba w.count) ≡ c = cc in
    subst (λ (f : WriteSameFields). same_length f.ndob ≤ length data_out) same
    (long_enough config (same_length w.ndob)
    (bad_same config w.anchor w.unmap w.ndob w.count 10 data_out) data_out e)
same-long config _ data_out c e h = cc

-- a block of zeros is the block of zeros
all-zero : (bytes : List ℕ) → list_all (λ byte. byte == 0) bytes ≡ true
    → bytes ≡ replicate (length bytes) 0
all-zero [] h = refl
all-zero (byte ∷ bytes) h =
    let parts = and_parts (byte == 0) (list_all (λ byte. byte == 0) bytes) h in
    λ d. eqb-true byte 0 parts.0 d ∷ all-zero bytes parts.1 d

zero-is : (unmap : Bool) (bytes : List ℕ) → length bytes ≡ 512 → unmaps unmap bytes ≡ true
    → zero_block ≡ bytes
unfolding zero_block unmaps
zero-is unmap bytes h z =
    sym (all-zero bytes (and_parts unmap (list_all (λ byte. byte == 0) bytes) z).1
    ∙ ap (λ n. replicate n 0) h)

-- a range that is read as zeros is read as a block of zeros
zeroed : (state : State) (i : ℕ) (contents : Contents) (e : Extent) (status : ProvisioningStatus)
    (given : List ℕ) → zero_block ≡ given
    → ((address : ℕ) → status_at contents address
    ≡ cond (lies_in e.lba e.count address) status (status_at state.disk.contents address))
    → ((address : ℕ) → block contents address
    ≡ cond (lies_in e.lba e.count address) zero_block (block state.disk.contents address))
    → Changes i state (alerted (resources_of state) i (with_contents state contents))
    (lies_in e.lba e.count) status (λ address. given)
zeroed state i contents e status given blank statuses blocks = record {
  statuses = statuses;
  blocks =
      λ address.
      blocks address
      ∙ ap (λ z. cond (lies_in e.lba e.count address) z (block state.disk.contents address)) blank;
  rest = refl;
}

module _ (fills : FillMapsEachAddress) (puts : FillsEachBlock) (unmapped : UnmapsEachAddress)
    (zeroes : UnmapsEachBlock) (anchored : AnchorsEachAddress) (blanks : AnchorZeroesEachBlock) where
  record SameEffect (state : State) (i : ℕ) (o : Operation) (e : Extent)
      (status : ProvisioningStatus) (given : List ℕ) : Type 0 where
    its : Effect
    is : effect_of state i o ≡ Ok its
    changes : Changes i state (alerted (resources_of state) i its.after) (lies_in e.lba e.count) status
        (λ address. given)

  by-flags : (state : State) (i : ℕ) (anchor unmapping_it : Bool) (e : Extent) (given : List ℕ)
      → (unmapping_it ≡ true → zero_block ≡ given)
      → SameEffect state i (cond unmapping_it (unmap_extent anchor e) (operation.Fill e given)) e
      (cond unmapping_it (unmapped_status anchor) Mapped) given
  by-flags state i true true e given blank = record {
    its = anchoring state (e ∷ []);
    is = refl;
    changes = zeroed state i _ e Anchored given (blank refl)
        (anchored state.disk.contents e.lba e.count) (blanks state.disk.contents e.lba e.count);
  }
  by-flags state i false true e given blank = record {
    its = unmapping state (e ∷ []);
    is = refl;
    changes = zeroed state i _ e Deallocated given (blank refl)
        (unmapped state.disk.contents e.lba e.count) (zeroes state.disk.contents e.lba e.count);
  }
  by-flags state i anchor false e given blank = record {
    its = filling state e given;
    is = refl;
    changes = record {
      statuses = fills state.disk.contents e.lba e.count given;
      blocks = puts state.disk.contents e.lba e.count given;
      rest = refl;
    };
  }

  by-fields : (state : State) (i : ℕ) (c : WriteSameFields) (given : List ℕ) → length given ≡ 512
      → SameEffect state i (unmap_or_fill c.anchor c.unmap c.extent given) c.extent
      (status_of_same c given) given
  by-fields state i c given h =
      by-flags state i c.anchor (unmaps c.unmap given) c.extent given (zero-is c.unmap given h)

  pub write-sames-leave : WriteSamesLeaveTheirBlock
  write-sames-leave state i cdb data_out c is good =
      let d = done-well state i cdb data_out good in
      let fields : write_same_fields (Ok d.asked.command) ≡ Some c =
      ap write_same_fields (sym d.asked.command_is) ∙ is in
      let known = same-asked (config_of state) d.asked.command data_out d.operation c
      d.asked.operation_is fields in
      let long = same-long (config_of state) d.asked.command data_out c d.asked.accepted fields in
      let given = same_block c.ndob data_out in
      let done = by-fields state i c given (same-whole c.ndob data_out long) in
      by-operation
      (λ (after : Step). Changes i state after.state (lies_in c.extent.lba c.extent.count)
      (status_of_same c given) (λ address. given))
      state i d.operation d.effect (step state i cdb data_out)
      (unmap_or_fill c.anchor c.unmap c.extent given) done.its known done.is
      d.effect_is d.done_is done.changes
