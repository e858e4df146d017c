-- A COMPARE AND WRITE that nothing forbids passes each check, and finds no difference and enough space.
use Rattle.std.proofs.Common.{◌≡◌, ℕ, ◌+◌, ◌*◌, List, [], ◌∷◌, length, take, drop}
use Rattle.std.proofs.Common.{cond, Option, Some, None, Result, Ok}
use Rattle.std.proofs.Common.{refl, sym, ap, ap₂, ◌∙◌, subst, arith}
use Rattle.std.proofs.lemmas.Bool.{le-ltb}
use Rattle.std.proofs.lemmas.Bool.Decides.{Decides-eqb}
use Rattle.std.specs.FinMap.{get, len}
use Rattle.std.specs.Option.{option_map_or}
use Rattle.sg_wire.specs.Laws.{CommandsHaveTheirClass}
use Rattle.sg_wire.specs.CdbDecoding.{command_in, command_of}
use Rattle.sg_wire.specs.Layout.{layout}
use Rattle.sg_wire.specs.Profile.{rules_of}
use Rattle.sg_wire.specs.declared.command.CdbFault.{CdbFault}
use Rattle.sg_wire.specs.declared.command.Class.TheVariants.{Writes}
use Rattle.sg_wire.specs.declared.command.Command.{Command}
use Rattle.sg_wire.specs.declared.command.Command.TheVariants as command
use Rattle.sg_wire.specs.declared.extent.Extent.{Extent}
use Rattle.sg_wire.specs.declared.profile.Profile.{Profile}
use Rattle.sg_wire.proofs.ProfileLemmas.{read-any}
use Rattle.sg_store.specs.Comparison.{first_difference}
use Rattle.sg_store.specs.Disk.{block_at, need}
use Rattle.sg_store.specs.Disk.Mapping.{Data}
use Rattle.sg_store.proofs.ComparisonLemmas.{same-none}
use Rattle.sg_store.specs.Laws.{RemappingTakesWhatIsNeeded}
use Rattle.sg_target.specs.BlockCommands.{blocks_at, bytes_of, exchange_out, exchanging, miscompare}
use Rattle.sg_target.specs.Checks.{cdb_checks, checked_cdb, checked_effect, checked_operation}
use Rattle.sg_target.specs.Checks.{checked_parse, medium_checks, not_ready, out_of_range, requested}
use Rattle.sg_target.specs.Checks.{short_data_out, unsupported_value, write_protection}
use Rattle.sg_target.specs.Demands.{Demands, exchange_need, extent, wrong_length}
use Rattle.sg_target.specs.Effect.{Effect, no_space}
use Rattle.sg_target.specs.Refusal.{checked_next, first_some, unless_refused}
use Rattle.sg_target.specs.Semantics.{effect_of, medium_use}
use Rattle.sg_target.specs.State.{IsWithinLimits, State, profile_of}
use Rattle.sg_target.specs.Step.{executed, outcome, refused}
use Rattle.sg_target.specs.declared.operation.Operation.{Operation}
use Rattle.sg_target.specs.declared.operation.Operation.TheVariants as operation
use Rattle.sg_target.specs.declared.refusal.Refusal.{Refusal}
use Rattle.sg_target.proofs.CommandLemmas.{has-slot, none-needed}
use Rattle.sg_target.proofs.NeedLemmas.{inside}
use Rattle.sg_target.proofs.Space.{space-left}
use Rattle.sg_fencing.specs.Exchanges.{ExchangesThatNothingForbidsEndWithGood, blocks_to_exchange}
use Rattle.sg_fencing.specs.Laws.{NothingForbids}
use Rattle.sg_fencing.proofs.WriteLemmas.{cdb-none, first-none, protection-none, range-none, ready-none}

-- ---- The checks

module _ (state : State) (i : ℕ) (data_out : List ℕ) (named : Extent)
    (free : NothingForbids state i data_out named) (two_halves : length data_out ≡ 2 * bytes_of named) where
  abbrev asked : Operation
  asked = operation.CompareAndWrite (exchange_out named data_out)

  abbrev its : Effect
  its = exchanging state (exchange_out named data_out)

  abbrev IsItsEffect : Result Effect Refusal → Type 0
  IsItsEffect found = found ≡ Ok its

  by-medium : (first : Option Refusal) → first ≡ None
      → IsItsEffect (checked_next (unless_refused first (Ok asked)) (effect_of state i))
  by-medium None h = refl
  by-medium (Some refusal) h = cc

  by-request : (first : Option Refusal) → first ≡ None
      → IsItsEffect
      (checked_next (checked_next (unless_refused first (Ok asked)) (checked_operation state))
      (effect_of state i))
  by-request None h =
      by-medium (first_some (medium_checks state (medium_use asked)))
      (first-none (not_ready state (medium_use asked)) _
      (ready-none state (medium_use asked) free.ready)
      (first-none (out_of_range state.disk.capacity (named ∷ [])) _
      (range-none state.disk.capacity named free.on_disk)
      (first-none (write_protection (rules_of (profile_of state)) state.modes (medium_use asked)) []
      (protection-none _ state.modes (medium_use asked) free.unprotected) refl)))
  by-request (Some refusal) h = cc

  -- what COMPARE AND WRITE of an extent demands
  abbrev exchange_demands : Extent → Demands
  exchange_demands e = record {
    unsupported = wrong_length e data_out;
    data_out = Some (exchange_need e);
    operation = Ok (operation.CompareAndWrite (exchange_out e data_out));
  }

  abbrev OfExtent : Extent → Type 0
  OfExtent e = IsItsEffect
      (checked_next
      (checked_next
      (requested (exchange_demands e) data_out)
      (checked_operation state))
      (effect_of state i))

  right-length : wrong_length named data_out ≡ None
  right-length =
      ap (λ b. cond b None (Some 13)) ((Decides-eqb (length data_out) (2 * bytes_of named)).1 two_halves)

  none-short : short_data_out (Some (exchange_need named)) data_out ≡ None
  none-short =
      ap (λ b. cond b (exchange_need named).if_short None)
      (le-ltb (length data_out) (2 * bytes_of named) (omega (arith, two_halves)))

  of-named : OfExtent named
  of-named =
      by-request
      (first_some (unsupported_value (wrong_length named data_out)
      ∷ short_data_out (Some (exchange_need named)) data_out ∷ []))
      (first-none (unsupported_value (wrong_length named data_out)) _ (ap unsupported_value right-length)
      (first-none (short_data_out (Some (exchange_need named)) data_out) [] none-short refl))

  by-command : (parse : Result Command CdbFault) → blocks_to_exchange parse ≡ Some named
      → IsItsEffect (checked_next (checked_parse state parse data_out) (effect_of state i))
  by-command (Ok (command.CompareAndWrite c)) is =
      let e : extent c.lba c.count ≡ named = cc in subst OfExtent (sym e) of-named
  by-command _ is = cc

  by-cdb : (first : Option Refusal) → first ≡ None → (parse : Result Command CdbFault)
      → blocks_to_exchange parse ≡ Some named
      → IsItsEffect
      (checked_next (unless_refused first (checked_parse state parse data_out)) (effect_of state i))
  by-cdb None h parse is = by-command parse is
  by-cdb (Some refusal) h parse is = cc

  -- ---- What is found on the way

  abbrev expected : List ℕ
  expected = take (bytes_of named) data_out

  no-difference : blocks_at state named ≡ expected
      → first_difference (blocks_at state named) expected ≡ None
  no-difference found = ap (λ bytes. first_difference bytes expected) found ∙ same-none expected

  has-space : RemappingTakesWhatIsNeeded → IsWithinLimits state → no_space its.after.disk ≡ None
  has-space law w =
      let contents = state.disk.contents in
      let none : need contents named.lba named.count ≡ 0 =
      none-needed law contents named.lba named.count
      (λ index lt. has-slot (get contents (named.lba + index))
      (free.used (named.lba + index) (inside named.lba named.count index lt))) in
      let same : len its.after.disk.contents ≡ len contents + need contents named.lba named.count =
      law.taken contents named.lba named.count
      (λ index. Data (block_at (drop (bytes_of named) data_out) index)) in
      space-left its.after.disk (omega (arith, same, none, w.used))

  finds-nothing : RemappingTakesWhatIsNeeded → IsWithinLimits state → blocks_at state named ≡ expected
      → its.found ≡ None
  finds-nothing law w found =
      ap₂ (λ (d : Option ℕ) (s : Option Refusal). first_some (miscompare d ∷ s ∷ [])) (no-difference found)
      (has-space law w)

-- ---- The command

record IsExchange (parse : Result Command CdbFault) : Type 0 where
  command : Command
  is : parse ≡ Ok command
  class : (layout command).class ≡ Writes

is-exchange : (parse : Result Command CdbFault) (named : Extent) → blocks_to_exchange parse ≡ Some named
    → IsExchange parse
is-exchange (Ok (command.CompareAndWrite c)) named is =
    record { command = command.CompareAndWrite c; is = refl; class = refl }
is-exchange _ named is = cc

-- what it is on a disk of a profile it is on any
pub read-exchange : (profile : Profile) (cdb : List ℕ) (named : Extent)
    → blocks_to_exchange (command_in profile cdb) ≡ Some named
    → blocks_to_exchange (command_of cdb) ≡ Some named
read-exchange profile cdb named is =
    let known = is-exchange (command_in profile cdb) named is in
    ap blocks_to_exchange (read-any profile cdb known.command known.is ∙ sym known.is) ∙ is

pub effect-is : CommandsHaveTheirClass → (state : State) (i : ℕ) (cdb data_out : List ℕ) (named : Extent)
    → blocks_to_exchange (command_in (profile_of state) cdb) ≡ Some named
    → NothingForbids state i data_out named → length data_out ≡ 2 * bytes_of named
    → checked_effect state i cdb data_out ≡ Ok (exchanging state (exchange_out named data_out))
unfolding checked_cdb
effect-is classes state i cdb data_out named is free two_halves =
    let parse = command_in (profile_of state) cdb in
    let known = is-exchange parse named is in
    by-cdb state i data_out named free two_halves (first_some (cdb_checks state i cdb))
    (cdb-none state i cdb known.command known.is
    (classes (profile_of state) cdb known.command known.is ∙ ap Some known.class) free.attention
    free.reservation)
    parse is

pub free-exchanges : CommandsHaveTheirClass → RemappingTakesWhatIsNeeded
    → ExchangesThatNothingForbidsEndWithGood
free-exchanges classes law state i cdb data_out named w is free =
    let its = exchanging state (exchange_out named data_out) in
    ap (λ (found : Result Effect Refusal). (outcome state i found).answer.status)
    (effect-is classes state i cdb data_out named is free.write free.two_halves)
    ∙ ap
    (λ (found : Option Refusal). (option_map_or (refused state i) found (executed its)).answer.status)
    (finds-nothing state i data_out named free.write free.two_halves law w free.found)
