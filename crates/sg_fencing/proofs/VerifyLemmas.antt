-- A VERIFY that ends with GOOD has found its data-out in its blocks.
use Rattle.std.proofs.Common.{◌≡◌, ◌≤◌, ℕ, List, length, take, Option, Some, None, Ok, ◌∙◌}
use Rattle.std.proofs.Common.{refl, sym, ap, subst, arith, length-take}
use Rattle.sg_wire.specs.declared.command.Command.{Command}
use Rattle.sg_wire.specs.declared.command.Command.TheVariants as command
use Rattle.sg_wire.specs.declared.command.verify.ByteCheck.{ByteCheck}
use Rattle.sg_wire.specs.declared.command.verify.ByteCheck.TheVariants.{DataOut, Nothing, OneBlock, Reserved}
use Rattle.sg_wire.specs.declared.extent.Extent.{Extent}
use Rattle.sg_store.specs.Comparison.{first_difference}
use Rattle.sg_store.proofs.ComparisonLemmas.{none-same}
use Rattle.sg_target.specs.BlockCommands.{blocks_at, blocks_out, bytes_of, comparing, miscompare}
use Rattle.sg_target.specs.Charge.{step_by}
use Rattle.sg_target.specs.Config.{ConfigFields}
use Rattle.sg_target.specs.DataOut.{moved}
use Rattle.sg_target.specs.Demands.{demands, extent, too_long, verify}
use Rattle.sg_target.specs.Refusal.{first_some}
use Rattle.sg_target.specs.State.{IsWithinLimits, State, config_of}
use Rattle.sg_target.specs.Step.{Step, refused, with_alert}
use Rattle.sg_target.specs.declared.operation.Operation.{Operation}
use Rattle.sg_target.specs.declared.operation.Operation.TheVariants.{Compare}
use Rattle.sg_target.specs.declared.refusal.Refusal.{Refusal}
use Rattle.sg_target.proofs.LiftLemmas.{lifted, not_good, outcome-by, request_checks}
use Rattle.sg_target.proofs.MovedLemmas.{its-moved, moved-whole}
use Rattle.sg_fencing.specs.Comparisons.{IsCompared, VerifiesCompareTheirBlocks, blocks_to_compare}
use Rattle.sg_fencing.specs.Comparisons.{compared_with_data}
use Rattle.sg_fencing.proofs.DiskLemmas.{refused-leaves}
use Rattle.sg_fencing.proofs.ExchangeLemmas.{length-blocks}
use Rattle.sg_target.proofs.AlertLemmas.{refused-no-alert}

-- ---- What it asks for

-- it asks for the comparison, and has the data-out of its blocks
record IsAsked (config : ConfigFields) (out : Extent) (data_out : List ℕ) (operation : Operation)
    : Type 0 where
  is : Compare (blocks_out (moved config out data_out) data_out) ≡ operation
  long : bytes_of (moved config out data_out) ≤ length data_out

module _ (config : ConfigFields) (data_out : List ℕ) (operation : Operation) (out : Extent) where
  by-check : (check : ByteCheck) (named : Extent) (byte : ℕ)
      → first_some (request_checks (verify config check named byte data_out) data_out) ≡ None
      → (verify config check named byte data_out).operation ≡ Ok operation
      → compared_with_data check named ≡ Some out → IsAsked config out data_out operation
  by-check DataOut named byte accepted asks h =
      let same : named ≡ out = cc in
      record {
        is = its-moved config data_out Compare named out operation same asks;
        long =
            subst (λ (e : Extent). bytes_of (moved config e data_out) ≤ length data_out) same
            (moved-whole config named (too_long config named.count byte) data_out accepted);
      }
  by-check Nothing named byte accepted asks h = cc
  by-check Reserved named byte accepted asks h = cc
  by-check OneBlock named byte accepted asks h = cc

  is-asked : (c : Command) → first_some (request_checks (demands config c data_out) data_out) ≡ None
      → (demands config c data_out).operation ≡ Ok operation → blocks_to_compare (Ok c) ≡ Some out
      → IsAsked config out data_out operation
  is-asked (command.Verify10 c) accepted asks h =
      by-check c.byte_check (extent c.extent.lba c.extent.count) 7 accepted asks h
  is-asked (command.Verify12 c) accepted asks h =
      by-check c.byte_check (extent c.extent.lba c.extent.count) 6 accepted asks h
  is-asked (command.Verify16 c) accepted asks h =
      by-check c.byte_check (extent c.extent.lba c.extent.count) 10 accepted asks h
  is-asked _ accepted asks h = cc

-- ---- What it finds

none-found : (difference : Option ℕ) → miscompare difference ≡ None → difference ≡ None
none-found None e = refl
none-found (Some offset) e = cc

module _ (state : State) (i : ℕ) (w : IsWithinLimits state) (out : Extent) (data_out : List ℕ) where
  abbrev Compares : Step → Type 0
  Compares done = IsCompared state done out data_out

  refused-compares : (refusal : Refusal) → Compares (refused state i refusal)
  refused-compares refusal = record {
    equal = λ good. absurd (not_good state i refusal good);
    disk = refused-leaves state i refusal;
  }

  operation-compares : bytes_of out ≤ length data_out
      → Compares (step_by state i (Compare (blocks_out out data_out)))
  operation-compares long =
      let found = blocks_at state out in
      let sent = take (bytes_of out) data_out in
      let whole = length-blocks state.disk.contents state.disk.capacity out.lba out.count w.blocks in
      outcome-by state i (λ (done : Step). Compares (with_alert state i done))
      (comparing state (blocks_out out data_out))
      (λ refusal. subst Compares (sym (refused-no-alert state i refusal)) (refused-compares refusal))
      (λ none. record {
        equal =
            λ good. none-same found sent (omega (arith, whole, long, length-take (bytes_of out) data_out))
            (none-found (first_difference found sent) none);
        disk = refl;
      })

pub verifies-compare : VerifiesCompareTheirBlocks
verifies-compare state i cdb data_out named w is =
    let config = config_of state in
    let out = moved config named data_out in
    lifted state i cdb data_out (λ (done : Step). IsCompared state done out data_out)
    (refused-compares state i w out data_out)
    (λ operation k.
    let known = is-asked config data_out operation named k.command k.accepted k.operation_is
    (ap blocks_to_compare (sym k.command_is) ∙ is) in
    subst (λ (o : Operation). IsCompared state (step_by state i o) out data_out) known.is
    (operation-compares state i w out data_out known.long))
