-- Commands that unmap all blocks of a disk leave it empty.
use Rattle.std.proofs.Common.{◌≡◌, ◌<◌, ℕ, List, [], ◌∷◌, Bool, true, false, cond}
use Rattle.std.proofs.Common.{Option, Some, None, Ok, refl, sym, ap, ◌∙◌, arith}
use Rattle.std.proofs.lemmas.Bool.Decides.{nat_tests}
use Rattle.std.specs.Cmp.{nat_cmp_total}
use Rattle.std.specs.Ordering.{nat_cmp}
use Rattle.std.specs.FinMap as map
use Rattle.std.specs.FinMap.{empty, get-empty, len, len-empty, same_map, nat_cmp-IsAntisymmetric}
use Rattle.sg_wire.specs.declared.command.Command.{Command}
use Rattle.sg_wire.specs.declared.command.Command.TheVariants as command
use Rattle.sg_store.specs.Disk.{Contents, IsWellFormed, Mapping, data_in, lies_in, unmapped}
use Rattle.sg_store.specs.Laws.{UnmapsEachAddress, UnmapsEachBlock}
use Rattle.sg_store.specs.LbaStatus.{status_in}
use Rattle.sg_target.specs.Alerts.{alerted}
use Rattle.sg_target.specs.CommandLaws.{FormatsEmptyTheDisk, IsEmptied, empties_disk}
use Rattle.sg_target.specs.Config.{ConfigFields}
use Rattle.sg_target.specs.Demands.{demands, extent, list_refusal}
use Rattle.sg_target.specs.Effect.{with_contents}
use Rattle.sg_target.specs.ProvisioningCommands.{unmapping}
use Rattle.sg_target.specs.Refusal.{unless_refused}
use Rattle.sg_target.specs.State.{State, config_of, resources_of}
use Rattle.sg_target.specs.Step.{Step, step}
use Rattle.sg_target.specs.declared.operation.Operation.{Operation}
use Rattle.sg_target.specs.declared.operation.Operation.TheVariants as operation
use Rattle.sg_target.specs.declared.refusal.Refusal.{Refusal}
use Rattle.sg_target.proofs.CommandLemmas.{by-operation, done-well}
use Rattle.sg_target.proofs.EachExtentLemmas.{given-mapping}

-- each of them unmaps all blocks
unless-asked : (refused : Option Refusal) (known o : Operation)
    → unless_refused refused (Ok known) ≡ Ok o → known ≡ o
unless-asked None known o e = cc
unless-asked (Some refusal) known o e = cc

all-asked : (config : ConfigFields) (c : Command) (data_out : List ℕ) (o : Operation)
    → (demands config c data_out).operation ≡ Ok o → empties_disk (Ok c) ≡ true
    → operation.UnmapAll config.blocks ≡ o
all-asked config (command.FormatUnit c) data_out o e h =
    unless-asked (list_refusal c data_out) (operation.UnmapAll config.blocks) o e
all-asked config (command.SanitizeBlockErase c) data_out o e h = cc
all-asked config (command.SanitizeCryptographicErase c) data_out o e h = cc
all-asked config _ data_out o e h = cc

-- an address of the disk is unmapped, and no other was mapped or anchored
below : (capacity address : ℕ) → address < capacity → lies_in 0 capacity address ≡ true
below capacity address h = grind (arith, nat_tests)

none-left : (capacity address : ℕ) (m : Contents) → IsWellFormed capacity m → (found : Option Mapping)
    → map.get m address ≡ found → cond (lies_in 0 capacity address) None found ≡ None
none-left capacity address m whole None e = none-either (lies_in 0 capacity address)
  where
    none-either : (inside : Bool) → cond {A = Option Mapping} inside None None ≡ None
    none-either true = refl
    none-either false = refl
none-left capacity address m whole (Some mapping) e =
    ap (λ (inside : Bool). cond inside None (Some mapping))
    (below capacity address (whole.each address mapping e).0)

module _ (addresses : UnmapsEachAddress) (zeros : UnmapsEachBlock) where
  emptied : (capacity : ℕ) (m : Contents) → IsWellFormed capacity m → unmapped m 0 capacity ≡ empty
  emptied capacity m whole = same_map nat_cmp_total nat_cmp-IsAntisymmetric _ _ (λ q.
      given-mapping (lies_in 0 capacity q) None (map.get m q) (map.get (unmapped m 0 capacity) q)
      (addresses m 0 capacity q) (zeros m 0 capacity q)
      ∙ (none-left capacity q m whole (map.get m q) refl ∙ sym (get-empty nat_cmp q)))

  empty-is : (state : State) (i : ℕ) (contents : Contents) → contents ≡ empty
      → IsEmptied i state (alerted (resources_of state) i (with_contents state contents))
  empty-is state i contents e = record {
    used = ap len e ∙ len-empty nat_cmp Mapping;
    statuses = λ address.
        ap (λ (m : Contents). status_in (map.get m address)) e ∙ ap status_in (get-empty nat_cmp address);
    blocks = λ address.
        ap (λ (m : Contents). data_in (map.get m address)) e ∙ ap data_in (get-empty nat_cmp address);
    rest = refl;
  }

  pub formats-empty : FormatsEmptyTheDisk
  formats-empty state i cdb data_out limits is good =
      let d = done-well state i cdb data_out good in
      let all = extent 0 state.disk.capacity in
      let known = all-asked (config_of state) d.asked.command data_out d.operation
      d.asked.operation_is (ap empties_disk (sym d.asked.command_is) ∙ is) in
      by-operation (λ (done : Step). IsEmptied i state done.state) state i d.operation d.effect
      (step state i cdb data_out) (operation.UnmapAll state.disk.capacity)
      (unmapping state (all ∷ [])) known refl d.effect_is d.done_is
      (empty-is state i (unmapped state.disk.contents 0 state.disk.capacity)
      (emptied state.disk.capacity state.disk.contents limits.blocks))
