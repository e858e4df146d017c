-- An EXTENDED COPY copies its blocks.
use Rattle.std.proofs.Common.{◌≡◌, ◌∙◌, ℕ, ◌+◌, ◌-◌, List, Option, Some}
use Rattle.std.proofs.Common.{Result, Ok, Err, refl, sym, ap}
use Rattle.std.specs.Option.{option_map_or}
use Rattle.sg_copy.specs.declared.copy_list.CopyList.{CopyList}
use Rattle.sg_copy.specs.declared.copy_list.Segment.{Segment}
use Rattle.sg_wire.specs.FirstBytes.{first_bytes}
use Rattle.sg_wire.specs.declared.command.Command.{Command}
use Rattle.sg_wire.specs.declared.command.Command.TheVariants as command
use Rattle.sg_wire.specs.declared.lba_status.ProvisioningStatus.TheVariants.{Mapped}
use Rattle.sg_store.specs.Disk.{block, data_in, lies_in}
use Rattle.sg_store.specs.Laws.{RemappingTakesWhatIsNeeded}
use Rattle.sg_store.specs.LbaStatus.{status_in}
use Rattle.sg_target.specs.BlockCommands.{copied_block, copying}
use Rattle.sg_target.specs.CommandLaws.{Changes, CopiesCopyTheirBlocks, segment_asked, segment_to_copy}
use Rattle.sg_target.specs.Config.{ConfigFields}
use Rattle.sg_target.specs.CopyRequest.{copy_asked, list_asked}
use Rattle.sg_target.specs.Demands.{demands}
use Rattle.sg_target.specs.Refusal.{when_sound}
use Rattle.sg_target.specs.State.{config_of}
use Rattle.sg_target.specs.Step.{Step, step}
use Rattle.sg_target.specs.declared.operation.Operation.{Operation}
use Rattle.sg_target.specs.declared.operation.Operation.TheVariants as operation
use Rattle.sg_target.specs.declared.refusal.Refusal.{Refusal}
use Rattle.sg_target.proofs.CommandLemmas.{by-operation, done-well}
use Rattle.sg_target.proofs.OrWriteLawLemmas.{replaced-at}

-- a list that has this segment asks for its copy
list-asks : (found : Result CopyList Refusal) (o : Operation) (segment : Segment)
    → when_sound found copy_asked ≡ Ok o → segment_asked found ≡ Some segment
    → operation.Copy segment ≡ o
list-asks (Err refusal) o segment e h = cc
list-asks (Ok list) o segment e h =
    let is : copy_asked list ≡ o = cc in
    sym (ap (λ (s : Option Segment). option_map_or operation.Copy s operation.Nothing) h) ∙ is

copy-asked : (config : ConfigFields) (c : Command) (data_out : List ℕ) (o : Operation) (segment : Segment)
    → (demands config c data_out).operation ≡ Ok o
    → segment_to_copy config (Ok c) data_out ≡ Some segment → operation.Copy segment ≡ o
copy-asked config (command.ExtendedCopy c) data_out o segment e h =
    list-asks (list_asked config (first_bytes c.list_length data_out)) o segment e h
copy-asked config _ data_out o segment e h = cc

pub copies-copy : RemappingTakesWhatIsNeeded → CopiesCopyTheirBlocks
copies-copy law state i cdb data_out segment is good =
    let d = done-well state i cdb data_out good in
    let contents = state.disk.contents in
    let f = copied_block contents segment in
    let config = config_of state in
    let known = copy-asked config d.asked.command data_out d.operation segment d.asked.operation_is
    (ap (λ parsed. segment_to_copy config parsed data_out) (sym d.asked.command_is) ∙ is) in
    by-operation
    (λ (done : Step). Changes i state done.state (lies_in segment.destination segment.blocks) Mapped
    (λ address. block contents (segment.source + (address - segment.destination))))
    state i d.operation d.effect (step state i cdb data_out) (operation.Copy segment)
    (copying state segment) known refl d.effect_is d.done_is
    (record {
      statuses = replaced-at law contents segment.destination segment.blocks f status_in;
      blocks = replaced-at law contents segment.destination segment.blocks f data_in;
      rest = refl;
    })
