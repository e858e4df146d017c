use Rattle.std.proofs.Common.{◌≡◌, ◌∙◌, Err, Ok, Option, ap, sym}
use Rattle.std.proofs.lemmas.Result.{err_from_is_err_and}
use Rattle.std.specs.Option.{option_map_or}
use Rattle.sg_copy.specs.declared.copy_list.Segment.{Segment}
use Rattle.sg_pages.specs.VitalProductData.{unit_designation}
use Rattle.sg_target.specs.CopyRequest.{copy_asked}
use Rattle.sg_target.specs.declared.operation.Operation.TheVariants as operation
use Rattle.sg_target.proofs.CopyLemmas.{is-read, is-refused, is-sound}
use Rattle.sg_target.proofs.copying.check_extended_copy.Goals as goal
use Rattle.sg_target.proofs.copying.check_extended_copy.Goals.{in-Some, in-None}

pub returns-in_err-asked : goal.returns-in_err-asked
returns-in_err-asked c =
    let exit = c.from_residual-in_err-asked in
    let fault = err_from_is_err_and exit.result exit.ensures.1 in
    let config = c.args.config.now in
    let data_out = c.args.data_out.now in
    fault.1 ∙ ap Err fault.2
    ∙ sym (is-refused config c.args.fields data_out c.in_ok-list.ensures.passed _
    (is-read config c.args.fields data_out _ _ _ _ c.in_err-asked.ensures.value
    (c.unit_designation.ensures ∙ ap unit_designation c.identity.ensures) c.blocks-2.ensures.value
    c.in_ok-list.ensures.bytes))

pub returns : goal.returns
returns c =
    let config = c.args.config.now in
    let data_out = c.args.data_out.now in
    let sound = is-sound config c.args.fields data_out c.in_ok-list.ensures.passed c.in_ok-asked.asked
    (is-read config c.args.fields data_out _ _ _ _ c.in_ok-asked.ensures.value
    (c.unit_designation.ensures ∙ ap unit_designation c.identity.ensures) c.blocks-2.ensures.value
    c.in_ok-list.ensures.bytes) in
    let asked = λ (s : Option Segment). option_map_or operation.Copy s operation.Nothing in
    ap Ok (elim c.match-asked.branch as
    (λ branch. c.match-asked.result ≡ copy_asked c.in_ok-asked.asked) [
      | in-Some w ↦ w.result-is ∙ sym (ap asked w.in-Some.is)
      | in-None w ↦ w.result-is ∙ sym (ap asked w.in-None.is)
    ])
    ∙ sym sound
