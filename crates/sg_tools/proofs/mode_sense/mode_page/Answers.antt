use Rattle.std.proofs.Common.{sym, ◌∙◌, ap}
use Rattle.std.specs.Prelude.{is_some}
use Rattle.sg_tools.proofs.NumberListLemmas.{none_of, pages_one, pages_two, pages_many}
use Rattle.sg_tools.proofs.mode_sense.mode_page.Goals as goal

pub returns-in_default : goal.returns-in_default
returns-in_default c = rw (
  pages_one c.args.text.now (sym c.first_comma.ensures.index
      ∙ c.in_default.is),
  ← c.read_number_up_to.ensures.value,
) c.both.ensures

pub returns-then-is_some : goal.returns-then-is_some
returns-then-is_some c =
    let place = rw c.after-subpage.ensures at c.first_comma-2.ensures.index in
    sym (pages_many c.args.text.now c.in-Some.end (sym c.first_comma.ensures.index ∙ c.in-Some.is)
    (ap is_some (sym place) ∙ sym c.is_some.ensures ∙ c.if-is_some.true))

pub returns : goal.returns
returns c =
    let place = rw c.after-subpage.ensures at c.first_comma-2.ensures.index in
    let last = sym place ∙ none_of c.first_comma-2.result (sym c.is_some.ensures
    ∙ c.if-is_some.false) in
    let second = rw c.after-subpage.ensures at c.read_number_up_to-3.ensures.value in
    rw (
      pages_two c.args.text.now c.in-Some.end (sym c.first_comma.ensures.index ∙ c.in-Some.is)
          last,
      ← c.read_number_up_to-2.ensures.value,
      ← second,
    ) c.both-2.ensures
