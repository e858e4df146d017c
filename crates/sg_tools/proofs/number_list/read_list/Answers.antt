use Rattle.std.proofs.Common.{sym, ◌∙◌}
use Rattle.sg_tools.proofs.NumberListLemmas.{reading_on, reading_fails, reading_ends}
use Rattle.sg_tools.proofs.NumberListLemmas.{reading_ends_badly}
use Rattle.sg_tools.proofs.number_list.read_list.Goals as goal

pub entries-preserved : goal.entries-preserved
entries-preserved c =
    rw c.after-rest.ensures (reading_on _ _ _ _ _ _ _ _ c.entries.invariant
    (sym c.first_comma.ensures.index ∙ c.in-Some.is) c.in-Some.ensures.within
    c.read_number_up_to-in-entries.ensures.value c.in-Some-read_number_up_to-2.is
    c.push-in-entries.ensures)

pub returns-in_default-read_number_up_to : goal.returns-in_default-read_number_up_to
returns-in_default-read_number_up_to c =
    reading_ends_badly _ _ _ _ _ c.entries.invariant (sym c.first_comma.ensures.index
    ∙ c.in_default.is) c.read_number_up_to.ensures.value c.in_default-read_number_up_to.is

pub returns-in_default : goal.returns-in_default
returns-in_default c =
    reading_ends _ _ _ _ _ _ _ c.entries.invariant (sym c.first_comma.ensures.index
    ∙ c.in_default.is) c.read_number_up_to.ensures.value c.in-Some-read_number_up_to.is
    c.push.ensures

pub returns-in_default-read_number_up_to-2 : goal.returns-in_default-read_number_up_to-2
returns-in_default-read_number_up_to-2 c =
    reading_fails _ _ _ _ _ _ c.entries.invariant (sym c.first_comma.ensures.index ∙ c.in-Some.is)
    c.read_number_up_to-in-entries.ensures.value c.in_default-read_number_up_to-2.is
