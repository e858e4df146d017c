use Rattle.sg_target.proofs.ConfigurationLemmas.{blocks-left, reservations-left, saved-left}
use Rattle.sg_target.proofs.laws.happenings_leave_the_rest.Goals as goal

pub returns : goal.returns
returns c =
    record { blocks = blocks-left; saved_pages = saved-left; reservations = reservations-left }
