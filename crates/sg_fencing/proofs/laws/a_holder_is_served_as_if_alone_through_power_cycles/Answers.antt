use Rattle.std.proofs.Common.{refl}
use Rattle.sg_fencing.proofs.PoweredRunLemmas.{LookAlike, events-alike}
use Rattle.sg_fencing.proofs.laws.a_holder_is_served_as_if_alone_through_power_cycles.Goals as goal

pub returns : goal.returns
returns c state holder events w held starts keeps persist =
    let same : LookAlike state state holder = record {
      first_within = w;
      second_within = w;
      identity = refl;
      view = refl;
    } in
    let h =
    events-alike c.limits_are_kept.ensures c.others_are_refused.ensures c.one_key_each.ensures
    c.commands_have_their_class.ensures holder events state state same held starts keeps persist in
    record { view = h.view; answers = h.answers }
