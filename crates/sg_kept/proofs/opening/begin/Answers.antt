use Rattle.std.proofs.Common.{◌≡◌, Some, sym, subst, rules}
use Rattle.sg_changes.specs.FirstRecord.{new_disk_kept}
use Rattle.sg_changes.specs.Replay.{replayed}
use Rattle.sg_kept.specs.Opening.{IsSteady}
use Rattle.sg_kept.proofs.OpeningLemmas.{begun-read, read-new}
use Rattle.sg_kept.proofs.SteadyLemmas.{steady-new, steady-replayed}
use Rattle.sg_kept.proofs.opening.begin.Goals as goal

pub returns-in-Ok-clause-begun : goal.returns-in-Ok-clause-begun
returns-in-Ok-clause-begun g c =
    let new : c.in_ok-parts.parts ≡ new_disk_kept c.in-Some.disk = search rules in
    let replays : replayed c.in-Some.rest.now c.in_ok-parts.parts ≡ Some c.replay.new.self = search rules in
    begun-read c.args.first.now c.in-Some.rest.now c.in-Some.disk c.in_ok-parts.parts c.replay.new.self
    c.in-Some.ensures new replays

pub returns-in-Ok-clause-steady : goal.returns-in-Ok-clause-steady
returns-in-Ok-clause-steady g c =
    let new : c.in_ok-parts.parts ≡ new_disk_kept c.in-Some.disk = search rules in
    let replays : replayed c.in-Some.rest.now c.in_ok-parts.parts ≡ Some c.replay.new.self = search rules in
    steady-replayed c.kept_stays_sound.ensures c.in-Some.rest.now c.in_ok-parts.parts c.replay.new.self
    (subst IsSteady (sym new) (steady-new c.kept_stays_sound.ensures c.in-Some.disk
    (read-new c.args.first.now c.in-Some.rest.now c.in-Some.disk c.in-Some.ensures)))
    replays
