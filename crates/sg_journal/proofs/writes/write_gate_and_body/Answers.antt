use Rattle.std.proofs.Common.{length, ◌+◌, arith}
use Rattle.sg_journal.specs.Journal.{HasFirst}
use Rattle.sg_journal.proofs.Changes.{first_first, holds_both}
use Rattle.sg_journal.proofs.Moments.{on_ok_weaker, then_leaves}
use Rattle.sg_journal.proofs.writes.write_gate_and_body.Goals as goal

pub returns-clause-put : goal.returns-clause-put
returns-clause-put g c =
    let seen = g.D.Device.seen in
    on_ok_weaker c.overwrite-2.result
    (λ is. holds_both c.args.at (seen c.args.device.now) c.args.gate.now c.args.body.now
    (seen c.overwrite.new.device) (seen c.overwrite-2.new.device) c.requires.at
    c.in_ok-overwrite.ensures.put is)
    c.overwrite-2.ensures.put

pub returns-clause-crash : goal.returns-clause-crash
returns-clause-crash g c file left =
    let may_leave = g.D.Device.may_leave in
    first_first c.args.at (c.args.at + length c.args.gate.now) (may_leave c.args.device.now)
    (may_leave c.overwrite.new.device) (omega arith) c.overwrite.ensures.crash file
    (c.overwrite-2.ensures.crash file left)

pub returns-clause-any_moment : goal.returns-clause-any_moment
returns-clause-any_moment g c =
    let may_leave = g.D.Device.may_leave in
    let n = c.args.at + length c.args.gate.now in
    let before = HasFirst c.args.at (may_leave c.args.device.now) in
    then_leaves g.D.Device.moment g.D.Device.left_since c.args.device.now c.overwrite.new.device
    c.overwrite-2.new.device before (HasFirst n (may_leave c.overwrite.new.device)) before
    c.overwrite.ensures.any_moment c.overwrite-2.ensures.any_moment (λ f has. has)
    (first_first c.args.at n (may_leave c.args.device.now) (may_leave c.overwrite.new.device)
    (omega arith) c.overwrite.ensures.crash)
