use Rattle.std.proofs.Common.{◌≡◌, ◌≢◌, length, arith, rules}
use Rattle.sg_changes.proofs.ReplayLemmas.{applied_shorter, so_far_all, so_far_damaged, so_far_first}
use Rattle.sg_changes.proofs.ReplayLemmas.{so_far_next, so_far_none, so_far_within}
use Rattle.sg_changes.proofs.parts.KeptParts.replay.Goals as goal

pub loop-rest-init : goal.loop-rest-init
loop-rest-init g c = so_far_first c.args.batch.now c.args.self.now

pub returns-in_default-clause-err : goal.returns-in_default-clause-err
returns-in_default-clause-err g c =
    let some : length c.loop-rest.rest.now ≢ 0 = search rules in
    so_far_none c.args.batch.now c.loop-rest.rest.now c.args.self.now c.loop-rest.self some
    c.in_default.ensures
    c.loop-rest.invariant

pub returns-in_default-clause-damaged : goal.returns-in_default-clause-damaged
returns-in_default-clause-damaged g c =
    let some : length c.loop-rest.rest.now ≢ 0 = search rules in
    let within = so_far_within c.args.batch.now c.loop-rest.rest.now c.args.self.now c.loop-rest.self
    c.loop-rest.invariant in
    so_far_damaged c.args.batch.now c.loop-rest.rest.now c.args.self.now c.loop-rest.self _ some (omega arith)
    c.in_default.ensures c.loop-rest.invariant

pub loop-rest-smaller : goal.loop-rest-smaller
loop-rest-smaller g c =
    applied_shorter c.loop-rest.rest.now c.loop-rest.self c.apply_first.new.self c.in-Some.after.now
    c.in-Some.ensures

pub loop-rest-preserved : goal.loop-rest-preserved
loop-rest-preserved g c =
    so_far_next c.args.batch.now c.loop-rest.rest.now c.in-Some.after.now c.args.self.now c.loop-rest.self
    c.apply_first.new.self (λ i. omega (arith, c.type_inv.batch i)) c.in-Some.ensures c.loop-rest.invariant

pub returns-clause-ok : goal.returns-clause-ok
returns-clause-ok g c =
    let none : length c.loop-rest.rest.now ≡ 0 = search rules in
    so_far_all c.args.batch.now c.loop-rest.rest.now c.args.self.now c.loop-rest.self none
    c.loop-rest.invariant
