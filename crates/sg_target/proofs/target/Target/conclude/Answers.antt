use Rattle.std.proofs.Common.{◌≡◌, ◌≤◌, ℕ, List, Option, Some, None, Result, Ok, false, refl, sym}
use Rattle.std.proofs.Common.{subst, ◌∙◌, arith}
use Rattle.std.specs.Prelude.{is_some}
use Rattle.sg_faults.specs.Faults.{is_armed}
use Rattle.sg_faults.specs.Laws.{UnarmedFaultsDoNothing}
use Rattle.sg_faults.specs.declared.fault.Fault.{Fault}
use Rattle.sg_target.specs.Armed.{armed_step_by, marked_by, step_of_checked}
use Rattle.sg_target.specs.Charge.{CostBounds, TakesArmedStep, TakesStep, armed_ranges, step_by}
use Rattle.sg_target.specs.Charge.{cost_bounds, visit_bound}
use Rattle.sg_target.specs.Ranges.{ranges_if_passed, ranges_of}
use Rattle.sg_target.specs.Target.{TargetFields, disk_of}
use Rattle.sg_target.specs.declared.operation.Operation.{Operation}
use Rattle.sg_target.specs.declared.refusal.Refusal.{Refusal}
use Rattle.sg_target.specs.declared.reply.Reply.{Reply}
use Rattle.sg_target.proofs.ConcludingLemmas.{charged, executed, refused-taken, takes-unarmed}
use Rattle.sg_target.proofs.RangeLemmas.{price-within}
use Rattle.sg_target.proofs.target.Target.conclude.Goals as goal

-- an operation that the checks have passed takes the step of their result
taken : UnarmedFaultsDoNothing → (bounds : CostBounds) (i : ℕ) (cdb : List ℕ) (operation : Operation)
    (checked : Result Operation Refusal) (old new : TargetFields) (reply : Reply)
    (buffer buffer' : List ℕ) → is_armed old.faults ≡ false → marked_by checked ≡ None
    → checked ≡ Ok operation
    → TakesStep bounds (step_by old.state i operation) (ranges_of old.state operation) old new reply
    buffer buffer'
    → TakesArmedStep bounds (armed_step_by (disk_of old) i cdb checked)
    (armed_ranges (disk_of old) i cdb checked) old new reply buffer buffer'
taken law bounds i cdb operation checked old new reply buffer buffer' unarmed none is h =
    takes-unarmed law bounds i cdb checked old new reply buffer buffer' unarmed none
    (subst
    (λ (r : Result Operation Refusal). TakesStep bounds (step_of_checked old.state i r)
    (ranges_if_passed old.state r) old new reply buffer buffer')
    (sym is) h)

none-by : (mark : Option Fault) → false ≡ is_some mark → mark ≡ None
none-by None e = refl
none-by (Some fault) e = cc

pub returns-in-Ok-clause-executed : goal.returns-in-Ok-clause-executed
returns-in-Ok-clause-executed g c =
    executed c.limits_are_kept.ensures (cost_bounds g.S.Store.price g.S.Store.least) _ _ _ c.args.asked
    c.args.checked.now c.args.self.now _ _ _ _ c.requires.checked _ c.requires.asked c.requires.limits
    (taken c.unarmed_faults_do_nothing.ensures _ _ _ _ _ _ _ _ _ _ c.requires.unarmed
    (none-by _ (sym c.if-arms_fault.false ∙ c.arms_fault.ensures)) c.in-Ok.is
    c.execute_checked-reply.ensures)

pub returns-in-Ok-clause-charged : goal.returns-in-Ok-clause-charged
returns-in-Ok-clause-charged g c =
    let bounds = cost_bounds g.S.Store.price g.S.Store.least in
    let i = c.args.call.initiator in
    let cdb = c.args.call.cdb.now in
    let over = armed_ranges (disk_of c.args.self.now) i cdb c.args.checked.now in
    let step =
    taken c.unarmed_faults_do_nothing.ensures bounds i cdb c.in-Ok.operation c.args.checked.now
    c.args.self.now _ _ c.args.buf.now _ c.requires.unarmed
    (none-by _ (sym c.if-arms_fault.false ∙ c.arms_fault.ensures)) c.in-Ok.is
    c.execute_checked-reply.ensures in
    let within = price-within g.S.Store.price g.met.S.Store.price_within over in
    let few : c.execute_checked-reply.result.counts.visits ≤ visit_bound over =
    omega (arith, within, step.charge.visits) in
    charged c.limits_are_kept.ensures bounds i cdb _ c.args.asked c.args.checked.now c.args.self.now _ _
    c.args.buf.now c.execute_checked-reply.new.buf c.requires.checked step.charge few

pub returns-in-Err-clause-executed : goal.returns-in-Err-clause-executed
returns-in-Err-clause-executed g c =
    let bounds = cost_bounds g.S.Store.price g.S.Store.least in
    let i = c.args.call.initiator in
    let done = c.refuse-reply.ensures in
    let checked = c.args.checked.now in
    executed c.limits_are_kept.ensures bounds _ _ _ c.args.asked checked c.args.self.now _ _ _ _
    c.requires.checked _ c.requires.asked c.requires.limits
    (takes-unarmed c.unarmed_faults_do_nothing.ensures bounds i c.args.call.cdb.now checked
    c.args.self.now _ _ _ _ c.requires.unarmed
    (none-by _ (sym c.if-arms_fault.false ∙ c.arms_fault.ensures))
    (refused-taken bounds i c.in-Err.refusal _ c.args.self.now c.refuse-reply.new.self
    c.refuse-reply.result c.args.buf.now done.reply c.default.ensures done.meter checked c.in-Err.is
    done.state done.faults))
