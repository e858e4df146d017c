use Rattle.std.proofs.Common.{◌≡◌, ◌<◌, Option, ℕ, true, sym, subst, ◌∙◌}
use Rattle.sg_queue.specs.QueueFields.{has_any}
use Rattle.sg_embed.specs.FileDisk.{IsBetweenSteps}
use Rattle.sg_embed.proofs.CompactingLemmas.{fewer-steps, gone-on, going-begins, going-further, steps-left}
use Rattle.sg_embed.proofs.steps.go_on.Goals as goal

pub loop-from-init : goal.loop-from-init
loop-from-init c = record {
  goes = going-begins c.args.disk.now c.args.next.now c.requires.alive c.requires.between;
}

pub returns-in_default-clause-ready : goal.returns-in_default-clause-ready
returns-in_default-clause-ready c = (c.loop-from.invariant.goes.between, λ _. c.in_default.is)

pub returns-in_default-clause-goes_on : goal.returns-in_default-clause-goes_on
returns-in_default-clause-goes_on c =
    gone-on c.args.disk.now c.loop-from.disk c.args.next.now c.loop-from.next c.loop-from.invariant.goes
    (λ _. c.in_default.is)

pub step-requires : goal.step-requires
step-requires c = record {
  compacting = subst (IsBetweenSteps c.loop-from.disk) c.in-Some.is c.loop-from.invariant.goes.between;
}

pub loop-from-smaller : goal.loop-from-smaller
loop-from-smaller c =
    subst (λ (n : Option ℕ). steps-left c.step.new.disk c.step.result < steps-left c.loop-from.disk n)
    (sym c.in-Some.is)
    (fewer-steps c.loop-from.disk c.step.new.disk c.in-Some.from c.step.result c.step.ensures.between
    c.step.ensures.further c.step.ensures.compacts)

pub loop-from-preserved : goal.loop-from-preserved
loop-from-preserved c = record {
  goes = going-further c.args.disk.now c.loop-from.disk c.step.new.disk c.args.next.now c.loop-from.next
      c.step.result c.in-Some.from c.loop-from.invariant.goes c.in-Some.is
      (sym c.calls_wait.ensures ∙ c.loop-from-test.true) c.step.ensures.between c.step.ensures.compacts
      c.step.ensures.short;
}

pub returns-clause-ready : goal.returns-clause-ready
returns-clause-ready c = (
  c.loop-from.invariant.goes.between,
  λ none.
      let some : has_any _ ≡ true = sym c.calls_wait.ensures ∙ c.loop-from-test.false in
      absurd cc,
)

pub returns-clause-goes_on : goal.returns-clause-goes_on
returns-clause-goes_on c =
    gone-on c.args.disk.now c.loop-from.disk c.args.next.now c.loop-from.next c.loop-from.invariant.goes
    (λ none. let some : has_any _ ≡ true = sym c.calls_wait.ensures ∙ c.loop-from-test.false in absurd cc)
