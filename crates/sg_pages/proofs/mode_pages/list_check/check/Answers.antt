use Rattle.std.proofs.Common.{◌∙◌, length, ap, sym, arith}
use Rattle.sg_pages.specs.ModeSelect.{differences, least, unless_fault}
use Rattle.sg_pages.proofs.FaultLemmas.{part-different, part-short, part-whole, clipped, least-none}
use Rattle.sg_pages.proofs.mode_pages.list_check.check.Goals as goal

pub returns-in-Some-clause-result : goal.returns-in-Some-clause-result
returns-in-Some-clause-result c =
    let a = c.args in
    let sent = clipped c.min.result a.size a.offset a.list.now c.min.ensures in
    let e = c.in-Some.ensures ∙ ap (λ bytes. least
    (differences a.offset a.expected.now a.ignored.now bytes)) sent in
    sym (ap (λ fault. unless_fault fault tt)
    (part-different a.expected.now a.ignored.now a.offset a.size a.list.now c.in-Some.different
    c.requires.offset e))

pub returns-then-sent-size-clause-result : goal.returns-then-sent-size-clause-result
returns-then-sent-size-clause-result c =
    let a = c.args in
    let sent = clipped c.min.result a.size a.offset a.list.now c.min.ensures in
    let e = sym c.in_default.is ∙ (c.first_difference.ensures
    ∙ ap (λ bytes. least (differences a.offset a.expected.now a.ignored.now bytes)) sent) in
    sym (ap (λ fault. unless_fault fault tt)
    (part-short a.expected.now a.ignored.now a.offset a.size a.list.now c.requires.offset e
    (omega (arith, c.if-sent-size.true, ap length sent))))

pub returns-clause-result : goal.returns-clause-result
returns-clause-result c =
    let a = c.args in
    let sent = clipped c.min.result a.size a.offset a.list.now c.min.ensures in
    let e = sym c.in_default.is ∙ (c.first_difference.ensures
    ∙ ap (λ bytes. least (differences a.offset a.expected.now a.ignored.now bytes)) sent) in
    sym (ap (λ fault. unless_fault fault tt)
    (part-whole a.expected.now a.ignored.now a.offset a.size a.list.now e
    (omega (arith, c.if-sent-size.false, ap length sent))))

pub returns-clause-same : goal.returns-clause-same
returns-clause-same c =
    let a = c.args in
    let sent = clipped c.min.result a.size a.offset a.list.now c.min.ensures in
    least-none _ (sym c.in_default.is
    ∙ (c.first_difference.ensures ∙ ap
    (λ bytes. least (differences a.offset a.expected.now a.ignored.now bytes)) sent))
