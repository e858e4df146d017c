use Rattle.std.proofs.Common.{◌≡◌, ◌≤◌, ◌+◌, length, take, drop, ap, arith, ◌∙◌}
use Rattle.std.specs.Prelude.{slice_range}
use Rattle.sg_run.specs.Window.{Window}
use Rattle.sg_run.proofs.BufferLemmas.{range-first, range-skip, range-end}
use Rattle.sg_run.proofs.lines.read_ahead.ReadAhead.take_line.Goals as goal

pub returns-clause-line : goal.returns-clause-line
returns-clause-line c =
    let a = c.self.inside in
    let ahead : slice_range a.bytes.items a.start a.end ≡ c.args.self.now.ahead =
    ap (λ (w : Window). w.ahead) c.self.view_is in
    let within : a.start + c.args.len ≤ a.end =
    range-end a.bytes.items a.start a.end c.args.len (omega arith)
    (omega (arith, ap length ahead)) in
    range-first a.bytes.items a.start a.end c.args.len within ∙ ap (take c.args.len) ahead

pub returns-clause-ahead : goal.returns-clause-ahead
returns-clause-ahead c =
    let a = c.self.inside in
    let ahead : slice_range a.bytes.items a.start a.end ≡ c.args.self.now.ahead =
    ap (λ (w : Window). w.ahead) c.self.view_is in
    let within : a.start + (c.args.len + 1) ≤ a.end =
    range-end a.bytes.items a.start a.end (c.args.len + 1) (omega arith)
    (omega (arith, ap length ahead)) in
    let sum : (a.start + c.args.len) + 1 ≡ a.start + (c.args.len + 1) = omega arith in
    ap (λ k. slice_range a.bytes.items k a.end) sum
    ∙ range-skip a.bytes.items a.start a.end (c.args.len + 1) within
    ∙ ap (drop (c.args.len + 1)) ahead
