use Rattle.std.proofs.Common.{◌≡◌, ◌≤◌, ◌+◌, length, drop, ap, arith, ◌∙◌}
use Rattle.std.specs.Prelude.{slice_range}
use Rattle.sg_run.specs.Window.{Window}
use Rattle.sg_run.proofs.BufferLemmas.{range-skip, range-end}
use Rattle.sg_run.proofs.lines.read_ahead.ReadAhead.skip.Goals as goal

pub returns : goal.returns
returns c =
    let a = c.self.inside in
    let ahead : slice_range a.bytes.items a.start a.end ≡ c.args.self.now.ahead =
    ap (λ (w : Window). w.ahead) c.self.view_is in
    let within : a.start + c.args.count ≤ a.end =
    range-end a.bytes.items a.start a.end c.args.count (omega arith)
    (omega (arith, ap length ahead)) in
    range-skip a.bytes.items a.start a.end c.args.count within ∙ ap (drop c.args.count) ahead
