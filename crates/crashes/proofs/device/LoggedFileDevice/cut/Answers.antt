use Rattle.std.proofs.Common.{ap, ◌∙◌}
use Rattle.crashes.proofs.device.LoggedFileDevice.cut.Goals as goal

pub returns-clause-crash : goal.returns-clause-crash
returns-clause-crash c =
    λ left is.
    let before = c.cut.ensures.crash left is in
    (before.0, before.1 ∙ ap (λ file. file.bytes.items) c.note.ensures.file, before.2)
