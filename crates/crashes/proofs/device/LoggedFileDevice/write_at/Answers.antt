use Rattle.std.proofs.Common.{ap, ◌∙◌}
use Rattle.crashes.proofs.device.LoggedFileDevice.write_at.Goals as goal

pub returns-clause-crash : goal.returns-clause-crash
returns-clause-crash c =
    λ left is.
    let before = c.write_at.ensures.crash left is in
    (before.0, before.1 ∙ ap (λ file. file.bytes.items) c.note.ensures.file, before.2)
