use Rattle.std.proofs.Common.{◌≡◌, ◌∙◌, List, ℕ, Some, ap, false, length, rules, subst}
use Rattle.std.proofs.lemmas.List.{nil_from_length}
use Rattle.sg_journal.specs.JournalState.{has_waiting}
use Rattle.sg_target.specs.Target.{disk_of}
use Rattle.sg_kept.specs.Kept.{kept}
use Rattle.sg_kept.specs.Opened.{replayed_all}
use Rattle.sg_kept.proofs.OpenedLemmas.{none-waits, opened-is, without-last}
use Rattle.sg_kept.proofs.disk.KeptDisk.has_to_wait.Goals as goal

pub returns-else-not-is_empty-clause-written : goal.returns-else-not-is_empty-clause-written
returns-else-not-is_empty-clause-written g c not flushes owes =
    let self = c.args.self.now in
    let s = c.requires.usable.kept in
    let disk = disk_of self.target in
    let seen = g.D.Device.seen in
    let none : length self.batch.records ≡ 0 = search rules in
    let closed : has_waiting self.journal ≡ false = search rules in
    let leads = without-last s.waiting self.batch.records s.left (kept disk)
    (nil_from_length self.batch.records none) s.waits in
    let nothing = none-waits seen g.D.Device.may_leave self.journal s.batches s.waiting s.stands
    closed in
    let same = subst (λ (ws : List (List ℕ)). replayed_all ws s.left ≡ Some (kept disk)) nothing leads in
    opened-is (seen self.journal.device) s.batches (kept disk) s.stands.found (s.files ∙ same)
    ∙ ap Some (c.power_cycles_leave_what_is_kept.ensures.restored disk)
