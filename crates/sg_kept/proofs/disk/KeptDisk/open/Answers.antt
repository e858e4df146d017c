use Rattle.std.proofs.Common.{Some, refl, sym, ap, ◌∙◌}
use Rattle.sg_journal.specs.BatchValue.{BatchValue}
use Rattle.sg_kept.proofs.OpenedLemmas.{batch_count-is, opened-is}
use Rattle.sg_kept.proofs.OpeningLemmas.{started}
use Rattle.sg_kept.proofs.RefusedLemmas.{no-disk}
use Rattle.sg_kept.proofs.disk.KeptDisk.open.Goals as goal

pub returns-in-Err-clause-refused : goal.returns-in-Err-clause-refused
returns-in-Err-clause-refused g c =
    let source = c.in-Err.source in
    no-disk c.error_of_file.result (g.F.Source.taken source) (g.F.Source.left source)
    (c.error_of_file.ensures.says (g.F.Source.taken source) (g.F.Source.left source)
    (λ fault is. c.in-Err.ensures.fault fault is))

pub returns-in-Err-read_disk-clause-refused : goal.returns-in-Err-read_disk-clause-refused
returns-in-Err-read_disk-clause-refused g c =
    let source = c.read_disk.new.reader.source in
    no-disk c.in-Err-read_disk.error (g.F.Source.taken source) (g.F.Source.left source)
    c.in-Err-read_disk.ensures.says

pub returns-clause-started : goal.returns-clause-started
returns-clause-started g c =
    let made = c.in-Ok-read_disk in
    let read = made.ensures.read in
    let journal = c.in-Ok-into_journal.ensures in
    started g.D.Device.seen g.D.Device.may_leave _ read.batches made.disk.0.parts
    (journal.batches read.batches read.found) read.files made.ensures.steady.reservations
    c.target_of.ensures.disk c.target_of.ensures.limits (ap (λ (b : BatchValue). b.records) c.clear.ensures)
    (ap (λ (b : BatchValue). b.sector) c.clear.ensures ∙ made.ensures.sector ∙ sym journal.sector)
    made.ensures.scratch refl

pub returns-clause-opened : goal.returns-clause-opened
returns-clause-opened g c =
    let made = c.in-Ok-read_disk in
    let read = made.ensures.read in
    opened-is (g.D.Device.opening c.in-Ok-into_journal.journal.device) read.batches made.disk.0.parts
    (c.in-Ok-into_journal.ensures.found read.batches read.found) read.files
    ∙ ap Some (sym c.target_of.ensures.disk)

pub returns-clause-read : goal.returns-clause-read
returns-clause-read g c =
    let all = c.in-Ok-into_journal.ensures.all in
    record {
      read = all.read;
      same = all.same ∙ (c.in-Ok-read_disk.ensures.known ∙ c.in-Ok.ensures.known);
      all = all.all;
      is = all.is;
    }

pub returns-clause-batches : goal.returns-clause-batches
returns-clause-batches g c =
    let read = c.in-Ok-read_disk.ensures.read in
    batch_count-is (g.D.Device.opening c.in-Ok-into_journal.journal.device) read.batches
    c.in-Ok-read_disk.disk.1 (c.in-Ok-into_journal.ensures.found read.batches read.found) read.number
