use Rattle.std.proofs.Common.{◌≡◌, None, ap, refl, slice_index_or}
use Rattle.std.proofs.lemmas.List.{get_or_read_under}
use Rattle.sg_run.specs.FaultText.{fault_at, slot_text}
use Rattle.sg_run.proofs.FaultTextLemmas.{Prints-number, Prints-same}
use Rattle.sg_run.proofs.text.faults.put_faults.Goals as goal

pub loop-number-preserved : goal.loop-number-preserved
loop-number-preserved g c =
    let number = c.loop-number.number in
    let same : c.index-slots-number.result ≡ slice_index_or c.args.slots.now number None =
    get_or_read_under c.args.slots.now number _ _ None c.index-slots-number.is
    c.loop-number-test.true refl in
    Prints-number _ _ _ (fault_at c.args.profile c.args.slots.now) number c.loop-number.invariant
    (Prints-same (ap (slot_text c.args.profile number) same) c.put_slot.ensures)
