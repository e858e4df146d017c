use Rattle.std.proofs.Common.{◌++◌, codes, decimal, ap, sym, ◌∙◌}
use Rattle.sg_wire.proofs.PrintingLemmas.{Prints-on}
use Rattle.sg_run.specs.FaultText.{blocks_text, healed_text}
use Rattle.sg_run.proofs.FaultTextLemmas.{Prints-same}
use Rattle.sg_run.proofs.text.faults.put_blocks.Goals as goal

pub returns-in-Some : goal.returns-in-Some
returns-in-Some g c =
    Prints-same
    (ap (λ n. codes " blocks " ++ (decimal c.in-Some.bad.extent.lba ++ (codes " " ++ (decimal n
    ++ healed_text c.in-Some.bad.healed_by_writes)))) c.from.ensures
    ∙ sym (ap blocks_text c.in-Some.is))
    (Prints-on c.put.ensures (Prints-on c.put_number.ensures
    (Prints-on c.put-in-Some.ensures
    (Prints-on c.put_number-in-Some.ensures c.put_healed.ensures))))
