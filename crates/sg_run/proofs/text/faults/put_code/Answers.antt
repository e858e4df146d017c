use Rattle.std.proofs.Common.{◌++◌, codes, ap, sym, ◌∙◌}
use Rattle.sg_wire.proofs.PrintingLemmas.{Prints-on}
use Rattle.sg_run.specs.FaultText.{code_text}
use Rattle.sg_run.proofs.FaultTextLemmas.{Prints-same}
use Rattle.sg_run.proofs.text.faults.put_code.Goals as goal

pub returns-in-Some : goal.returns-in-Some
returns-in-Some g c =
    Prints-same
    (ap (λ t. codes " code " ++ (t ++ codes "h")) c.two_digits.ensures
    ∙ sym (ap code_text c.in-Some.is))
    (Prints-on c.put.ensures (Prints-on c.put-in-Some.ensures c.put-in-Some-2.ensures))
