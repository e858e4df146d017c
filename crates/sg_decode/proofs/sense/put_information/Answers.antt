use Rattle.sg_wire.proofs.PrintingLemmas.{Prints-nil, Prints-on}
use Rattle.sg_decode.specs.SenseText.{information_text}
use Rattle.sg_decode.proofs.sense.put_information.Goals as goal

pub returns-in-Some : goal.returns-in-Some
unfolding information_text
returns-in-Some g c =
    let digits = rw (c.sixteen_digits.ensures, c.to_be_bytes.ensures) at c.put-in-Some.ensures in
    rw c.in-Some.is (Prints-on c.put.ensures digits)

pub returns-in_default : goal.returns-in_default
unfolding information_text
returns-in_default g c = rw c.in_default.is (Prints-nil _)
