use Rattle.std.proofs.Common.{sym, ◌∙◌}
use Rattle.sg_wire.proofs.ClassLemmas.{class-of_command}
use Rattle.sg_wire.proofs.ProfileLemmas.{blocked-alike, read-alike, row-alike}
use Rattle.sg_wire.proofs.UsageLemmas.{bits-added}
use Rattle.sg_wire.proofs.laws.profiles_only_add.Goals as goal

pub returns : goal.returns
returns c = record {
  command = read-alike;
  class = λ one other cdb command e has.
      class-of_command other cdb command (read-alike one cdb command e other has)
      ∙ sym (class-of_command one cdb command e);
  row = λ one other cdb command e has. row-alike one other cdb command e has;
  attention = λ one other cdb command e has. blocked-alike one cdb command e other has;
  bits = bits-added;
}
