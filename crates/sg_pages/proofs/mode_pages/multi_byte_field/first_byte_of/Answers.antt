use Rattle.std.proofs.Common.{arith}
use Rattle.sg_pages.proofs.FieldLemmas.{at-most}
use Rattle.sg_pages.proofs.mode_pages.multi_byte_field.first_byte_of.Goals as goal

pub loop-field-init : goal.loop-field-init
loop-field-init c = record {
  bound = omega arith;
  rest = omega (arith, at-most c.args.fields.now c.args.byte);
}
