use Rattle.sg_wire.proofs.PrintingLemmas.{Prints-flat_map}
use Rattle.sg_decode.specs.Lines.{part_text, part_of}
use Rattle.sg_decode.proofs.LineLemmas.{sound_at, end_at, all_parts}
use Rattle.sg_decode.proofs.line.put_fields.Goals as goal

pub loop-field-preserved : goal.loop-field-preserved
loop-field-preserved g c =
    Prints-flat_map _ _ _ (λ f. part_text c.args.bytes.now (part_of f)) c.args.line.now
    c.loop-field.field-index _ c.loop-field-test.true c.loop-field.invariant c.put_field.ensures

pub put_field-requires : goal.put_field-requires
put_field-requires g c = record {
  sound =
      sound_at c.args.line.now c.loop-field.field-index _ c.loop-field-test.true c.requires.sound;
  present =
      end_at c.args.line.now c.loop-field.field-index _ _ c.loop-field-test.true c.requires.present;
}

pub returns : goal.returns
returns g c =
    all_parts _ _ c.args.bytes.now c.args.line.now c.loop-field.field-index c.loop-field-test.false
    c.loop-field.invariant
