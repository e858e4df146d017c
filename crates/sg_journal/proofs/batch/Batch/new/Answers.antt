use Rattle.std.proofs.Common.{◌≡◌, length, ◌∙◌, ap, arith}
use Rattle.sg_journal.specs.Layout.{is_sector_length}
use Rattle.sg_journal.proofs.Heads.{sector_within}
use Rattle.sg_journal.proofs.batch.Batch.new.Goals as goal

pub overflow_add-sector : goal.overflow_add-sector
overflow_add-sector c = omega (arith, sector_within c.args.sector c.requires.valid)

pub invariant_of-result : goal.invariant_of-result
invariant_of-result c =
    let within = sector_within c.args.sector c.requires.valid in
    let gate : length c.in_ok-vec.field-0.items ≡ c.args.sector =
    omega (arith, c.in_ok-vec.ensures.len, c.in_ok-vec.field-0.ok) in
    record {
      valid = ap is_sector_length gate ∙ c.requires.valid;
      least = omega arith;
      most = omega arith;
      room = omega (arith, c.in_ok-vec-2.ensures.len, c.in_ok-vec-2.field-0.ok);
      within = omega arith;
    }
