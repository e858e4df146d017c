use Rattle.std.proofs.Common.{◌≡◌, ℕ, [], length, refl, sym, ◌∙◌, ap, subst, arith}
use Rattle.sg_journal.specs.Reads.{IsFirstRead, TookFirst}
use Rattle.sg_journal.proofs.Heads.{new_sector, sector_within}
use Rattle.sg_journal.proofs.reader.Reader.open.Goals as goal

pub returns-in-Ok-None-clause-found : goal.returns-in-Ok-None-clause-found
returns-in-Ok-None-clause-found g c =
    let taken = g.F.Source.taken in
    let left = g.F.Source.left in
    let old = c.args.source in
    let new = c.read_first_sector.new.source in
    let none = subst (IsFirstRead taken left old new) c.in-Ok-None.field-0-is
    c.in-Ok-None.ensures.read in
    let nothing : taken new ≡ [] = ap taken none.0 ∙ c.requires.fresh in
    let all : left new ≡ 0 = ap left none.0 ∙ none.1 in
    record {
      valid = new_sector;
      total = omega (arith, ap length nothing, all, none.1, c.left-length.ensures);
      fits = omega arith;
      place = record { all = all; unmade = record { is = nothing; nothing = refl; place = refl } };
    }

pub returns-in-Ok-Some-clause-found : goal.returns-in-Ok-Some-clause-found
returns-in-Ok-Some-clause-found g c =
    let taken = g.F.Source.taken in
    let left = g.F.Source.left in
    let old = c.args.source in
    let new = c.read_first_sector.new.source in
    let sector : ℕ = c.in-Ok-Some.sector in
    let first : TookFirst taken left old new sector =
    subst (IsFirstRead taken left old new) c.in-Ok-Some.field-0-is c.in-Ok-Some.ensures.read in
    record {
      valid = first.valid;
      total = omega (arith, first.size, first.rest, c.left-length.ensures);
      fits = omega arith;
      place = record { whole = first.whole; place = sym first.size };
    }

pub returns-in-Ok-Some-clause-new : goal.returns-in-Ok-Some-clause-new
returns-in-Ok-Some-clause-new g c empty =
    let first : TookFirst g.F.Source.taken g.F.Source.left c.args.source
    c.read_first_sector.new.source c.in-Ok-Some.sector =
    subst (IsFirstRead g.F.Source.taken g.F.Source.left c.args.source
    c.read_first_sector.new.source)
    c.in-Ok-Some.field-0-is c.in-Ok-Some.ensures.read in
    let within = sector_within c.in-Ok-Some.sector first.valid in
    absurd (omega (arith, first.rest, empty))
