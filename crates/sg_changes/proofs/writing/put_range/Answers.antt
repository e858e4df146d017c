use Rattle.sg_changes.specs.Format.{number}
use Rattle.sg_changes.specs.Records.{range}
use Rattle.sg_changes.proofs.WritingLemmas.{takes_pair}
use Rattle.sg_changes.proofs.writing.put_range.Goals as goal

pub returns : goal.returns
unfolding range
returns g c =
    takes_pair g.S.Sink.contents g.S.Sink.room (number 8) (number 8) 8 8 c.args.sink.now c.put_u64.new.sink
    c.put_u64-2.new.sink c.args.lba c.args.count c.put_u64.ensures c.put_u64-2.ensures
