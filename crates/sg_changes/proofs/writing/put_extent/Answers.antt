use Rattle.sg_changes.specs.ExtentFormat.{extent}
use Rattle.sg_changes.specs.Format.{number}
use Rattle.sg_changes.proofs.WritingLemmas.{takes_pair}
use Rattle.sg_changes.proofs.writing.put_extent.Goals as goal

pub returns : goal.returns
unfolding extent
returns g c =
    let both = takes_pair g.S.Sink.contents g.S.Sink.room (number 8) (number 4) 8 4 c.args.sink.now
    c.put_u64.new.sink c.put_u32.new.sink c.args.extent.lba c.args.extent.count c.put_u64.ensures
    c.put_u32.ensures in
    record {
      added = both.added;
      room_left = both.room_left;
      at_most = both.at_most;
      possible =
          both.possible;
    }
