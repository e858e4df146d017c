use Rattle.std.proofs.Common.{◌≡◌, map, take, List}
use Rattle.sg_target.specs.Charge.{cost_bounds}
use Rattle.sg_target.specs.Runs.{Exchanged, after_events, armed_disk}
use Rattle.sg_target.specs.Target.{disk_of}
use Rattle.sg_target.specs.declared.event.Event.{Event}
use Rattle.sg_target.proofs.target.Target.run_list.Given as goal

-- the sink took the replies so far, and the disk is the one after those events
abbrev pub invariant-loop-item : goal.invariant-loop-item
invariant-loop-item g l =
    let before : List Event = map g.E.ToEvent.event (take l.item-index l.list) in
    record {
      took : Exchanged (cost_bounds g.S.Store.price g.S.Store.least) (disk_of l.fn.self) before
          (g.K.Sink.fields l.fn.sink).taken (g.K.Sink.fields l.sink).taken l.fn.self.meter
          l.self.meter;
      after : disk_of l.self ≡ after_events armed_disk (disk_of l.fn.self) before;
      sound : (g.K.Sink.fields l.sink).refused ≡ (g.K.Sink.fields l.fn.sink).refused;
    }
