use Rattle.std.proofs.Common.{◌≡◌, true, rules, subst}
use Rattle.sg_changes.specs.FirstRecord.{NewDiskFields, disk_fields, identity, is_new_disk, new_disk}
use Rattle.sg_changes.specs.Format.{number, only, pair}
use Rattle.sg_changes.specs.Writing.{Takes}
use Rattle.sg_changes.proofs.WritingLemmas.{takes_only, takes_pair}
use Rattle.sg_changes.proofs.first_record.NewDisk.put_fields.Goals as goal

pub returns : goal.returns
unfolding new_disk
returns g c =
    let d = c.self.inside in
    let disk : NewDiskFields = record { capacity = d.capacity; pool = d.pool; identity = d.identity } in
    let valid : is_new_disk disk ≡ true = search rules in
    let last = takes_pair g.S.Sink.contents g.S.Sink.room (number 4) identity 4 46 c.put_u64.new.sink
    c.put_u32.new.sink c.put_identity.new.sink d.pool d.identity c.put_u32.ensures c.put_identity.ensures in
    let all = takes_pair g.S.Sink.contents g.S.Sink.room (number 8) (pair (number 4) identity) 8 50
    c.args.sink.now c.put_u64.new.sink c.put_identity.new.sink d.capacity (d.pool, d.identity)
    c.put_u64.ensures last in
    let fields : Takes g.S.Sink.contents g.S.Sink.room disk_fields 58 c.args.sink.now
    c.put_identity.new.sink disk =
    record { added = all.added; room_left = all.room_left; at_most = all.at_most; possible = all.possible } in
    let whole = takes_only g.S.Sink.contents g.S.Sink.room is_new_disk disk_fields 58 c.args.sink.now
    c.put_identity.new.sink disk valid fields in
    subst
    (λ (x : NewDiskFields).
    Takes g.S.Sink.contents g.S.Sink.room (only is_new_disk disk_fields) 58 c.args.sink.now
    c.put_identity.new.sink x)
    c.self.view_is whole
