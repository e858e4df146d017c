use Rattle.std.proofs.Common.{Ok, subst}
use Rattle.sg_embed.specs.FileDisk.{FileDiskFields, HandsOutNext}
use Rattle.sg_embed.proofs.CompactingLemmas.{same-between, same-calls}
use Rattle.sg_embed.proofs.FileDiskLemmas.{hands-out, in-file}
use Rattle.sg_embed.proofs.file_disk.FileDisk.next_call.Goals as goal

pub go_on-requires-clause-between : goal.go_on-requires-clause-between
go_on-requires-clause-between c =
    let was = c.self.inside in
    same-between was.disk c.next_call.new.self was.next
    (same-calls was.disk.journal.device.file c.next_call.new.self c.args.bytes.now c.next_call.new.into
    c.next_call.result c.next_call.ensures) c.self.invariant.0

pub returns : goal.returns
returns c =
    let was = c.self.inside in
    let new = c.go_on.new in
    subst (λ (old : FileDiskFields). HandsOutNext c.args.bytes.now c.next_call.new.into old
    (in-file new.disk was.device new.next) (Ok c.in_ok-call.call)) c.self.view_is
    (hands-out was.disk new.disk c.next_call.new.self was.next new.next was.device c.args.bytes.now
    c.next_call.new.into c.in_ok-call.call c.if-self.false c.self.invariant.1 c.in_ok-call.ensures
    c.go_on.ensures.goes_on)
