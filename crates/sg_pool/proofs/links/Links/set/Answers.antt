use Rattle.std.proofs.Common.{◌<◌, length, length-set, ap, arith}
use Rattle.std.proofs.lemmas.List.{get_or_read_under}
use Rattle.sg_pool.proofs.JumpLemmas.{derived-linked}
use Rattle.sg_pool.proofs.LeapLemmas.{leaps-dropped}
use Rattle.sg_pool.proofs.links.Links.set.Goals as goal

pub invariant_of-self : goal.invariant_of-self
invariant_of-self c =
    let l = c.self.inside in
    let jumps = l.jumps in
    let leaps = l.leaps in
    let here = ap length c.self.view_is in
    let within = c.self.invariant.1.within c.args.slot (omega (arith, c.requires.slot, here)) in
    let low : c.args.slot < jumps.owner.len =
    omega (arith, c.requires.slot, here, c.self.invariant.1.owners, jumps.owner.ok.0) in
    let jumper = get_or_read_under jumps.owner.items c.args.slot jumps.owner.len c.index.result.now 0
    c.index.ensures low (omega (arith, jumps.owner.ok.0)) in
    let leaper = get_or_read_under leaps.owner.items c.index.result.now leaps.owner.len c.index-2.result.now 0
    c.index-2.ensures (omega (
      arith,
      jumper,
      within,
      c.self.invariant.1.targets,
      c.self.invariant.2.derived.owners,
      leaps.owner.ok.0,
    )) (omega (arith, leaps.owner.ok.0)) in
    rw (leaper, jumper) (
      omega (arith, length-set l.next.items c.args.slot c.args.to, c.self.invariant.0),
      derived-linked l.next.items jumps.owner.items jumps.count.items jumps.target.items c.args.slot c.args.to
          c.self.invariant.1,
      leaps-dropped jumps.count.items jumps.target.items leaps.owner.items leaps.count.items
          leaps.landing.items leaps.reach.items _ c.self.invariant.2,
    )
