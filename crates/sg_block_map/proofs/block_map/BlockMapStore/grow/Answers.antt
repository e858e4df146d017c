use Rattle.sg_block_map.proofs.block_map.BlockMapStore.grow.Goals as goal

pub invariant_of-self : goal.invariant_of-self
invariant_of-self c =
    let s = c.args.self.now in
    record {
      capacity_fits = c.requires.fits;
      pool_fits = s.pool_fits;
      gathered_empty = s.gathered_empty;
      well_formed =
          c.disks_stay_well_formed.ensures.growing s.capacity c.args.capacity _ s.well_formed
          c.requires.more;
      runs = s.runs;
    }
