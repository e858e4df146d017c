use Rattle.sg_extent_map.proofs.extent_map.ExtentMapStore.grow.Goals as goal

pub invariant_of-self : goal.invariant_of-self
invariant_of-self c =
    let s = c.args.self.now in
    record {
      capacity_fits = c.requires.fits;
      pool_fits = s.pool_fits;
      gathered_empty = s.gathered_empty;
      draft_empty = s.draft_empty;
      well_formed =
          c.disks_stay_well_formed.ensures.growing s.capacity c.args.capacity _ s.well_formed
          c.requires.more;
      extents = s.extents;
    }
