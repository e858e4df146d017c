use Rattle.sg_target.proofs.LimitLemmas.{armed-within, happening-within, step-within}
use Rattle.sg_target.proofs.laws.limits_are_kept.Goals as goal

pub returns : goal.returns
returns c =
    let reservations = c.reservations_stay_consistent.ensures in
    let queues = c.queues_keep_their_limits.ensures in
    let disks = c.disks_stay_well_formed.ensures in
    let law = c.remapping_takes_what_is_needed.ensures in
    let addresses = c.an_unmap_deallocates_the_addresses_of_its_range.ensures in
    let zeros = c.an_unmap_zeroes_the_blocks_of_its_range.ensures in
    record {
      command = step-within reservations queues disks law addresses zeros;
      armed = armed-within reservations queues disks law addresses zeros;
      happening = happening-within reservations queues disks law addresses zeros;
    }
