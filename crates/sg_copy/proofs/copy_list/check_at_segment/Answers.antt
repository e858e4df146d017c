use Rattle.std.proofs.Common.{◌++◌}
use Rattle.sg_copy.specs.CopyList.{cscd_id_checks, destination_id, range_checks, segment_of, source_id}
use Rattle.sg_copy.proofs.CheckLemmas.{second_refuses}
use Rattle.sg_copy.proofs.copy_list.check_at_segment.Goals as goal

pub returns-clause-refused : goal.returns-clause-refused
returns-clause-refused c =
    let unit = c.args.designation.now in
    let list = c.args.list.now in
    second_refuses
    (cscd_id_checks unit list (source_id list) ++ cscd_id_checks unit list (destination_id list))
    (range_checks c.args.capacity (segment_of list)) c.check_ranges.result
    c.in_ok-check_cscd_ids.ensures.passed c.check_ranges.ensures.refused
