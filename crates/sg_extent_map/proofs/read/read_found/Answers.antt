use Rattle.std.proofs.Common.{ap, sym, ◌∙◌}
use Rattle.sg_store.specs.Disk.{data_in}
use Rattle.std.specs.Prelude.{option_map}
use Rattle.sg_store.proofs.DiskLemmas.{zeros}
use Rattle.sg_pool.specs.MappedRecords.{mapping_in}
use Rattle.sg_table.specs.declared.run.Run.{Run}
use Rattle.sg_extent_map.proofs.read.read_found.Goals as goal

pub returns-in-None : goal.returns-in-None
returns-in-None c =
    zeros _ _ c.requires.byte_count (c.fill.ensures.after (λ y e. e))
    ∙ sym (ap (λ o. data_in (option_map (λ (run : Run). mapping_in c.args.pool.now.blocks run.first
    run.kind) o)) c.in-None.is)
