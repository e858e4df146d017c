use Rattle.std.proofs.Common.{Some, ap, sym, ◌∙◌}
use Rattle.std.specs.Prelude.{option_map}
use Rattle.sg_store.specs.Disk.{data_in, zero_block}
use Rattle.sg_pool.specs.MappedRecords.{mapping_in}
use Rattle.sg_table.specs.declared.run.Run.{Run}
use Rattle.sg_pool.proofs.kind.found_block.Goals as goal

pub returns-in_default-clause-block : goal.returns-in_default-clause-block
unfolding zero_block
returns-in_default-clause-block c =
    sym (ap (λ o. data_in (option_map (λ (run : Run). mapping_in c.args.blocks.now run.first run.kind) o))
    c.in_default.is)

-- whatever the slot holds, zeros are found
pub returns-in-Anchored-clause-block : goal.returns-in-Anchored-clause-block
unfolding zero_block
returns-in-Anchored-clause-block c =
    let blocks = c.args.blocks.now in
    sym (ap (λ o. data_in (option_map (λ (run : Run). mapping_in blocks run.first run.kind) o)) c.in-Some.is
    ∙ ap (λ kind. data_in (Some (mapping_in blocks c.in-Some.run'.first kind))) c.in-Anchored.is)
