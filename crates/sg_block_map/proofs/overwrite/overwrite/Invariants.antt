use Rattle.std.proofs.Common.{◌≡◌, ◌+◌, ◌-◌, ◌≤◌, List, ◌∷◌, ◌++◌, length}
use Rattle.sg_pool.specs.Chains.{slot_after}
use Rattle.sg_store.specs.Disk.{replaced}
use Rattle.sg_pool.specs.MappedRecords.{IsConsistent}
use Rattle.sg_pool.specs.Source.{block_of}
use Rattle.sg_table.specs.declared.run.Run.{Run}
use Rattle.sg_block_map.specs.Runs.{expanded, chained_contents}
use Rattle.sg_block_map.proofs.overwrite.overwrite.Given as goal

-- the blocks so far are written, and the slot belongs to the next address
abbrev pub invariant-loop-i : goal.invariant-loop-i
invariant-loop-i l =
    let old = l.fn.pool in
    let passed = l.lba - l.fn.run.start + l.i in
    record {
      slot : l.slot ≡ slot_after old.next l.fn.run.first passed;
      pool : l.pool ≡ record old { blocks = l.pool.blocks; links = l.pool.links };
      links_rise : old.links ≤ l.pool.links;
      most_links : l.pool.links ≤ old.links + passed;
      contents : (before after : List Run)
          → IsConsistent (expanded old.next (before ++ l.fn.run ∷ after)) old.blocks old.free
          (length old.next)
          → chained_contents (before ++ l.fn.run ∷ after) l.pool ≡
          replaced (chained_contents (before ++ l.fn.run ∷ after) old) l.lba l.i (block_of l.source);
      length : length l.pool.blocks ≡ length old.blocks;
    }
