use Rattle.std.proofs.Common.{◌≡◌, ℕ, ◌+◌, ◌-◌, ◌≤◌, length}
use Rattle.std.specs.FinMap as map
use Rattle.sg_store.specs.Disk.{blocks}
use Rattle.sg_pool.specs.Slots.{followed}
use Rattle.sg_pool.specs.Source.{joined_blocks}
use Rattle.sg_block_map.specs.Runs.{expanded, chained_contents}
use Rattle.sg_block_map.specs.Walking.{ahead_of, AreAhead}
use Rattle.sg_block_map.proofs.compare.compare_runs.Given as goal

-- the blocks so far are those of the source, and the runs ahead have the others
abbrev pub invariant-loop-i : goal.invariant-loop-i
invariant-loop-i l =
    let slots = l.fn.pool in
    let more = ahead_of l.runs l.walk.run l.walk.at in
    record {
      ahead : AreAhead slots.next (length slots.next) (l.lba + l.i) more;
      same : blocks (chained_contents l.runs slots) l.lba l.i ≡ joined_blocks l.source l.i;
      later : (q : ℕ) → l.lba + l.i ≤ q → map.get (chained_contents more slots) q ≡
          map.get (chained_contents l.runs slots) q;
      pool : l.pool ≡ followed slots (l.pool.links - slots.links);
      rise : slots.links ≤ l.pool.links;
      links : l.pool.links + length (expanded slots.next more) ≤ slots.links + length
          (expanded slots.next l.runs);
    }
