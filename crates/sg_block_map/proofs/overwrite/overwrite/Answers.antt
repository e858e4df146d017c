use Rattle.std.proofs.Common.{◌≡◌, ◌+◌, ◌-◌, List, ◌∷◌, ◌++◌, length, length-set, set, arith, ap}
use Rattle.std.proofs.Common.{ap₂, sym, ◌∙◌, add-zero}
use Rattle.std.specs.Prelude.{slice_index}
use Rattle.sg_pool.specs.Chains.{slot_after}
use Rattle.sg_store.specs.Disk.Mapping.{Data}
use Rattle.sg_pool.specs.MappedRecords.{contents_of}
use Rattle.sg_pool.specs.Slots.{Slots}
use Rattle.sg_pool.specs.Source.{block_of}
use Rattle.sg_table.specs.declared.run.Run.{Run}
use Rattle.sg_block_map.specs.Runs.{expanded, chained_contents}
use Rattle.sg_store.proofs.DiskLemmas.{remapped-none, remapped-more}
use Rattle.sg_pool.proofs.LinkLemmas.{slot_after-more}
use Rattle.sg_block_map.proofs.OverwriteLemmas.{over-contents}
use Rattle.sg_block_map.proofs.WriteLemmas.{consistent-other}
use Rattle.sg_pool.proofs.LinkLemmas.{below-front, slot-below}
use Rattle.sg_block_map.proofs.overwrite.overwrite.Goals as goal

pub follow-slot-requires-clause-below : goal.follow-slot-requires-clause-below
follow-slot-requires-clause-below c =
    let p = c.args.pool.now in
    let run = c.args.run in
    below-front (length p.next) p.next run.first (c.args.lba - run.start) run.count
    (omega (arith, c.requires.range.before_end, c.requires.range.after_start, c.requires.range.not_empty))
    c.requires.below

pub loop-i-init : goal.loop-i-init
loop-i-init c =
    let p = c.args.pool.now in
    let blocks = ap (λ (s : Slots). s.blocks) c.follow-slot.ensures.pool.pool in
    record {
      slot = rw add-zero c.follow-slot.ensures.value;
      pool = c.follow-slot.ensures.pool.pool
          ∙ ap₂ (λ bs n. record p { blocks = bs; links = n }) (sym blocks)
          (sym (ap (λ (s : Slots). s.links) c.follow-slot.ensures.pool.pool));
      links_rise = c.follow-slot.ensures.pool.follows.links_rise;
      most_links = omega (arith, c.follow-slot.ensures.pool.follows.most_links);
      contents = λ before after consistent.
          let rs : List Run = before ++ c.args.run ∷ after in
          ap (λ (s : Slots). chained_contents rs s) c.follow-slot.ensures.pool.pool
          ∙ sym (remapped-none (chained_contents rs p) c.args.lba
          (λ index. Data (block_of c.args.source.now index)));
      length = ap length blocks;
    }

pub set-requires-clause-slot : goal.set-requires-clause-slot
set-requires-clause-slot c =
    let inv = c.loop-i.invariant in
    let p = c.args.pool.now in
    let run = c.args.run in
    let low = slot-below (length p.next) p.next run.first (c.args.lba - run.start + c.loop-i.i)
    run.count (omega (
      arith,
      c.requires.range.after_start,
      c.requires.range.before_end,
      c.loop-i-test.true,
    )) c.requires.below in
    omega (arith, low, inv.slot, inv.length, c.requires.slots)

pub next-slot-requires-clause-slot : goal.next-slot-requires-clause-slot
next-slot-requires-clause-slot c =
    let inv = c.loop-i.invariant in
    let p = c.args.pool.now in
    let run = c.args.run in
    let next = ap (λ (s : Slots). length s.next) c.set.ensures
    ∙ ap (λ (s : Slots). length s.next) inv.pool in
    let low = slot-below (length p.next) p.next run.first (c.args.lba - run.start + c.loop-i.i)
    run.count (omega (
      arith,
      c.requires.range.after_start,
      c.requires.range.before_end,
      c.loop-i-test.true,
    )) c.requires.below in
    omega (arith, low, inv.slot, next)

pub loop-i-preserved : goal.loop-i-preserved
loop-i-preserved c =
    let inv = c.loop-i.invariant in
    let p = c.args.pool.now in
    let now = c.loop-i.pool in
    let run = c.args.run in
    let lba = c.args.lba in
    let i = c.loop-i.i in
    let k = lba - run.start + i in
    let b = c.block.result.now in
    let on : k + 1 ≡ lba - run.start + (i + 1) = omega arith in
    let here : run.start + k ≡ lba + i = omega (arith, c.requires.range.after_start) in
    let next : c.set.new.self.next ≡ p.next = ap (λ (s : Slots). s.next) c.set.ensures
    ∙ ap (λ (s : Slots). s.next) inv.pool in
    let blocks : c.next-slot.new.self.blocks ≡ set now.blocks (slot_after p.next run.first k) b =
    ap (λ (s : Slots). s.blocks) c.next-slot.ensures.pool
    ∙ ap (λ (s : Slots). s.blocks) c.set.ensures ∙ ap (λ s. set now.blocks s b) inv.slot in
    let now_next : p.next ≡ now.next = sym (ap (λ (s : Slots). s.next) inv.pool) in
    let after_next : c.next-slot.new.self.next ≡ p.next =
    ap (λ (s : Slots). s.next) c.next-slot.ensures.pool ∙ next in
    let written = c.next-slot.new.self.blocks in
    let links : c.next-slot.new.self.links ≡ now.links + 1 =
    ap (λ (s : Slots). s.links) c.next-slot.ensures.pool
    ∙ ap (λ (s : Slots). s.links + 1) c.set.ensures in
    record {
      slot = rw (sym on) (c.next-slot.ensures.value ∙ ap₂ slice_index next inv.slot
          ∙ sym (slot_after-more p.next run.first k));
      pool = c.next-slot.ensures.pool
          ∙ ap (λ (s : Slots). record s { links = s.links + 1 }) c.set.ensures
          ∙ ap₂ (λ (s : Slots) bs. record s { blocks = bs; links = s.links + 1 }) inv.pool
          (ap (λ s. set now.blocks s b) inv.slot ∙ sym blocks)
          ∙ ap (λ n. record p { blocks = written; links = n }) (sym links);
      links_rise = omega (arith, links, inv.links_rise);
      most_links = omega (arith, links, inv.most_links);
      contents = λ before after consistent.
          let rs : List Run = before ++ run ∷ after in
          let xs : List Run = expanded p.next rs in
          let was = ap (λ ns. contents_of (expanded ns rs) now.blocks) now_next
          ∙ inv.contents before after consistent in
          ap₂ (λ ns bs. contents_of (expanded ns rs) bs) after_next blocks
          ∙ over-contents p.next before run after k
          (omega (
            arith,
            c.requires.range.after_start,
            c.requires.range.before_end,
            c.loop-i-test.true,
          )) c.requires.range.is_data now.blocks p.free (length p.next)
          b (consistent-other xs p.blocks now.blocks p.free (length p.next) inv.length consistent)
          ∙ rw (was, here, c.block.ensures)
          (sym (remapped-more (chained_contents rs p) lba i
          (λ index. Data (block_of c.args.source.now index))));
      length = ap length blocks ∙ length-set now.blocks (slot_after p.next run.first k) b
          ∙ inv.length;
    }
