use Rattle.std.proofs.Common.{◌≡◌, ℕ, ◌-◌, List, ◌∷◌, ◌++◌, drop, ap, ap₂, sym, subst, ◌∙◌}
use Rattle.std.proofs.Common.{arith, Some, Option}
use Rattle.sg_table.specs.Records.{single}
use Rattle.sg_pool.specs.Content.{mapping_for}
use Rattle.sg_pool.specs.MappedRecords.{filled_slot}
use Rattle.sg_pool.specs.Slots.{Slots}
use Rattle.sg_table.specs.Occurrences.{occurrences}
use Rattle.sg_table.specs.declared.run.Run.{Run}
use Rattle.sg_block_map.specs.Joining.{joined, linked, KeepSlots}
use Rattle.sg_block_map.specs.Runs.{chained_contents}
use Rattle.sg_block_map.specs.Walking.{ahead_of}
use Rattle.sg_table.proofs.OccurrenceLemmas.{occurrences-more}
use Rattle.sg_block_map.proofs.WalkLemmas.{there}
use Rattle.sg_block_map.proofs.WriteLemmas.{new-writing, new-contents, new-keeps, walked-writing}
use Rattle.sg_block_map.proofs.WriteLemmas.{walked-contents, walked-keeps, done-last, slot-taken}
use Rattle.sg_block_map.proofs.WriteLemmas.{slot-there, skip-maximal, put-length, put-others, put-seen}
use Rattle.sg_block_map.proofs.write.put_address.Goals as goal

-- the address is not mapped
pub fill-requires-clause-slot : goal.fill-requires-clause-slot
fill-requires-clause-slot c =
    let w = c.requires.writing in
    let p = c.args.pool.now in
    rw (ap (λ (s : Slots). s.blocks) c.take-slot.ensures.pool)
    (slot-taken w.0 c.args.progress.done
    (ahead_of c.args.runs.now c.args.progress.walk.run c.args.progress.walk.at ++ w.1) p
    c.args.lba c.take-slot.result c.take-slot.new.self.free w.2 c.take-slot.ensures.free)

pub join-done-requires-clause-slot : goal.join-done-requires-clause-slot
join-done-requires-clause-slot c =
    let w = c.requires.writing in
    let p = c.args.pool.now in
    let next : c.fill.new.self.next ≡ p.next = ap (λ (s : Slots). s.next) c.fill.ensures
    ∙ ap (λ (s : Slots). s.next) c.take-slot.ensures.pool in
    λ pos. rw next ((done-last w.0 c.args.progress.done
    (ahead_of c.args.runs.now c.args.progress.walk.run c.args.progress.walk.at ++ w.1) p
    c.args.lba w.2 pos).0)

pub join-done-requires-clause-used : goal.join-done-requires-clause-used
join-done-requires-clause-used c =
    let w = c.requires.writing in
    let p = c.args.pool.now in
    let done = c.args.progress.done in
    let free : c.fill.new.self.free ≡ c.take-slot.new.self.free =
    ap (λ (s : Slots). s.free) c.fill.ensures in
    λ pos.
    let none = (done-last w.0 done
    (ahead_of c.args.runs.now c.args.progress.walk.run c.args.progress.walk.at ++ w.1) p
    c.args.lba w.2 pos).1 in
    let e = ap (occurrences done.last) c.take-slot.ensures.free
    ∙ occurrences-more done.last c.take-slot.result c.take-slot.new.self.free in
    rw free (omega arith)

pub join-done-requires-clause-other : goal.join-done-requires-clause-other
join-done-requires-clause-other c =
    let w = c.requires.writing in
    let p = c.args.pool.now in
    let next : c.fill.new.self.next ≡ p.next = ap (λ (s : Slots). s.next) c.fill.ensures
    ∙ ap (λ (s : Slots). s.next) c.take-slot.ensures.pool in
    let low = slot-taken w.0 c.args.progress.done
    (ahead_of c.args.runs.now c.args.progress.walk.run c.args.progress.walk.at ++ w.1) p
    c.args.lba c.take-slot.result c.take-slot.new.self.free w.2 c.take-slot.ensures.free in
    rw (next, ap (λ (r : Run). r.first) c.single.ensures) (omega (arith, low, w.2.consistent.pool))

pub returns-in_default-clause-puts : goal.returns-in_default-clause-puts
returns-in_default-clause-puts c =
    let p = c.args.pool.now in
    let done = c.args.progress.done in
    let w = c.args.progress.walk in
    let lba = c.args.lba in
    let slot = c.take-slot.result in
    let run_is : c.join-done.result ≡ joined done (single lba slot done.kind) = c.join-done.ensures.run
    ∙ ap (joined done) c.single.ensures in
    let set_is : c.fill.new.self ≡ record p {
      blocks = filled_slot p.blocks slot (mapping_for c.args.content.now c.args.index);
      free =
          c.take-slot.new.self.free;
    } = c.fill.ensures
    ∙ ap (λ (s : Slots). record s {
      blocks = filled_slot s.blocks slot (mapping_for c.args.content.now c.args.index);
    })
    c.take-slot.ensures.pool in
    let pool_is : c.join-done.new.pool ≡ record p {
      blocks = filled_slot p.blocks slot (mapping_for c.args.content.now c.args.index);
      free = c.take-slot.new.self.free;
      next = linked p.next done slot;
    }
    = c.join-done.ensures.pool
    ∙ ap₂ (λ (s : Slots) (o : Run). record s { next = linked s.next done o.first }) set_is
    c.single.ensures in
    λ before after h k.
    let rest : List Run = ahead_of c.args.runs.now w.run w.at ++ after in
    let skipped = skip-maximal c.args.runs.now after w.run w.at lba h.after k
    (sym c.run_at.ensures ∙ c.in_default.is) in
    let content = c.args.content.now in
    let index = c.args.index in
    let bs = filled_slot p.blocks slot (mapping_for content index) in
    let len = put-length content index slot p.blocks in
    let same = put-others content index slot p.blocks in
    let seen = put-seen content index slot p.blocks done.kind c.requires.kind
    (slot-taken before done rest p lba slot c.take-slot.new.self.free h c.take-slot.ensures.free) in
    record {
      writing = rw (run_is, pool_is) (new-writing before done rest p lba slot
          c.take-slot.new.self.free bs (mapping_for content index) h c.take-slot.ensures.free len
          same seen skipped);
      contents = ap₂ (λ (r : Run) (s : Slots). chained_contents (before ++ r ∷ rest) s) run_is
          pool_is
          ∙ new-contents before done rest p lba slot c.take-slot.new.self.free bs
          (mapping_for content index) h
          c.take-slot.ensures.free len same seen skipped;
      keeps = subst (λ (r : Run). KeepSlots p.next (before ++ done ∷ rest)
          c.join-done.new.pool.next (before ++ r ∷ rest)) (sym run_is)
          (subst (λ (s : Slots). KeepSlots p.next (before ++ done ∷ rest) s.next
          (before ++ joined done (single lba slot done.kind) ∷ rest)) (sym pool_is)
          (new-keeps before done rest p lba slot c.take-slot.new.self.free bs (mapping_for content index) h
          c.take-slot.ensures.free len same seen skipped));
    }

-- the address is mapped
here : (runs after : List Run) (run : Option Run) (found : Run) (at : ℕ) → run ≡ Some found
    → ahead_of runs run at ++ after ≡ found ∷ (drop at runs ++ after)
here runs after run found at e = ap (λ o. ahead_of runs o at ++ after) e

pub fill-requires-2-clause-slot : goal.fill-requires-2-clause-slot
fill-requires-2-clause-slot c =
    let x = c.requires.writing in
    let p = c.args.pool.now in
    let w = c.args.progress.walk in
    let found = c.in-Some.run' in
    let t = there w.run c.args.lba found (sym c.run_at.ensures ∙ c.in-Some.is) in
    let blocks = ap (λ (s : Slots). s.blocks) c.pass-walk.ensures.links.pool in
    rw blocks (slot-there x.0 c.args.progress.done found
    (drop w.at c.args.runs.now ++ x.1) p c.args.lba
    (rw (here c.args.runs.now x.1 w.run found w.at t.0) at x.2))

pub pass-walk-requires-clause-slot : goal.pass-walk-requires-clause-slot
pass-walk-requires-clause-slot c =
    let x = c.requires.writing in
    let p = c.args.pool.now in
    let w = c.args.progress.walk in
    let found = c.in-Some.run' in
    let t = there w.run c.args.lba found (sym c.run_at.ensures ∙ c.in-Some.is) in
    rw (sym x.2.consistent.pool) (slot-there x.0 c.args.progress.done found
    (drop w.at c.args.runs.now ++ x.1) p c.args.lba
    (rw (here c.args.runs.now x.1 w.run found w.at t.0) at x.2))

pub join-done-requires-2-clause-slot : goal.join-done-requires-2-clause-slot
join-done-requires-2-clause-slot c =
    let x = c.requires.writing in
    let p = c.args.pool.now in
    let w = c.args.progress.walk in
    let next : c.fill-2.new.self.next ≡ p.next = ap (λ (s : Slots). s.next) c.fill-2.ensures
    ∙ ap (λ (s : Slots). s.next) c.pass-walk.ensures.links.pool in
    λ pos. rw next ((done-last x.0 c.args.progress.done
    (ahead_of c.args.runs.now w.run w.at ++ x.1) p c.args.lba x.2 pos).0)

pub join-done-requires-2-clause-other : goal.join-done-requires-2-clause-other
join-done-requires-2-clause-other c =
    let x = c.requires.writing in
    let p = c.args.pool.now in
    let w = c.args.progress.walk in
    let found = c.in-Some.run' in
    let t = there w.run c.args.lba found (sym c.run_at.ensures ∙ c.in-Some.is) in
    let next : c.fill-2.new.self.next ≡ p.next = ap (λ (s : Slots). s.next) c.fill-2.ensures
    ∙ ap (λ (s : Slots). s.next) c.pass-walk.ensures.links.pool in
    let low = slot-there x.0 c.args.progress.done found (drop w.at c.args.runs.now ++ x.1) p
    c.args.lba (rw (here c.args.runs.now x.1 w.run found w.at t.0) at x.2) in
    rw (next, ap (λ (r : Run). r.first) c.single-2.ensures) (omega (arith, low, x.2.consistent.pool))

pub join-done-requires-2-clause-used : goal.join-done-requires-2-clause-used
join-done-requires-2-clause-used c =
    let x = c.requires.writing in
    let p = c.args.pool.now in
    let w = c.args.progress.walk in
    let free : c.fill-2.new.self.free ≡ p.free = ap (λ (s : Slots). s.free) c.fill-2.ensures
    ∙ ap (λ (s : Slots). s.free) c.pass-walk.ensures.links.pool in
    λ pos. rw free ((done-last x.0 c.args.progress.done
    (ahead_of c.args.runs.now w.run w.at ++ x.1) p c.args.lba x.2 pos).1)

pub returns-clause-puts : goal.returns-clause-puts
returns-clause-puts c =
    let p = c.args.pool.now in
    let done = c.args.progress.done in
    let w = c.args.progress.walk in
    let lba = c.args.lba in
    let runs = c.args.runs.now in
    let found = c.in-Some.run' in
    let now = c.pass-walk.new.pool in
    let more : List Run = ahead_of runs c.pass-walk.result.run c.pass-walk.result.at in
    let is = sym c.run_at.ensures ∙ c.in-Some.is in
    let run_is : c.join-done-2.result ≡ joined done (single lba found.first done.kind) =
    c.join-done-2.ensures.run ∙ ap (joined done) c.single-2.ensures in
    let pool_is : c.join-done-2.new.pool ≡ record now {
      blocks =
          filled_slot now.blocks found.first (mapping_for c.args.content.now c.args.index);
      next = linked now.next done found.first;
    }
    = c.join-done-2.ensures.pool
    ∙ ap₂ (λ (s : Slots) (o : Run). record s { next = linked s.next done o.first })
    c.fill-2.ensures c.single-2.ensures in
    λ before after h k.
    let rest : List Run = ahead_of runs w.run w.at ++ after in
    let content = c.args.content.now in
    let index = c.args.index in
    let bs = filled_slot now.blocks found.first (mapping_for content index) in
    let len = put-length content index found.first now.blocks in
    let same = put-others content index found.first now.blocks in
    let t = there w.run lba found is in
    let low = slot-there before done found (drop w.at runs ++ after) p lba
    (rw (here runs after w.run found w.at t.0) at h) in
    let blocks = ap (λ (s : Slots). s.blocks) c.pass-walk.ensures.links.pool in
    let seen = put-seen content index found.first now.blocks done.kind c.requires.kind (rw blocks low) in
    record {
      writing = rw (run_is, pool_is)
          (walked-writing before after runs more done found w.run w.at p now lba
          (now.links - p.links) bs (mapping_for content index) h is c.pass-walk.ensures.links.pool
          c.pass-walk.ensures.ahead len same seen);
      contents = ap₂ (λ (r : Run) (s : Slots). chained_contents
          (before ++ r ∷ (more ++ after)) s) run_is pool_is
          ∙ walked-contents before after runs more done found w.run w.at p now lba
          (now.links - p.links) bs (mapping_for content index) h is c.pass-walk.ensures.links.pool
          c.pass-walk.ensures.ahead len same seen;
      keeps = subst (λ (r : Run). KeepSlots p.next (before ++ done ∷ rest)
          c.join-done-2.new.pool.next (before ++ r ∷ (more ++ after))) (sym run_is)
          (subst (λ (s : Slots). KeepSlots p.next (before ++ done ∷ rest) s.next
          (before ++ joined done (single lba found.first done.kind) ∷ (more ++ after))) (sym pool_is)
          (walked-keeps before after runs more done found w.run w.at p now lba
          (now.links - p.links) bs (mapping_for content index) h is c.pass-walk.ensures.links.pool
          c.pass-walk.ensures.ahead len same seen));
    }
