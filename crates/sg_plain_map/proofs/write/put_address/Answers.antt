use Rattle.std.proofs.Common.{◌+◌, length, ap, sym, ◌∙◌, arith, refl}
use Rattle.sg_table.specs.Records.{ahead}
use Rattle.std.proofs.lemmas.List.{length_push}
use Rattle.sg_table.specs.Draft.{Drafted, pushed}
use Rattle.sg_table.specs.Records.{single, with_kind}
use Rattle.sg_pool.specs.Slots.{Slots}
use Rattle.sg_table.specs.Table.{visited}
use Rattle.sg_pool.specs.Content.{kind_for, mapping_for}
use Rattle.sg_table.specs.declared.run.Run.{Run}
use Rattle.sg_pool.proofs.ConsistencyLemmas.{taken_below}
use Rattle.sg_table.proofs.TableLemmas.{visited-more}
use Rattle.sg_plain_map.proofs.CursorLemmas.{ahead-found}
use Rattle.sg_plain_map.proofs.EditingLemmas.{IsPut, added, kind-of, mapped-there, over, slot-there}
use Rattle.sg_plain_map.proofs.EditingLemmas.{unmapped-there}
use Rattle.sg_plain_map.proofs.write.put_address.Goals as goal

-- the address is not mapped
pub take-slot-requires : goal.take-slot-requires
take-slot-requires c =
    omega (
      arith,
      c.requires.room.free,
      unmapped-there c.requires.editing (sym c.run_at.ensures
          ∙ c.in_default.is),
    )

pub fill-requires-clause-slot : goal.fill-requires-clause-slot
fill-requires-clause-slot c =
    let consistent = rw c.take-slot.ensures.free at c.requires.editing.consistent in
    rw (ap (λ (s : Slots). s.blocks) c.take-slot.ensures.pool)
    (taken_below _ _ c.take-slot.new.self.free c.take-slot.result consistent.once)

added-here : (c : goal.After-push) → IsPut c.args.table.now.records c.args.table.now.room
    c.args.pool.now c.fill.new.self c.args.draft.now c.push.new.self c.args.cursor c.args.cursor
    c.args.place.lba (mapping_for c.args.content.now c.args.place.index) (kind_for c.args.content.now)
added-here c =
    let run : Run = single c.args.place.lba c.take-slot.result (kind_for c.args.content.now) in
    let pushed = c.push.ensures ∙ ap (pushed c.args.draft.now) c.single.ensures
    ∙ ap (λ k. pushed c.args.draft.now (single c.args.place.lba c.take-slot.result k)) c.kind.ensures in
    let taken = rw (sym (ap (λ (s : Slots). s.free) c.fill.ensures)) at c.take-slot.ensures.free in
    let put = rw (ap (λ (s : Slots). s.blocks) c.take-slot.ensures.pool) at
    (ap (λ (s : Slots). s.blocks) c.fill.ensures) in
    added c.requires.editing (sym c.run_at.ensures ∙ c.in_default.is) c.fill.new.self
    c.push.new.self run (mapping_for c.args.content.now c.args.place.index) taken put refl
    (kind-of c.args.content.now c.args.place.index) refl pushed

pub returns-in_default-clause-contents : goal.returns-in_default-clause-contents
returns-in_default-clause-contents c = (added-here c).contents

pub returns-in_default-clause-editing : goal.returns-in_default-clause-editing
returns-in_default-clause-editing c = (added-here c).editing

pub returns-in_default-clause-drafts : goal.returns-in_default-clause-drafts
returns-in_default-clause-drafts c = record {
  index = omega (
    arith,
    unmapped-there c.requires.editing (sym c.run_at.ensures ∙ c.in_default.is),
  );
  free = rw (ap (λ (s : Slots). s.free) c.fill.ensures)
      (omega (arith, ap length c.take-slot.ensures.free));
  from = ap (λ (d : Drafted). d.from) c.push.ensures;
  drafted = ap (λ (d : Drafted). length d.records) c.push.ensures
      ∙ length_push c.args.draft.now.records c.single.result;
  room = ap (λ (d : Drafted). d.room) c.push.ensures;
  same = (added-here c).same;
}

-- the address is mapped
pub fill-requires-2-clause-slot : goal.fill-requires-2-clause-slot
fill-requires-2-clause-slot c =
    slot-there c.requires.editing c.in-Some.run' (sym c.run_at.ensures ∙ c.in-Some.is)

over-here : (c : goal.After-new) → IsPut c.args.table.now.records c.args.table.now.room
    c.args.pool.now c.fill-2.new.self c.args.draft.now c.push-2.new.self c.args.cursor c.new.result
    c.args.place.lba (mapping_for c.args.content.now c.args.place.index) (kind_for c.args.content.now)
over-here c = rw c.kind-2.ensures at (over c.requires.editing c.in-Some.run'
    (sym c.run_at.ensures ∙ c.in-Some.is) c.fill-2.new.self c.push-2.new.self
    (mapping_for c.args.content.now c.args.place.index) c.kind-2.result c.new.result
    (ap (λ (s : Slots). s.free) c.fill-2.ensures) (ap (λ (s : Slots). s.blocks) c.fill-2.ensures)
    (c.kind-2.ensures ∙ kind-of c.args.content.now c.args.place.index) c.push-2.ensures
    c.new.ensures.index (rw c.new.ensures.index c.new.ensures.next))

pub returns-clause-contents : goal.returns-clause-contents
returns-clause-contents c = (over-here c).contents

pub returns-clause-editing : goal.returns-clause-editing
returns-clause-editing c = (over-here c).editing

pub returns-clause-drafts : goal.returns-clause-drafts
returns-clause-drafts c = record {
  index = omega (
    arith,
    c.new.ensures.index,
    mapped-there c.requires.editing c.in-Some.run' (sym c.run_at.ensures ∙ c.in-Some.is),
  );
  free = rw (ap (λ (s : Slots). s.free) c.fill-2.ensures) (omega (arith, c.new.ensures.index));
  from = ap (λ (d : Drafted). d.from) c.push-2.ensures;
  drafted = ap (λ (d : Drafted). length d.records) c.push-2.ensures
      ∙ length_push c.args.draft.now.records (with_kind c.kind-2.result c.in-Some.run');
  room = ap (λ (d : Drafted). d.room) c.push-2.ensures;
  same = (over-here c).same;
}

pub returns-clause-cost : goal.returns-clause-cost
returns-clause-cost c =
    let t = c.args.table.now in
    let passed = c.args.cursor.index + ahead c.args.cursor.next in
    let paid = ahead-found c.args.cursor.next c.args.place.lba c.in-Some.run' (sym c.run_at.ensures
    ∙ c.in-Some.is) in
    ap (λ t. visited t passed) c.new.ensures.table ∙ visited-more t (ahead c.new.result.next) passed
    ∙ ap (visited t) (omega (arith, c.new.ensures.index))
