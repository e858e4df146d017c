use Prim.{search}
use Rattle.std.proofs.Common.{rules, ◌≡◌, ◌∙◌, ◌∷◌, ◌<◌, ap, arith, length, lit<, sym}
use Rattle.arrayvec.proofs.ArrayVecLemmas.{filter-from_retain}
use Rattle.sg_units.specs.Attentions.{is_covered, without_resets}
use Rattle.sg_units.specs.UnitAttention.{condition_count}
use Rattle.sg_units.proofs.ConditionLemmas.{room, with_reset}
use Rattle.sg_units.proofs.attentions.establish.Goals as goal

pub push-requires : goal.push-requires
push-requires c =
    let condition = c.args.condition in
    let absent =
    ap (λ q. is_covered q condition) (sym c.as_slice.ensures.value)
    ∙ (sym c.is_covered.ensures ∙ c.if-is_covered.false) in
    (lit< tt, room c.args.queue.now.items condition c.requires absent)

pub insert-requires : goal.insert-requires
insert-requires c =
    let condition = c.args.condition in
    let absent =
    ap (λ q. is_covered q condition) (sym c.as_slice.ensures.value)
    ∙ (sym c.is_covered.ensures ∙ c.if-is_covered.false) in
    let kept = c.retain.ensures.bound in
    let before : length c.args.queue.now.items < condition_count =
    room c.args.queue.now.items condition c.requires absent in
    (lit< tt, (omega arith, omega arith))

pub returns-then-is_reset : goal.returns-then-is_reset
returns-then-is_reset c =
    let condition = c.args.condition in
    let queue = c.args.queue.now.items in
    let absent =
    ap (λ q. is_covered q condition) (sym c.as_slice.ensures.value)
    ∙ (sym c.is_covered.ensures ∙ c.if-is_covered.false) in
    let kept : c.retain.new.self.items ≡ without_resets queue =
    filter-from_retain _ _ _ (λ x b f' y called. search rules) _ _ c.retain.ensures.filtered in
    c.insert.ensures.items ∙ (ap (λ rest. condition ∷ rest) kept
    ∙ sym (with_reset queue condition absent (sym c.is_reset.ensures ∙ c.if-is_reset.true)))
