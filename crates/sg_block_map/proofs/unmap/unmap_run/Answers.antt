use Rattle.std.proofs.Common.{◌≡◌, List, ◌++◌, [], ◌∷◌, length, ap, sym, ◌∙◌, arith}
use Rattle.std.specs.Prelude.{option_to_list}
use Rattle.sg_table.specs.declared.run.Run.{Run}
use Rattle.sg_pool.specs.Slots.{Slots}
use Rattle.sg_block_map.specs.Runs.{expanded, singles_of}
use Rattle.sg_block_map.proofs.CutLemmas.{slots-one, length-part, part-slots, part-length}
use Rattle.sg_block_map.proofs.CutLemmas.{part-below, parts-twice, rest-chained, cut-front}
use Rattle.sg_block_map.proofs.CutLemmas.{cut-twice}
use Rattle.sg_block_map.proofs.unmap.unmap_run.Goals as goal

pub returns-in_default-clause-cut : goal.returns-in_default-clause-cut
returns-in_default-clause-cut c =
    let p = c.args.pool.now in
    let one = rw c.in_default.is at c.split_at-front.ensures.split in
    let pool = c.split_at-front.ensures.links.pool in
    cut-front p c.split_at-front.new.pool c.args.remaining.now.items c.keep.new.remaining.items
    c.args.run c.args.low c.args.high c.split_at-front.result.0 one
    c.keep.ensures (ap (λ (s : Slots). s.next) pool)
    (ap (λ (s : Slots). s.free) pool) (ap (λ (s : Slots). s.blocks) pool)

pub returns-in_default-clause-links : goal.returns-in_default-clause-links
returns-in_default-clause-links c =
    let p = c.args.pool.now in
    let one = rw c.in_default.is at c.split_at-front.ensures.split in
    let len = part-length p.next c.args.run (option_to_list c.split_at-front.result.0) [] []
    one.parts in
    omega (arith, len, c.split_at-front.ensures.links.follows.most_links)

pub split_at-gone-requires-clause-chain : goal.split_at-gone-requires-clause-chain
split_at-gone-requires-clause-chain c =
    let p = c.args.pool.now in
    let one = rw c.in-Some.is at c.split_at-front.ensures.split in
    let next = ap (λ (s : Slots). s.next) c.split_at-front.ensures.links.pool in
    rw next (rest-chained p.next c.args.run c.in-Some.rest c.args.low c.split_at-front.result.0 one)

pub split_at-gone-requires-clause-below : goal.split_at-gone-requires-clause-below
split_at-gone-requires-clause-below c =
    let p = c.args.pool.now in
    let rest = c.in-Some.rest in
    let one = rw c.in-Some.is at c.split_at-front.ensures.split in
    let next = ap (λ (s : Slots). s.next) c.split_at-front.ensures.links.pool in
    let parts : expanded p.next (option_to_list c.split_at-front.result.0 ++ (rest ∷ [] ++ [])) ≡
    singles_of p.next c.args.run = one.parts in
    rw (next, sym (slots-one p.next rest)) (part-below p.next (length p.next) c.args.run
    (option_to_list c.split_at-front.result.0) (rest ∷ []) [] parts c.requires.slots.below)

pub split_at-gone-requires-clause-headroom : goal.split_at-gone-requires-clause-headroom
split_at-gone-requires-clause-headroom c =
    let p = c.args.pool.now in
    let rest = c.in-Some.rest in
    let one = rw c.in-Some.is at c.split_at-front.ensures.split in
    let parts : expanded p.next (option_to_list c.split_at-front.result.0 ++ (rest ∷ [] ++ [])) ≡
    singles_of p.next c.args.run = one.parts in
    let len = part-length p.next c.args.run (option_to_list c.split_at-front.result.0)
    (rest ∷ []) [] parts in
    let own = length-part p.next rest in
    omega (arith, len, own, c.split_at-front.ensures.links.follows.most_links, c.requires.headroom)

pub give-requires-clause-below : goal.give-requires-clause-below
give-requires-clause-below c =
    let p = c.args.pool.now in
    let one = rw c.in-Some.is at c.split_at-front.ensures.split in
    let first = ap (λ (s : Slots). s.next) c.split_at-front.ensures.links.pool in
    let next = ap (λ (s : Slots). s.next) c.split_at-gone.ensures.links.pool ∙ first in
    let two = rw first at c.split_at-gone.ensures.split in
    let front = c.split_at-front.result.0 in let gone = c.split_at-gone.result.0 in
    let back = c.split_at-gone.result.1 in
    rw next (part-below p.next (length p.next) c.args.run (option_to_list front)
    (option_to_list gone) (option_to_list back)
    (parts-twice p.next c.args.run c.in-Some.rest c.args.low c.args.high front gone back one two)
    c.requires.slots.below)

pub give-requires-clause-distinct : goal.give-requires-clause-distinct
give-requires-clause-distinct c =
    let p = c.args.pool.now in
    let one = rw c.in-Some.is at c.split_at-front.ensures.split in
    let first = ap (λ (s : Slots). s.next) c.split_at-front.ensures.links.pool in
    let next = ap (λ (s : Slots). s.next) c.split_at-gone.ensures.links.pool ∙ first in
    let free = ap (λ (s : Slots). s.free) c.split_at-gone.ensures.links.pool
    ∙ ap (λ (s : Slots). s.free) c.split_at-front.ensures.links.pool in
    let two = rw first at c.split_at-gone.ensures.split in
    let front = c.split_at-front.result.0 in let gone = c.split_at-gone.result.0 in
    let back = c.split_at-gone.result.1 in
    rw (next, free) (λ s.
    let parts = part-slots p.next c.args.run (option_to_list front) (option_to_list gone)
    (option_to_list back) s (parts-twice p.next c.args.run c.in-Some.rest c.args.low c.args.high
    front gone back one two) in
    let d = c.requires.slots.distinct s in
    omega arith)

pub give-requires-clause-room : goal.give-requires-clause-room
give-requires-clause-room c =
    let p = c.args.pool.now in
    let one = rw c.in-Some.is at c.split_at-front.ensures.split in
    let first = ap (λ (s : Slots). s.next) c.split_at-front.ensures.links.pool in
    let next = ap (λ (s : Slots). s.next) c.split_at-gone.ensures.links.pool ∙ first in
    let free = ap (λ (s : Slots). s.free) c.split_at-gone.ensures.links.pool
    ∙ ap (λ (s : Slots). s.free) c.split_at-front.ensures.links.pool in
    let two = rw first at c.split_at-gone.ensures.split in
    let front = c.split_at-front.result.0 in let gone = c.split_at-gone.result.0 in
    let back = c.split_at-gone.result.1 in
    let len = part-length p.next c.args.run (option_to_list front) (option_to_list gone)
    (option_to_list back) (parts-twice p.next c.args.run c.in-Some.rest c.args.low c.args.high
    front gone back one two) in
    rw (next, free) (omega (arith, len, c.requires.slots.fits))

pub returns-clause-cut : goal.returns-clause-cut
returns-clause-cut c =
    let p = c.args.pool.now in
    let one = rw c.in-Some.is at c.split_at-front.ensures.split in
    let first = ap (λ (s : Slots). s.next) c.split_at-front.ensures.links.pool in
    let next = ap (λ (s : Slots). s.next) c.split_at-gone.ensures.links.pool ∙ first in
    let free = ap (λ (s : Slots). s.free) c.split_at-gone.ensures.links.pool
    ∙ ap (λ (s : Slots). s.free) c.split_at-front.ensures.links.pool in
    let bs = ap (λ (s : Slots). s.blocks) c.split_at-gone.ensures.links.pool
    ∙ ap (λ (s : Slots). s.blocks) c.split_at-front.ensures.links.pool in
    let two = rw first at c.split_at-gone.ensures.split in
    let front = c.split_at-front.result.0 in let gone = c.split_at-gone.result.0 in
    let back = c.split_at-gone.result.1 in
    cut-twice p c.give.new.pool c.args.remaining.now.items c.keep-2.new.remaining.items
    c.args.run c.in-Some.rest c.args.low c.args.high front gone back one two
    (c.keep-2.ensures ∙ ap (λ (rs : List Run). rs ++ option_to_list back) c.keep.ensures)
    (rw (next, free) at c.give.ensures.free) (rw next at c.give.ensures.stays)
    (c.give.ensures.length ∙ ap length next) (ap (λ (s : Slots). s.blocks) c.give.ensures.pool ∙ bs)

pub returns-clause-links : goal.returns-clause-links
returns-clause-links c =
    let p = c.args.pool.now in
    let one = rw c.in-Some.is at c.split_at-front.ensures.split in
    let first = ap (λ (s : Slots). s.next) c.split_at-front.ensures.links.pool in
    let two = rw first at c.split_at-gone.ensures.split in
    let front = c.split_at-front.result.0 in let gone = c.split_at-gone.result.0 in
    let back = c.split_at-gone.result.1 in
    let len = part-length p.next c.args.run (option_to_list front) (option_to_list gone)
    (option_to_list back) (parts-twice p.next c.args.run c.in-Some.rest c.args.low c.args.high
    front gone back one two) in
    let links = rw first at c.split_at-gone.ensures.links.follows.most_links in
    let same = ap (λ (s : Slots). s.links) c.give.ensures.pool in
    omega (arith, len, links, same, c.split_at-front.ensures.links.follows.most_links)
