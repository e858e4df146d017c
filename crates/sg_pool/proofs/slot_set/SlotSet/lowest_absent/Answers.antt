use Rattle.std.proofs.Common.{◌/◌, arith}
use Rattle.sg_pool.specs.SlotSets.{bit_of}
use Rattle.sg_pool.proofs.SlotSetLemmas.{lowest-le, open-before, open-some}
use Rattle.sg_pool.proofs.slot_set.SlotSet.lowest_absent.Goals as goal

pub lowest_zero-group-requires-clause-within : goal.lowest_zero-group-requires-clause-within
lowest_zero-group-requires-clause-within c =
    let r = c.requires.set in
    let o = open-some c.args.self.now r c.requires.some in
    let top = open-before c.args.self.now.full_groups.words.items c.first_open-top.result
    (o.slot / 64 / 64) c.first_open-top.ensures.before o.groups in
    omega (arith, top, o.below, r.words, r.full_words, r.full_groups)

pub lowest_zero-group-requires-clause-short : goal.lowest_zero-group-requires-clause-short
lowest_zero-group-requires-clause-short c =
    let r = c.requires.set in
    omega (arith, r.size, r.words, r.full_words, r.full_groups)

pub lowest_zero-word-requires-clause-within : goal.lowest_zero-word-requires-clause-within
lowest_zero-word-requires-clause-within c =
    let r = c.requires.set in
    let o = open-some c.args.self.now r c.requires.some in
    let low = lowest-le (bit_of c.args.self.now.full_groups.words.items) c.lowest_zero-group.result
    (o.slot / 64 / 64) c.lowest_zero-group.ensures.lowest o.groups in
    omega (arith, low, o.below, r.words, r.full_words)

pub lowest_zero-word-requires-clause-short : goal.lowest_zero-word-requires-clause-short
lowest_zero-word-requires-clause-short c =
    let r = c.requires.set in
    omega (arith, r.size, r.words, r.full_words)

pub lowest_zero-requires-clause-within : goal.lowest_zero-requires-clause-within
lowest_zero-requires-clause-within c =
    let r = c.requires.set in
    let o = open-some c.args.self.now r c.requires.some in
    let low = lowest-le (bit_of c.args.self.now.full.words.items) c.lowest_zero-word.result
    (o.slot / 64) c.lowest_zero-word.ensures.lowest o.words in
    omega (arith, low, o.below, r.words)

pub lowest_zero-requires-clause-short : goal.lowest_zero-requires-clause-short
lowest_zero-requires-clause-short c =
    let r = c.requires.set in
    omega (arith, r.size, r.words)

pub lowest_zero-requires-clause-before : goal.lowest_zero-requires-clause-before
lowest_zero-requires-clause-before c = λ other lt.
    (c.requires.set.full other).1 (c.lowest_zero-word.ensures.lowest other lt)

pub returns-clause-below : goal.returns-clause-below
returns-clause-below c =
    let o = open-some c.args.self.now c.requires.set c.requires.some in
    let low = lowest-le (bit_of c.args.self.now.slots.words.items) c.lowest_zero.result o.slot
    c.lowest_zero.ensures.lowest o.is in
    omega (arith, low, o.below)
