use Rattle.std.proofs.Common.{◌≡◌, ◌+◌, [], ◌∷◌, ◌++◌, take, drop, get_or, map, sym, ap, ◌∙◌}
use Rattle.std.proofs.lemmas.List.{take_more, map-append, drop_more}
use Rattle.std.proofs.lemmas.List.{take-append-drop}
use Rattle.sg_store.specs.declared.store.TheConstants.{MAX_CAPACITY}
use Rattle.sg_target.specs.Joining.{range_of}
use Rattle.sg_wire.specs.declared.extent.Extent.{Extent}
use Rattle.sg_target.proofs.JoiningLemmas.{joined-more, within-first}
use Rattle.sg_target.proofs.joining.joined.Goals as goal

pub with_range-joined-requires-clause-fits : goal.with_range-joined-requires-clause-fits
with_range-joined-requires-clause-fits c =
    let l = c.loop-extent in
    let extents = c.args.extents.now in
    let i = l.extent-index in
    let none : Extent = record { lba = 0; count = 0 } in
    let parts : map range_of extents ≡ map range_of (take i extents)
    ++ range_of (get_or extents i none) ∷ map range_of (drop (i + 1) extents) =
    ap (map range_of) (sym (take-append-drop i extents)
    ∙ ap (λ xs. take i extents ++ xs) (drop_more extents i none c.loop-extent-test.true))
    ∙ map-append range_of (take i extents) (get_or extents i none ∷ drop (i + 1) extents) in
    rw (c.of.ensures, c.as_slice.ensures.value)
    (within-first MAX_CAPACITY (map range_of (take i extents)) l.joined.items
    (range_of (get_or extents i none)) (map range_of (drop (i + 1) extents)) l.invariant
    (rw parts at c.requires.fits))

pub loop-extent-preserved : goal.loop-extent-preserved
loop-extent-preserved c =
    let l = c.loop-extent in
    let extents = c.args.extents.now in
    let i = l.extent-index in
    let none : Extent = record { lba = 0; count = 0 } in
    let more : map range_of (take (i + 1) extents)
    ≡ map range_of (take i extents) ++ range_of (get_or extents i none) ∷ [] =
    ap (map range_of) (take_more extents i none c.loop-extent-test.true)
    ∙ map-append range_of (take i extents) (get_or extents i none ∷ []) in
    rw more (joined-more (map range_of (take i extents)) l.joined.items
    (range_of (get_or extents i none)) c.with_range-joined.result.items l.invariant
    (rw (c.of.ensures, c.as_slice.ensures.value) at c.with_range-joined.ensures))
