use Rattle.std.proofs.Common.{◌++◌, ◌∷◌, [], ap, ◌∙◌, sym, arith}
use Rattle.std.proofs.lemmas.List.Elements.{All-append, All-cons, All-nil}
use Rattle.sg_table.specs.Draft.{Drafted}
use Rattle.sg_extent_map.specs.Extents.{singles, IsExtent}
use Rattle.sg_extent_map.proofs.DraftLemmas.{draft-room, none-of}
use Rattle.sg_extent_map.proofs.SinglesLemmas.{append-none, singles-last}
use Rattle.sg_extent_map.proofs.draft.close.Goals as goal

pub push-requires : goal.push-requires
push-requires c =
    let room = draft-room _ c.args.draft.now c.args.done c.requires.drafted in
    omega (arith, room, c.requires.room, c.if-done-gt0.true)

pub returns-then-done-gt0-clause-extents : goal.returns-then-done-gt0-clause-extents
returns-then-done-gt0-clause-extents c = λ pool h.
    let records = c.args.draft.now.records in
    let done = c.args.done in
    let drafted = ap (λ (d : Drafted). d.records) c.push.ensures in
    rw drafted (All-append (IsExtent pool) records (done ∷ []) h.extents
    (All-cons (IsExtent pool) done [] (h.part c.if-done-gt0.true) (All-nil (IsExtent pool))))

pub returns-else-done-gt0-clause-addresses : goal.returns-else-done-gt0-clause-addresses
returns-else-done-gt0-clause-addresses c =
    let records = c.args.draft.now.records in
    let done = c.args.done in
    sym (singles-last records done ∙ ap (λ xs. singles records ++ xs)
    (none-of done (omega (arith, c.if-done-gt0.false))) ∙ append-none (singles records))
