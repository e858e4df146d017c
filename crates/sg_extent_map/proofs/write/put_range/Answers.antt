use Rattle.std.proofs.Common.{◌≡◌, ◌+◌, List, [], ◌∷◌, ◌++◌, length, take, drop, ap, ap₂}
use Rattle.std.proofs.Common.{sym, ◌∙◌, arith, add-zero, append_assoc}
use Rattle.std.proofs.Common.{refl}
use Rattle.std.specs.FinMap as map
use Rattle.std.proofs.lemmas.List.Elements.{All-nil}
use Rattle.std.specs.List.{splice}
use Rattle.std.specs.Prelude.{option_to_list}
use Rattle.sg_store.specs.Disk.{max_capacity}
use Rattle.sg_store.proofs.DiskLemmas.{remapped-none, remapped-more}
use Rattle.sg_pool.specs.MappedRecords.{contents_of, kind_of}
use Rattle.sg_table.specs.Draft.{Drafted}
use Rattle.sg_table.specs.Records.{single}
use Rattle.sg_table.specs.Table.{Table}
use Rattle.sg_table.specs.declared.run.Run.{Run}
use Rattle.sg_pool.specs.Content.{mapping_for}
use Rattle.sg_extent_map.specs.Drafting.{drafted}
use Rattle.sg_extent_map.specs.Extents.{singles, singles_of, IsExtent, IsPart}
use Rattle.sg_extent_map.specs.Writing.{PutsBlock}
use Rattle.sg_extent_map.specs.Gathering.{end_index}
use Rattle.sg_extent_map.specs.Walking.{ahead_of}
use Rattle.sg_extent_map.proofs.BetweenLemmas.{between-singles}
use Rattle.sg_pool.proofs.RisingLemmas.{between-raised, between-right}
use Rattle.sg_pool.proofs.RisingLemmas.{between-append}
use Rattle.sg_extent_map.proofs.SinglesLemmas.{from-one, length-singles, singles-last, singles-none}
use Rattle.sg_extent_map.proofs.SinglesLemmas.{append-none}
use Rattle.sg_extent_map.proofs.WalkLemmas.{ahead-weaker, slot-found, between-front, between-found}
use Rattle.sg_extent_map.proofs.WriteLemmas.{gathered-ahead, gathered-rest, begun-writing}
use Rattle.sg_extent_map.proofs.WriteLemmas.{begun-parts}
use Rattle.sg_extent_map.proofs.WriteLemmas.{put-maximal, free-below, free-there, none-there}
use Rattle.sg_extent_map.proofs.WriteLemmas.{put-step, slot-low}
use Rattle.sg_extent_map.proofs.WriteLemmas.{kind-of, finished, drafted-parts, splice-room}
use Rattle.sg_extent_map.proofs.write.put_range.Goals as goal

pub begin-requires-clause-ahead : goal.begin-requires-clause-ahead
begin-requires-clause-ahead c =
    let r = c.requires.ready in
    rw c.records-runs.ensures (ahead-weaker c.args.table.now.room _ 0 c.args.gathered.now.records
    (omega (arith, r.table_size)) (gathered-ahead c.args.table.now.records c.args.gathered.now
    c.args.pool.now c.args.table.now.room c.args.range.lba (c.args.range.lba + c.args.range.count)
    r.extents r.near))

pub begin-requires-clause-rest : goal.begin-requires-clause-rest
begin-requires-clause-rest c =
    let r = c.requires.ready in
    rw c.records-runs.ensures (ahead-weaker c.args.table.now.room _ c.args.range.lba
    (drop 1 c.args.gathered.now.records)
    (omega (arith, r.table_size)) (gathered-rest c.args.table.now.records c.args.gathered.now
    c.args.pool.now c.args.table.now.room c.args.range.lba (c.args.range.lba + c.args.range.count)
    r.extents r.near))

front-only : (front : Run) → singles (front ∷ []) ≡ singles_of front ++ []
front-only front = singles-last [] front ∙ ap (λ zs. zs ++ singles_of front) singles-none
    ∙ sym (append-none (singles_of front))

pub loop-i-init : goal.loop-i-init
loop-i-init c =
    let rs = c.args.table.now.records in
    let room = c.args.table.now.room in
    let gathered = c.args.gathered.now in
    let p = c.args.pool.now in
    let lba = c.args.range.lba in
    let high = lba + c.args.range.count in
    let r = c.requires.ready in
    let front = c.begin.result.0 in
    let more : List Run = ahead_of gathered.records c.begin.result.1.run c.begin.result.1.at in
    let t = (rw c.records-runs.ensures at c.begin.ensures) room
    (gathered-ahead rs gathered p room lba high r.extents r.near) in
    let none = ap (λ (d : Drafted). d.records) c.requires.empty in
    rw none (record {
      extents = record { extents = All-nil (IsExtent room); part = t.part };
      maximal = record { maximal = λ _. (tt, tt); none = λ _. refl };
      longer = omega arith;
      fewer = t.fewer;
      begun = ([], front-only front);
      parts = (singles_of front, t.parts, rw add-zero (between-front front lba t.before));
      ahead = rw add-zero t.still_ahead;
      writing = rw add-zero (begun-writing rs gathered p room lba high front more r.extents r.near t
          (omega arith));
      contents = ap (λ zs. contents_of zs p.blocks)
          (begun-parts rs gathered p room lba high front more r.extents r.near t (omega arith))
          ∙ sym (remapped-none (contents_of (singles rs) p.blocks) lba
          (mapping_for c.args.content.now));
      room = refl;
    })

pub put_block-slot-requires-clause-slot : goal.put_block-slot-requires-clause-slot
put_block-slot-requires-clause-slot c =
    let room = c.args.table.now.room in
    let inv = c.loop-i.invariant in
    let here : c.args.range.lba + c.from.result ≡ c.args.range.lba + c.loop-i.i =
    ap (λ x. c.args.range.lba + x) c.from.ensures in
    let e = (rw (c.records-runs.ensures, here) at c.pass-found.ensures) room inv.ahead in
    rw inv.writing.consistent.pool (slot-found (c.args.range.lba + c.loop-i.i) room c.pass-found.result.0
    e.record_is)

pub put_block-slot-requires-clause-free : goal.put_block-slot-requires-clause-free
put_block-slot-requires-clause-free c =
    let rs = c.args.table.now.records in
    let room = c.args.table.now.room in
    let gathered = c.args.gathered.now in
    let lba = c.args.range.lba in
    let i = c.loop-i.i in
    let inv = c.loop-i.invariant in
    let here : lba + c.from.result ≡ lba + i = ap (λ x. lba + x) c.from.ensures in
    let e = (rw (c.records-runs.ensures, here) at c.pass-found.ensures) room inv.ahead in
    let found = c.pass-found.result.0 in
    let ys : List Run = drop (end_index gathered) rs in
    let more : List Run = ahead_of gathered.records c.pass-found.result.1.run
    c.pass-found.result.1.at in
    let before : List Run = singles (take gathered.from rs)
    ++ singles (drafted c.loop-i.draft c.loop-i.done) in
    let parts = ap (λ zs. zs ++ singles ys) e.parts
    ∙ append_assoc (option_to_list found) (singles more) (singles ys) in
    let rest : List Run = singles more ++ singles ys in
    let writing = rw parts at inv.writing in
    let near = c.requires.ready.near in
    let later = between-raised (singles more) (singles ys) (lba + i) max_capacity (lba + i + 1)
    (lba + c.args.range.count) (between-right (option_to_list found) rest (lba + i) max_capacity writing.high)
    (between-singles more (lba + i + 1) max_capacity e.still_ahead.apart)
    (between-singles ys (lba + c.args.range.count) max_capacity near.after)
    (omega (arith, c.loop-i-test.true)) in
    let p = c.args.pool.now in
    λ none.
    let all : List Run = before ++ rest in
    let none_here : option_to_list found ++ rest ≡ rest = ap (λ o. option_to_list o ++ rest) none in
    let now = rw none_here at writing in
    let contents = rw (parts, none_here) at inv.contents in
    free-there (singles rs) all p.blocks c.loop-i.pool.blocks p.free c.loop-i.pool.free room lba i
    c.args.range.count (mapping_for c.args.content.now) c.requires.ready.extents.consistent now.consistent
    contents (none-there before rest c.loop-i.pool.blocks (lba + i) now.low later)
    c.loop-i-test.true c.requires.free

pub put_block-slot-requires-clause-below : goal.put_block-slot-requires-clause-below
put_block-slot-requires-clause-below c = λ slot some.
    let w = c.loop-i.invariant.writing in
    free-below _ c.loop-i.pool.blocks c.loop-i.pool.free c.args.table.now.room slot w.consistent some

pub append-done-requires-clause-run : goal.append-done-requires-clause-run
append-done-requires-clause-run c =
    let rs = c.args.table.now.records in
    let room = c.args.table.now.room in
    let gathered = c.args.gathered.now in
    let lba = c.args.range.lba in
    let i = c.loop-i.i in
    let inv = c.loop-i.invariant in
    let here : lba + c.from.result ≡ lba + i = ap (λ x. lba + x) c.from.ensures in
    let e = (rw (c.records-runs.ensures, here) at c.pass-found.ensures) room inv.ahead in
    let found = c.pass-found.result.0 in
    let ys : List Run = drop (end_index gathered) rs in
    let more : List Run = ahead_of gathered.records c.pass-found.result.1.run
    c.pass-found.result.1.at in
    let before : List Run = singles (take gathered.from rs)
    ++ singles (drafted c.loop-i.draft c.loop-i.done) in
    let parts = ap (λ zs. zs ++ singles ys) e.parts
    ∙ append_assoc (option_to_list found) (singles more) (singles ys) in
    let rest : List Run = singles more ++ singles ys in
    let writing = rw parts at inv.writing in
    let near = c.requires.ready.near in
    let later = between-raised (singles more) (singles ys) (lba + i) max_capacity (lba + i + 1)
    (lba + c.args.range.count) (between-right (option_to_list found) rest (lba + i) max_capacity writing.high)
    (between-singles more (lba + i + 1) max_capacity e.still_ahead.apart)
    (between-singles ys (lba + c.args.range.count) max_capacity near.after)
    (omega (arith, c.loop-i-test.true)) in
    let slot = c.put_block-slot.result in
    let low = slot-low found c.loop-i.pool c.put_block-slot.new.pool _ room (lba + i) slot
    writing.consistent e.record_is c.put_block-slot.ensures.takes in
    rw c.single.ensures (λ _. record {
      not_empty = omega arith;
      range = omega (arith, c.requires.range, c.loop-i-test.true, here);
      slots = omega (arith, c.requires.ready.table_size);
      last = omega arith;
    })

pub loop-i-preserved : goal.loop-i-preserved
loop-i-preserved c =
    let rs = c.args.table.now.records in
    let room = c.args.table.now.room in
    let gathered = c.args.gathered.now in
    let lba = c.args.range.lba in
    let i = c.loop-i.i in
    let inv = c.loop-i.invariant in
    let here : lba + c.from.result ≡ lba + i = ap (λ x. lba + x) c.from.ensures in
    let e = (rw (c.records-runs.ensures, here) at c.pass-found.ensures) room inv.ahead in
    let found = c.pass-found.result.0 in
    let ys : List Run = drop (end_index gathered) rs in
    let more : List Run = ahead_of gathered.records c.pass-found.result.1.run
    c.pass-found.result.1.at in
    let before : List Run = singles (take gathered.from rs)
    ++ singles (drafted c.loop-i.draft c.loop-i.done) in
    let parts = ap (λ zs. zs ++ singles ys) e.parts
    ∙ append_assoc (option_to_list found) (singles more) (singles ys) in
    let rest : List Run = singles more ++ singles ys in
    let writing = rw parts at inv.writing in
    let near = c.requires.ready.near in
    let later = between-raised (singles more) (singles ys) (lba + i) max_capacity (lba + i + 1)
    (lba + c.args.range.count) (between-right (option_to_list found) rest (lba + i) max_capacity writing.high)
    (between-singles more (lba + i + 1) max_capacity e.still_ahead.apart)
    (between-singles ys (lba + c.args.range.count) max_capacity near.after)
    (omega (arith, c.loop-i-test.true)) in
    let content = c.args.content.now in
    let x = mapping_for content i in
    let slot = c.put_block-slot.result in
    let slots = c.loop-i.pool in
    let slots' = c.put_block-slot.new.pool in
    let placed : PutsBlock found slots slots' x slot = c.put_block-slot.ensures in
    let put = put-step before rest found slots slots' room (lba + i) slot x writing later e.record_is
    placed in
    let kind : c.kind.result ≡ kind_of x = c.kind.ensures ∙ kind-of content i in
    let run : c.single.result ≡ single (lba + i) slot (kind_of x) =
    c.single.ensures ∙ ap₂ (λ q k. single q slot k) here kind in
    let low = slot-low found slots slots' _ room (lba + i) slot writing.consistent e.record_is placed.takes in
    let part : IsPart room c.single.result = rw run (λ _. record {
      not_empty = omega arith;
      range = omega (arith, c.requires.range, c.loop-i-test.true);
      slots = omega arith;
      last = omega arith;
    }) in
    let a = c.append-done.ensures in
    let drafts : singles (drafted c.append-done.new.draft c.append-done.result)
    ≡ singles (drafted c.loop-i.draft c.loop-i.done) ++ single (lba + i) slot (kind_of x) ∷ [] =
    a.addresses ∙ ap (λ r. singles (drafted c.loop-i.draft c.loop-i.done) ++ singles_of r) run
    ∙ ap (λ zs. singles (drafted c.loop-i.draft c.loop-i.done) ++ zs)
    (from-one (lba + i) slot (kind_of x)) in
    let front : singles (take gathered.from rs)
    ++ singles (drafted c.append-done.new.draft c.append-done.result)
    ≡ before ++ single (lba + i) slot (kind_of x) ∷ [] =
    ap (λ zs. singles (take gathered.from rs) ++ zs) drafts
    ∙ sym (append_assoc (singles (take gathered.from rs))
    (singles (drafted c.loop-i.draft c.loop-i.done)) (single (lba + i) slot (kind_of x) ∷ [])) in
    let on : lba + i + 1 ≡ lba + (i + 1) = omega arith in
    record {
      extents = a.extents room inv.extents part;
      maximal = a.maximal inv.maximal;
      longer = omega (arith, a.longer, inv.longer);
      fewer = omega (arith, e.fewer, inv.fewer);
      begun = (
        inv.begun.0 ++ single (lba + i) slot (kind_of x) ∷ [],
        drafts ∙ ap (λ zs. zs ++ single (lba + i) slot (kind_of x) ∷ []) inv.begun.1
            ∙ append_assoc (singles_of c.begin.result.0) inv.begun.0
            (single (lba + i) slot (kind_of x) ∷ []),
      );
      parts = (
        inv.parts.0 ++ option_to_list found,
        inv.parts.1 ∙ ap (λ zs. inv.parts.0 ++ zs) e.parts
            ∙ sym (append_assoc inv.parts.0 (option_to_list found) (singles more)),
        rw on at (between-append inv.parts.0 (option_to_list found) 0 (lba + i) (lba + i + 1)
            inv.parts.2 (between-found (lba + i) room found e.record_is)),
      );
      ahead = rw on at e.still_ahead;
      writing = rw front (rw on at put.writing);
      contents = ap (λ zs. contents_of (zs ++ rest) slots'.blocks) front ∙ put.contents
          ∙ ap (λ m. map.insert m (lba + i) x)
          (ap (λ zs. contents_of (before ++ zs) slots.blocks) (sym parts) ∙ inv.contents)
          ∙ sym (remapped-more (contents_of (singles rs) c.args.pool.now.blocks) lba i
          (mapping_for content));
      room = ap (λ (d : Drafted). d.room) a.only ∙ inv.room;
    }

pub put_runs-requires-clause-table_size : goal.put_runs-requires-clause-table_size
put_runs-requires-clause-table_size c =
    let h = c.requires.ready.extents in
    let few = length-singles c.args.table.now.room c.args.table.now.records h.extents in
    omega (arith, few, h.consistent.count, c.requires.ready.table_size)

pub put_runs-requires-clause-room : goal.put_runs-requires-clause-room
put_runs-requires-clause-room c =
    let rs = c.args.table.now.records in
    let room = c.args.table.now.room in
    let gathered = c.args.gathered.now in
    let inv = c.loop-i.invariant in
    let w = c.loop-i.walk in
    let D : List Run = singles (drafted c.loop-i.draft c.loop-i.done) in
    let A : List Run = singles (ahead_of gathered.records w.run w.at) in
    let ds : List Run = c.finish.new.draft.records in
    let f = (rw c.records-runs.ensures at c.finish.ensures.addresses) in
    let g = (rw c.records-runs.ensures at c.finish.ensures.extents) room inv.extents inv.ahead.extents in
    let r = c.requires.ready in
    let high = c.args.range.lba + c.args.range.count in
    let more : List Run = ahead_of gathered.records c.begin.result.1.run c.begin.result.1.at in
    let t = (rw c.records-runs.ensures at c.begin.ensures) room
    (gathered-ahead rs gathered c.args.pool.now room c.args.range.lba high r.extents r.near) in
    let upto : c.args.range.lba + c.loop-i.i ≡ high =
    omega (arith, c.loop-i-test.false, c.loop-i.auto.i-end) in
    let maximal = put-maximal rs ds D A inv.parts.0 inv.begun.0 more gathered c.args.pool.now room
    c.args.range.lba high c.begin.result.0 r.extents r.near g (c.finish.ensures.maximal inv.maximal) f t
    inv.begun.1 inv.parts.1 (rw upto at inv.parts.2) in
    let all = finished rs ds D A c.loop-i.pool gathered.from (end_index gathered) room
    (c.args.range.lba + c.loop-i.i) f inv.writing c.requires.ready.extents.extents g maximal in
    let fits = splice-room rs ds gathered c.loop-i.pool.blocks c.loop-i.pool.free room
    c.requires.ready.near.within all.extents all.consistent in
    omega (arith, fits, ap length c.records.ensures)

pub returns-clause-contents : goal.returns-clause-contents
returns-clause-contents c =
    let rs = c.args.table.now.records in
    let room = c.args.table.now.room in
    let gathered = c.args.gathered.now in
    let inv = c.loop-i.invariant in
    let w = c.loop-i.walk in
    let D : List Run = singles (drafted c.loop-i.draft c.loop-i.done) in
    let A : List Run = singles (ahead_of gathered.records w.run w.at) in
    let ds : List Run = c.finish.new.draft.records in
    let f = (rw c.records-runs.ensures at c.finish.ensures.addresses) in
    let g = (rw c.records-runs.ensures at c.finish.ensures.extents) room inv.extents inv.ahead.extents in
    let r = c.requires.ready in
    let high = c.args.range.lba + c.args.range.count in
    let more : List Run = ahead_of gathered.records c.begin.result.1.run c.begin.result.1.at in
    let t = (rw c.records-runs.ensures at c.begin.ensures) room
    (gathered-ahead rs gathered c.args.pool.now room c.args.range.lba high r.extents r.near) in
    let upto : c.args.range.lba + c.loop-i.i ≡ high =
    omega (arith, c.loop-i-test.false, c.loop-i.auto.i-end) in
    let maximal = put-maximal rs ds D A inv.parts.0 inv.begun.0 more gathered c.args.pool.now room
    c.args.range.lba high c.begin.result.0 r.extents r.near g (c.finish.ensures.maximal inv.maximal) f t
    inv.begun.1 inv.parts.1 (rw upto at inv.parts.2) in
    let all = finished rs ds D A c.loop-i.pool gathered.from (end_index gathered) room
    (c.args.range.lba + c.loop-i.i) f inv.writing c.requires.ready.extents.extents g maximal in
    let now = ap (λ (t : Table). t.records) c.put_runs.ensures.table
    ∙ ap (splice rs gathered.from (end_index gathered)) c.records.ensures in
    let end : c.loop-i.i ≡ c.args.range.count =
    omega (arith, c.loop-i-test.false, c.loop-i.auto.i-end) in
    ap (λ zs. contents_of (singles zs) c.loop-i.pool.blocks) now
    ∙ ap (λ zs. contents_of zs c.loop-i.pool.blocks)
    (drafted-parts rs ds D A gathered.from (end_index gathered) f)
    ∙ rw end at inv.contents

pub returns-clause-changes : goal.returns-clause-changes
returns-clause-changes c =
    let rs = c.args.table.now.records in
    let room = c.args.table.now.room in
    let gathered = c.args.gathered.now in
    let inv = c.loop-i.invariant in
    let w = c.loop-i.walk in
    let D : List Run = singles (drafted c.loop-i.draft c.loop-i.done) in
    let A : List Run = singles (ahead_of gathered.records w.run w.at) in
    let ds : List Run = c.finish.new.draft.records in
    let f = (rw c.records-runs.ensures at c.finish.ensures.addresses) in
    let g = (rw c.records-runs.ensures at c.finish.ensures.extents) room inv.extents inv.ahead.extents in
    let r = c.requires.ready in
    let high = c.args.range.lba + c.args.range.count in
    let more : List Run = ahead_of gathered.records c.begin.result.1.run c.begin.result.1.at in
    let t = (rw c.records-runs.ensures at c.begin.ensures) room
    (gathered-ahead rs gathered c.args.pool.now room c.args.range.lba high r.extents r.near) in
    let upto : c.args.range.lba + c.loop-i.i ≡ high =
    omega (arith, c.loop-i-test.false, c.loop-i.auto.i-end) in
    let maximal = put-maximal rs ds D A inv.parts.0 inv.begun.0 more gathered c.args.pool.now room
    c.args.range.lba high c.begin.result.0 r.extents r.near g (c.finish.ensures.maximal inv.maximal) f t
    inv.begun.1 inv.parts.1 (rw upto at inv.parts.2) in
    let all = finished rs ds D A c.loop-i.pool gathered.from (end_index gathered) room
    (c.args.range.lba + c.loop-i.i) f inv.writing c.requires.ready.extents.extents g maximal in
    let now = ap (λ (t : Table). t.records) c.put_runs.ensures.table
    ∙ ap (splice rs gathered.from (end_index gathered)) c.records.ensures in
    let same = ap (λ (t : Table). t.room) c.put_runs.ensures.table in
    let moves = c.put_runs.ensures.moves in
    let longer = rw c.records-runs.ensures at c.finish.ensures.longer in
    record {
      moves = omega (arith, moves, ap length c.records.ensures, longer, inv.longer, inv.fewer, upto);
      extents = rw (now, same) all;
      table = c.put_runs.ensures.table ∙ rw now (ap (λ zs. record c.args.table.now {
        records = splice rs gathered.from (end_index gathered) zs;
        moved = c.put_runs.new.table.moved;
      }) c.records.ensures);
    }
