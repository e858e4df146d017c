use Rattle.std.proofs.Common.{◌≡◌, ◌+◌, ◌-◌, ◌<◌, ◌≤◌, List, ◌∷◌, ◌++◌, length, length-append}
use Rattle.std.proofs.Common.{length-drop, take, drop, ap, ap₂, sym, subst, ◌∙◌, arith}
use Rattle.std.proofs.Common.{add-zero, Option}
use Rattle.std.proofs.lemmas.List.{length-take-le}
use Rattle.std.specs.FinMap as map
use Rattle.std.specs.Prelude.{option_to_list}
use Rattle.sg_pool.specs.Content.{mapping_for}
use Rattle.sg_pool.specs.MappedRecords.{contents_of, slot_numbers}
use Rattle.sg_pool.specs.Slots.{Slots}
use Rattle.sg_table.specs.Table.{Table}
use Rattle.sg_table.specs.declared.run.Run.{Run}
use Rattle.sg_store.specs.Disk.{max_capacity}
use Rattle.sg_block_map.specs.Gathering.{end_index}
use Rattle.sg_block_map.specs.Joining.{IsWriting}
use Rattle.sg_block_map.specs.Runs.{expanded, any_from, AreRuns, chained_contents}
use Rattle.sg_block_map.specs.Walking.{ahead_of}
use Rattle.sg_store.proofs.DiskLemmas.{remapped-none, remapped-more}
use Rattle.sg_block_map.proofs.OrderLemmas.{maximal-from}
use Rattle.sg_block_map.proofs.RunSlotLemmas.{runs-fit, gathered-blocks, length-expanded}
use Rattle.sg_block_map.proofs.FinishLemmas.{begin-range, finished, parts-shape, gathered-ahead}
use Rattle.sg_block_map.proofs.FinishLemmas.{walk_from-near, walk_from-kind, walk_from-start}
use Rattle.sg_block_map.proofs.FinishLemmas.{walk_from-blocks}
use Rattle.sg_block_map.proofs.FinishLemmas.{free-there, one-fits, ahead-fits}
use Rattle.sg_block_map.proofs.WriteLemmas.{writing-followed, done-last, ahead-below}
use Rattle.sg_block_map.proofs.write.put_range.Goals as goal

pub begin-front-requires-clause-ahead : goal.begin-front-requires-clause-ahead
begin-front-requires-clause-ahead c =
    let rs = c.args.table.now.records in
    let gathered = c.args.gathered.now in
    let p = c.args.pool.now in
    let g = c.requires.ready.gathered_runs in
    rw c.records-runs.ensures (gathered-ahead (take gathered.from rs) gathered.records
    (drop (end_index gathered) rs) p c.args.table.now.room
    (subst (λ zs. AreRuns zs p c.args.table.now.room) (sym g.same) c.requires.ready.runs))

pub begin-front-requires-clause-headroom : goal.begin-front-requires-clause-headroom
begin-front-requires-clause-headroom c =
    let p = c.args.pool.now in
    let few = gathered-blocks c.args.table.now.records c.args.gathered.now p c.args.table.now.room
    c.args.lba (c.args.lba + c.args.count)
    (max_capacity + 1) c.requires.ready.runs c.requires.ready.gathered_runs in
    rw c.records-runs.ensures (omega (
      arith,
      few,
      length-expanded p.next c.args.gathered.now.records,
      c.requires.ready.headroom,
      c.requires.ready.table_size,
    ))

pub loop-i-init : goal.loop-i-init
loop-i-init c =
    let rs = c.args.table.now.records in
    let gathered = c.args.gathered.now in
    let p = c.args.pool.now in
    let room = c.args.table.now.room in
    let lba = c.args.lba in
    let high = lba + c.args.count in
    let g = c.requires.ready.gathered_runs in
    let before : List Run = take gathered.from rs in
    let after : List Run = drop (end_index gathered) rs in
    let kept = c.begin-front.result.0 in
    let progress = c.begin-front.result.1 in
    let t = rw c.records-runs.ensures at c.begin-front.ensures.front in
    let front = t.0 in
    let more : List Run = ahead_of gathered.records progress.walk.run progress.walk.at in
    let all = subst (λ zs. AreRuns zs p room) (sym g.same) c.requires.ready.runs in
    let up = maximal-from after (any_from (high + 1)) (any_from (max_capacity + 1)) (any_from lba)
    (λ kind. omega arith) g.after in
    let now = c.begin-front.new.pool in
    let pool = c.begin-front.ensures.pool in
    let next = ap (λ (s : Slots). s.next) pool in
    let whole : List Run = before ++ (gathered.records ++ after) in
    let begins = subst (λ (parts : Option Run × Run).
    (expanded p.next ((before ++ option_to_list parts.0) ++ parts.1 ∷ (more ++ after))
    ≡ expanded p.next whole)
    × IsWriting (before ++ option_to_list parts.0) parts.1 (more ++ after) p lba) (sym t.2)
    (begin-range before gathered.records after more p lba high room all g.before up g.near c.kind.result front
    t.1) in
    let xs : List Run = before ++ option_to_list kept in
    let same : expanded now.next (xs ++ progress.done ∷ (more ++ after)) ≡ expanded p.next rs
    = ap (λ ns. expanded ns (xs ++ progress.done ∷ (more ++ after))) next ∙ begins.0
    ∙ ap (expanded p.next) g.same in
    record {
      writing = rw add-zero (writing-followed xs progress.done
          (more ++ after) p now lba (now.links - p.links) pool begins.1);
      contents = ap₂ contents_of same (ap (λ (s : Slots). s.blocks) pool)
          ∙ sym (remapped-none (chained_contents rs p) c.args.lba
          (mapping_for c.args.content.now));
      keeps = λ q seen e. ap (λ zs. map.get (slot_numbers zs) q) same ∙ e;
      near = walk_from-near p.next gathered.records more lba high front (omega arith) g.near t.1;
      start = subst (λ (parts : Option Run × Run). parts.1.start ≤ lba) (sym t.2)
          (walk_from-start p.next gathered.records more lba c.kind.result front t.1);
      kind = subst (λ (parts : Option Run × Run). parts.1.kind ≡ c.kind.result) (sym t.2)
          (walk_from-kind c.kind.result front lba) ∙ c.kind.ensures;
      length = ap length next;
      rise = c.begin-front.ensures.rise;
      links = omega (arith, t.3, walk_from-blocks p.next gathered.records more lba front t.1);
    }

pub put_address-progress-requires-clause-free : goal.put_address-progress-requires-clause-free
put_address-progress-requires-clause-free c =
    let rs = c.args.table.now.records in
    let gathered = c.args.gathered.now in
    let p = c.args.pool.now in
    let inv = c.loop-i.invariant in
    let i = c.loop-i.i in
    let high = c.args.lba + c.args.count in
    let g = c.requires.ready.gathered_runs in
    let after : List Run = drop (end_index gathered) rs in
    let w = c.loop-i.progress.walk in
    let here : c.args.lba + c.from.result ≡ c.args.lba + i =
    ap (λ x. c.args.lba + x) c.from.ensures in
    let up = maximal-from after (any_from (high + 1)) (any_from (max_capacity + 1))
    (any_from (c.args.lba + i + 1)) (λ kind. omega arith) g.after in
    let len : c.args.table.now.room ≡ length c.loop-i.pool.next =
    sym (inv.length ∙ c.requires.ready.runs.links) in
    let consistent = rw len at c.requires.ready.runs.consistent in
    rw here (λ none. free-there (take gathered.from rs ++ option_to_list c.begin-front.result.0)
    after gathered.records
    c.loop-i.progress.done w.run w.at c.args.lba i c.args.count p c.loop-i.pool rs
    (mapping_for c.args.content.now) inv.writing up none
    consistent inv.contents c.loop-i-test.true
    c.requires.free)

pub put_address-progress-requires-clause-headroom : goal.put_address-progress-requires-clause-headroom
put_address-progress-requires-clause-headroom c =
    let inv = c.loop-i.invariant in
    let w = c.loop-i.progress.walk in
    let here : c.args.lba + c.from.result ≡ c.args.lba + c.loop-i.i =
    ap (λ x. c.args.lba + x) c.from.ensures in
    let fits = one-fits (take c.args.gathered.now.from c.args.table.now.records
    ++ option_to_list c.begin-front.result.0)
    (drop (end_index c.args.gathered.now) c.args.table.now.records) c.args.gathered.now.records
    c.loop-i.progress.done w.run w.at (c.args.lba + c.loop-i.i) c.loop-i.pool inv.writing
    (rw here at (put_address-progress-requires-clause-free c)) in
    let few = gathered-blocks c.args.table.now.records c.args.gathered.now c.args.pool.now
    c.args.table.now.room c.args.lba (c.args.lba + c.args.count)
    (max_capacity + 1) c.requires.ready.runs c.requires.ready.gathered_runs in (
      omega (arith, fits, inv.length, c.requires.ready.runs.links, c.requires.ready.table_size),
      omega (arith, few, inv.links, c.requires.ready.headroom, c.requires.ready.table_size),
    )

pub loop-i-preserved : goal.loop-i-preserved
loop-i-preserved c =
    let rs = c.args.table.now.records in
    let gathered = c.args.gathered.now in
    let p = c.args.pool.now in
    let inv = c.loop-i.invariant in
    let i = c.loop-i.i in
    let lba = c.args.lba in
    let high = lba + c.args.count in
    let g = c.requires.ready.gathered_runs in
    let before : List Run = take gathered.from rs ++ option_to_list c.begin-front.result.0 in
    let after : List Run = drop (end_index gathered) rs in
    let e = c.put_address-progress.ensures in
    let here : lba + c.from.result ≡ lba + i = ap (λ x. lba + x) c.from.ensures in
    let on : lba + i + 1 ≡ lba + (i + 1) = omega arith in
    let up = maximal-from after (any_from (high + 1)) (any_from (max_capacity + 1))
    (any_from (lba + i + 1)) (λ kind. omega arith) g.after in
    let puts = rw (c.records-runs.ensures, here) at e.puts in
    let put = puts before after inv.writing up in
    let goes = rw (c.records-runs.ensures, here) at e.goes_on in
    let links = rw c.records-runs.ensures at e.links in
    record {
      writing = rw on at put.writing;
      contents = put.contents
          ∙ rw inv.contents
          (sym (remapped-more (chained_contents rs p) lba i
          (mapping_for c.args.content.now)));
      keeps = λ q seen f. put.keeps q seen (inv.keeps q seen f);
      near = goes.near high (omega arith) inv.near;
      start = omega (arith, inv.start, goes.start);
      kind = goes.kind ∙ inv.kind;
      length = goes.slots ∙ inv.length;
      rise = omega (arith, inv.rise, links.links_rise);
      links = omega (arith, inv.links, links.most_links);
    }

pub finish-back-requires-clause-slot : goal.finish-back-requires-clause-slot
finish-back-requires-clause-slot c = λ pos. (done-last _ _ _ _ _ c.loop-i.invariant.writing pos).0

pub finish-back-requires-clause-used : goal.finish-back-requires-clause-used
finish-back-requires-clause-used c = λ pos. (done-last _ _ _ _ _ c.loop-i.invariant.writing pos).1

pub finish-back-requires-clause-ahead : goal.finish-back-requires-clause-ahead
finish-back-requires-clause-ahead c =
    let gathered = c.args.gathered.now in
    let w = c.loop-i.progress.walk in
    ahead-below (take gathered.from c.args.table.now.records ++ option_to_list c.begin-front.result.0)
    (drop (end_index gathered) c.args.table.now.records) gathered.records c.loop-i.progress.done
    w.run w.at (c.args.lba + c.loop-i.i) c.loop-i.pool c.loop-i.invariant.writing

pub finish-back-requires-clause-fits : goal.finish-back-requires-clause-fits
finish-back-requires-clause-fits c =
    let rs = c.args.table.now.records in
    let gathered = c.args.gathered.now in
    let inv = c.loop-i.invariant in
    let w = c.loop-i.progress.walk in
    ahead-fits (take gathered.from rs ++ option_to_list c.begin-front.result.0)
    (drop (end_index gathered) rs) gathered.records
    c.loop-i.progress.done w.run w.at (c.args.lba + c.loop-i.i) c.loop-i.pool inv.writing
    (omega (arith, inv.length, c.requires.ready.runs.links, c.requires.ready.table_size))

pub put_parts-requires-clause-table_size : goal.put_parts-requires-clause-table_size
put_parts-requires-clause-table_size c =
    let fit = runs-fit c.args.table.now.records c.args.pool.now c.args.table.now.room
    c.requires.ready.runs in
    omega (arith, fit, c.requires.ready.table_size)

pub put_parts-requires-clause-room : goal.put_parts-requires-clause-room
put_parts-requires-clause-room c =
    let rs = c.args.table.now.records in
    let gathered = c.args.gathered.now in
    let inv = c.loop-i.invariant in
    let g = c.requires.ready.gathered_runs in
    let room = c.args.table.now.room in
    let high = c.args.lba + c.args.count in
    let fs : List Run = option_to_list c.begin-front.result.0 in
    let bs : List Run = option_to_list c.finish-back.result.1 in
    let before : List Run = take gathered.from rs in
    let after : List Run = drop (end_index gathered) rs in
    let run = c.finish-back.result.0 in
    let w = c.loop-i.progress.walk in
    let done = c.loop-i.progress.done in
    let all : c.loop-i.i ≡ c.args.count = omega (arith, c.loop-i-test.false, c.loop-i.auto.i-end) in
    let writing = rw all at inv.writing in
    let some : 0 < done.count = omega (arith, writing.ends, inv.start, c.requires.range.0) in
    let final = (finished (before ++ fs) after gathered.records done run w.run
    c.finish-back.result.1 w.at high
    room c.loop-i.pool c.finish-back.new.pool writing inv.near c.finish-back.ensures some g.after
    (inv.length ∙ c.requires.ready.runs.links)).runs in
    let fit = runs-fit ((before ++ fs) ++ run ∷ (bs ++ after)) c.finish-back.new.pool room final in
    let a = length-append (before ++ fs) (run ∷ (bs ++ after)) in
    let a' = length-append before fs in
    let a'' = length-append bs after in
    let e' = length-append fs (run ∷ bs) in
    let within = g.within in
    let b = length-take-le gathered.from rs (omega arith) in
    let d = length-drop (end_index gathered) rs in
    let len = ap length c.records-runs.ensures in
    omega (arith, fit)

pub returns : goal.returns
returns c =
    let rs = c.args.table.now.records in
    let gathered = c.args.gathered.now in
    let inv = c.loop-i.invariant in
    let g = c.requires.ready.gathered_runs in
    let room = c.args.table.now.room in
    let high = c.args.lba + c.args.count in
    let fs : List Run = option_to_list c.begin-front.result.0 in
    let bs : List Run = option_to_list c.finish-back.result.1 in
    let before : List Run = take gathered.from rs in
    let after : List Run = drop (end_index gathered) rs in
    let run = c.finish-back.result.0 in
    let w = c.loop-i.progress.walk in
    let done = c.loop-i.progress.done in
    let all : c.loop-i.i ≡ c.args.count = omega (arith, c.loop-i-test.false, c.loop-i.auto.i-end) in
    let writing = rw all at inv.writing in
    let some : 0 < done.count = omega (arith, writing.ends, inv.start, c.requires.range.0) in
    let final = finished (before ++ fs) after gathered.records done run w.run
    c.finish-back.result.1 w.at high
    room c.loop-i.pool c.finish-back.new.pool writing inv.near c.finish-back.ensures some g.after
    (inv.length ∙ c.requires.ready.runs.links) in
    let records = ap (λ (t : Table). t.records) c.put_parts.ensures.table in
    let is : c.put_parts.new.table.records ≡ (before ++ fs) ++ run ∷ (bs ++ after) =
    records ∙ parts-shape before fs bs after run in
    record {
      contents = ap (λ zs. chained_contents zs c.finish-back.new.pool) is
          ∙ ap₂ contents_of final.expanded_same final.blocks
          ∙ rw all at inv.contents;
      keeps = λ q seen f. ap (λ zs. map.get (slot_numbers (expanded c.finish-back.new.pool.next zs)) q) is
          ∙ ap (λ zs. map.get (slot_numbers zs) q) final.expanded_same ∙ inv.keeps q seen f;
      table = record {
        runs = rw (is, ap (λ (t : Table). t.room) c.put_parts.ensures.table) final.runs;
        table = c.put_parts.ensures.table
            ∙ ap (λ (xs : List Run). record c.args.table.now {
              records = xs;
              moved = c.put_parts.new.table.moved;
            }) (sym records);
        moves = omega (arith, c.put_parts.ensures.moves);
      };
      links = record {
        links_rise = omega (arith, inv.rise, final.links);
        most_links = omega (arith, inv.links, final.links);
      };
    }
