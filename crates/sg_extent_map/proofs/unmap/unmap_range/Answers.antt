use Rattle.std.proofs.Common.{◌≡◌, ℕ, ◌+◌, ◌-◌, ◌<◌, ◌≤◌, List, [], ◌∷◌, ◌++◌, length, take, drop}
use Rattle.std.proofs.Common.{get_or}
use Rattle.std.proofs.Common.{arith, refl, ap, ap₂, sym, ◌∙◌, append_assoc, length-append}
use Rattle.std.proofs.Math.ListN.{drop_of_length-le}
use Rattle.std.proofs.Math.Seq.{take-length}
use Rattle.std.proofs.lemmas.List.Elements.{All-nil}
use Rattle.std.specs.List.{splice}
use Rattle.sg_store.specs.Disk.{max_capacity}
use Rattle.sg_pool.specs.MappedRecords.{contents_of, outside_records}
use Rattle.sg_pool.specs.Slots.{UnlinkedSlots}
use Rattle.sg_pool.proofs.MappedLemmas.{contents-unmapped}
use Rattle.sg_table.specs.Draft.{Drafted}
use Rattle.sg_table.specs.Table.{Table}
use Rattle.sg_table.specs.declared.run.Kind.TheVariants.{Data}
use Rattle.sg_table.specs.declared.run.Run.{Run}
use Rattle.sg_extent_map.specs.Drafting.{drafted}
use Rattle.sg_extent_map.specs.Extents.{singles, singles_of, IsExtent}
use Rattle.sg_extent_map.specs.Gathering.{end_index}
use Rattle.sg_extent_map.proofs.BetweenLemmas.{between-singles}
use Rattle.sg_extent_map.proofs.SinglesLemmas.{length-singles, singles-none}
use Rattle.sg_extent_map.proofs.UnmapLemmas.{run-there, nothing-drafted, outside-more}
use Rattle.sg_extent_map.proofs.UnmapLemmas.{outside-table}
use Rattle.sg_extent_map.proofs.UnmapLemmas.{cut-table, cut-outside, cut-consistent, cut-between}
use Rattle.sg_extent_map.proofs.UnmapLemmas.{own-slots, own-room, cut-maximal}
use Rattle.sg_extent_map.proofs.WriteLemmas.{gathered-ahead, singles-parts, splice-room}
use Rattle.sg_extent_map.proofs.unmap.unmap_range.Goals as goal

abbrev no_run : Run
no_run = record { start = 0; count = 0; first = 0; last = 0; kind = Data }

pub loop-i-init : goal.loop-i-init
loop-i-init c =
    let rs = c.args.table.now.records in
    let g = c.args.gathered.now in
    let r = c.requires.ready in
    let drafts = ap (λ (d : Drafted). d.records) c.requires.empty in
    let none : singles (drafted c.args.draft.now no_run) ≡ [] =
    ap (λ xs. singles (xs ++ no_run ∷ [])) drafts ∙ nothing-drafted no_run refl in
    let parts : singles (take g.from rs) ++ (singles (drafted c.args.draft.now no_run)
    ++ (singles g.records ++ singles (drop (end_index g) rs))) ≡ singles rs =
    ap (λ xs. singles (take g.from rs) ++ (xs ++ (singles g.records ++ singles (drop (end_index g) rs)))) none
    ∙ sym (ap singles (sym r.near.same) ∙ singles-parts (take g.from rs) g.records (drop (end_index g) rs)) in
    record {
      drafted = record {
        extents = rw drafts (All-nil (IsExtent c.args.table.now.room));
        part = λ some. absurd (omega arith);
      };
      maximal = record { maximal = λ some. absurd (omega arith); none = λ _. drafts };
      longer = omega (arith, ap length drafts);
      consistent = rw parts r.extents.consistent;
      between = rw parts (between-singles rs 0 max_capacity r.extents.apart);
      outside = none ∙ sym (ap (λ xs. outside_records xs c.args.low (c.args.high - c.args.low))
          singles-none);
      blocks = refl;
      room = refl;
    }

pub unmap_run-done-requires-clause-extent : goal.unmap_run-done-requires-clause-extent
unmap_run-done-requires-clause-extent c =
    let rs = c.args.table.now.records in
    let room = c.args.table.now.room in
    let g = c.args.gathered.now in
    let r = c.requires.ready in
    let i = c.loop-i.i in
    let inv = c.loop-i.invariant in
    let lt : i < length g.records = rw c.records-runs.ensures at c.loop-i-test.true in
    let run : Run = get_or g.records i no_run in
    let same : get_or c.records-runs.result.now i no_run ≡ run =
    ap (λ xs. get_or xs i no_run) c.records-runs.ensures in
    let F : List Run = singles (take g.from rs) in
    let D : List Run = singles (drafted c.loop-i.draft c.loop-i.done) in
    let H : List Run = singles (drop (end_index g) rs) in
    let T : List Run = singles (drop (i + 1) g.records) ++ H in
    let whole = run-there F D H g.records i no_run lt in
    let consistent = rw whole at inv.consistent in
    let between = rw whole at inv.between in
    let each = (gathered-ahead rs g c.args.pool.now room c.args.low c.args.high r.extents r.near).extents in
    rw (c.records-runs.ensures, inv.consistent.pool) (each i no_run lt)

pub unmap_run-done-requires-clause-own : goal.unmap_run-done-requires-clause-own
unmap_run-done-requires-clause-own c =
    let rs = c.args.table.now.records in
    let room = c.args.table.now.room in
    let g = c.args.gathered.now in
    let r = c.requires.ready in
    let i = c.loop-i.i in
    let inv = c.loop-i.invariant in
    let lt : i < length g.records = rw c.records-runs.ensures at c.loop-i-test.true in
    let run : Run = get_or g.records i no_run in
    let same : get_or c.records-runs.result.now i no_run ≡ run =
    ap (λ xs. get_or xs i no_run) c.records-runs.ensures in
    let F : List Run = singles (take g.from rs) in
    let D : List Run = singles (drafted c.loop-i.draft c.loop-i.done) in
    let H : List Run = singles (drop (end_index g) rs) in
    let T : List Run = singles (drop (i + 1) g.records) ++ H in
    let whole = run-there F D H g.records i no_run lt in
    let consistent = rw whole at inv.consistent in
    let between = rw whole at inv.between in
    let apart = sym (append_assoc F D (singles_of run ++ T)) in
    let here = rw apart at consistent in
    rw same (own-slots (F ++ D) T run c.loop-i.pool.blocks c.loop-i.pool.free room here)

pub unmap_run-done-requires-clause-slots : goal.unmap_run-done-requires-clause-slots
unmap_run-done-requires-clause-slots c =
    let rs = c.args.table.now.records in
    let room = c.args.table.now.room in
    let g = c.args.gathered.now in
    let r = c.requires.ready in
    let i = c.loop-i.i in
    let inv = c.loop-i.invariant in
    let lt : i < length g.records = rw c.records-runs.ensures at c.loop-i-test.true in
    let run : Run = get_or g.records i no_run in
    let same : get_or c.records-runs.result.now i no_run ≡ run =
    ap (λ xs. get_or xs i no_run) c.records-runs.ensures in
    let F : List Run = singles (take g.from rs) in
    let D : List Run = singles (drafted c.loop-i.draft c.loop-i.done) in
    let H : List Run = singles (drop (end_index g) rs) in
    let T : List Run = singles (drop (i + 1) g.records) ++ H in
    let whole = run-there F D H g.records i no_run lt in
    let consistent = rw whole at inv.consistent in
    let between = rw whole at inv.between in
    let apart = sym (append_assoc F D (singles_of run ++ T)) in
    let here = rw apart at consistent in
    let fits = own-room (F ++ D) T run c.loop-i.pool.blocks c.loop-i.pool.free room here in
    rw same (omega (arith, fits, inv.consistent.pool))

pub unmap_run-done-requires-clause-room : goal.unmap_run-done-requires-clause-room
unmap_run-done-requires-clause-room c =
    let rs = c.args.table.now.records in
    let room = c.args.table.now.room in
    let g = c.args.gathered.now in
    let r = c.requires.ready in
    let i = c.loop-i.i in
    let inv = c.loop-i.invariant in
    let lt : i < length g.records = rw c.records-runs.ensures at c.loop-i-test.true in
    let run : Run = get_or g.records i no_run in
    let same : get_or c.records-runs.result.now i no_run ≡ run =
    ap (λ xs. get_or xs i no_run) c.records-runs.ensures in
    let F : List Run = singles (take g.from rs) in
    let D : List Run = singles (drafted c.loop-i.draft c.loop-i.done) in
    let H : List Run = singles (drop (end_index g) rs) in
    let T : List Run = singles (drop (i + 1) g.records) ++ H in
    let whole = run-there F D H g.records i no_run lt in
    let consistent = rw whole at inv.consistent in
    let between = rw whole at inv.between in
    let apart = sym (append_assoc F D (singles_of run ++ T)) in
    let here = rw apart at consistent in
    let fits = own-room (F ++ D) T run c.loop-i.pool.blocks c.loop-i.pool.free room here in
    let len = length-append F D in
    rw same (omega (arith, fits, inv.room, ap (λ (d : Drafted). d.room) c.requires.empty))

pub loop-i-preserved : goal.loop-i-preserved
loop-i-preserved c =
    let rs = c.args.table.now.records in
    let room = c.args.table.now.room in
    let g = c.args.gathered.now in
    let r = c.requires.ready in
    let i = c.loop-i.i in
    let inv = c.loop-i.invariant in
    let lt : i < length g.records = rw c.records-runs.ensures at c.loop-i-test.true in
    let run : Run = get_or g.records i no_run in
    let same : get_or c.records-runs.result.now i no_run ≡ run =
    ap (λ xs. get_or xs i no_run) c.records-runs.ensures in
    let F : List Run = singles (take g.from rs) in
    let D : List Run = singles (drafted c.loop-i.draft c.loop-i.done) in
    let H : List Run = singles (drop (end_index g) rs) in
    let T : List Run = singles (drop (i + 1) g.records) ++ H in
    let whole = run-there F D H g.records i no_run lt in
    let consistent = rw whole at inv.consistent in
    let between = rw whole at inv.between in
    let cut = rw same at c.unmap_run-done.ensures in
    let le = c.requires.order in
    let each = (gathered-ahead rs g c.args.pool.now room c.args.low c.args.high r.extents r.near).extents in
    record {
      drafted = cut.extents room inv.drafted (each i no_run lt);
      maximal = cut.maximal inv.maximal;
      longer = omega (arith, inv.longer, cut.longer);
      consistent = cut-consistent cut le F T room consistent between;
      between = cut-between cut le F T room consistent between;
      outside = outside-more g.records D _ i c.args.low (c.args.high - c.args.low) no_run _ lt inv.outside
          (cut-outside cut le) cut.addresses;
      blocks = ap (λ (s : UnlinkedSlots). s.blocks) cut.gives.pool ∙ inv.blocks;
      room = ap (λ (d : Drafted). d.room) cut.only ∙ inv.room;
    }

pub put_runs-requires-clause-table_size : goal.put_runs-requires-clause-table_size
put_runs-requires-clause-table_size c =
    let h = c.requires.ready.extents in
    let few = length-singles c.args.table.now.room c.args.table.now.records h.extents in
    omega (arith, few, h.consistent.count, c.requires.ready.table_size)

pub put_runs-requires-clause-room : goal.put_runs-requires-clause-room
put_runs-requires-clause-room c =
    let rs = c.args.table.now.records in
    let room = c.args.table.now.room in
    let g = c.args.gathered.now in
    let r = c.requires.ready in
    let i = c.loop-i.i in
    let inv = c.loop-i.invariant in
    let ds : List Run = c.close.new.draft.records in
    let F : List Run = singles (take g.from rs) in
    let D : List Run = singles (drafted c.loop-i.draft c.loop-i.done) in
    let H : List Run = singles (drop (end_index g) rs) in
    let end : length g.records ≤ i =
    omega (arith, c.loop-i-test.false, c.loop-i.auto.i-end, ap length c.records-runs.ensures) in
    let none = ap singles (drop_of_length-le g.records end) ∙ singles-none in
    let all : F ++ (D ++ (singles (drop i g.records) ++ H)) ≡ F ++ (D ++ H) =
    ap (λ xs. F ++ (D ++ (xs ++ H))) none in
    let is : i ≡ length g.records = omega (
      arith,
      end,
      c.loop-i.auto.i-end,
      ap length c.records-runs.ensures,
    ) in
    let full = ap (λ n. take n g.records) is ∙ take-length g.records in
    let left : singles ds ≡ outside_records (singles g.records) c.args.low
    (c.args.high - c.args.low) =
    c.close.ensures.addresses ∙ inv.outside
    ∙ ap (λ xs. outside_records (singles xs) c.args.low (c.args.high - c.args.low)) full in
    let maximal = cut-maximal rs ds g c.args.pool.now room c.args.low c.args.high r.extents r.near
    c.requires.order (c.close.ensures.extents room inv.drafted) (c.close.ensures.maximal inv.maximal)
    left in
    let new = cut-table rs ds D c.loop-i.pool g.from (end_index g) room c.close.ensures.addresses
    (rw all at inv.consistent) (rw all at inv.between) r.extents.extents
    (c.close.ensures.extents room inv.drafted) maximal in
    let fits = splice-room rs ds g c.loop-i.pool.blocks c.loop-i.pool.free room r.near.within
    new.extents new.consistent in
    omega (arith, fits, ap length c.records.ensures)

pub returns-clause-contents : goal.returns-clause-contents
returns-clause-contents c =
    let rs = c.args.table.now.records in
    let room = c.args.table.now.room in
    let g = c.args.gathered.now in
    let r = c.requires.ready in
    let i = c.loop-i.i in
    let inv = c.loop-i.invariant in
    let ds : List Run = c.close.new.draft.records in
    let F : List Run = singles (take g.from rs) in
    let D : List Run = singles (drafted c.loop-i.draft c.loop-i.done) in
    let H : List Run = singles (drop (end_index g) rs) in
    let end : length g.records ≤ i =
    omega (arith, c.loop-i-test.false, c.loop-i.auto.i-end, ap length c.records-runs.ensures) in
    let none = ap singles (drop_of_length-le g.records end) ∙ singles-none in
    let all : F ++ (D ++ (singles (drop i g.records) ++ H)) ≡ F ++ (D ++ H) =
    ap (λ xs. F ++ (D ++ (xs ++ H))) none in
    let is : i ≡ length g.records = omega (
      arith,
      end,
      c.loop-i.auto.i-end,
      ap length c.records-runs.ensures,
    ) in
    let full = ap (λ n. take n g.records) is ∙ take-length g.records in
    let left : singles ds ≡ outside_records (singles g.records) c.args.low
    (c.args.high - c.args.low) =
    c.close.ensures.addresses ∙ inv.outside
    ∙ ap (λ xs. outside_records (singles xs) c.args.low (c.args.high - c.args.low)) full in
    let maximal = cut-maximal rs ds g c.args.pool.now room c.args.low c.args.high r.extents r.near
    c.requires.order (c.close.ensures.extents room inv.drafted) (c.close.ensures.maximal inv.maximal)
    left in
    let new = cut-table rs ds D c.loop-i.pool g.from (end_index g) room c.close.ensures.addresses
    (rw all at inv.consistent) (rw all at inv.between) r.extents.extents
    (c.close.ensures.extents room inv.drafted) maximal in
    let k : ℕ = c.args.high - c.args.low in
    let now = ap (λ (t : Table). t.records) c.put_runs.ensures.table
    ∙ ap (splice rs g.from (end_index g)) c.records.ensures in
    ap₂ (λ zs bs. contents_of (singles zs) bs) now inv.blocks
    ∙ ap (λ zs. contents_of zs c.args.pool.now.blocks)
    (singles-parts (take g.from rs) ds (drop (end_index g) rs) ∙ ap (λ xs. F ++ (xs ++ H)) left
    ∙ sym (outside-table rs g c.args.low c.args.high r.near c.requires.order))
    ∙ contents-unmapped (singles rs) c.args.pool.now.blocks c.args.low k

pub returns-clause-changes : goal.returns-clause-changes
returns-clause-changes c =
    let rs = c.args.table.now.records in
    let room = c.args.table.now.room in
    let g = c.args.gathered.now in
    let r = c.requires.ready in
    let i = c.loop-i.i in
    let inv = c.loop-i.invariant in
    let ds : List Run = c.close.new.draft.records in
    let F : List Run = singles (take g.from rs) in
    let D : List Run = singles (drafted c.loop-i.draft c.loop-i.done) in
    let H : List Run = singles (drop (end_index g) rs) in
    let end : length g.records ≤ i =
    omega (arith, c.loop-i-test.false, c.loop-i.auto.i-end, ap length c.records-runs.ensures) in
    let none = ap singles (drop_of_length-le g.records end) ∙ singles-none in
    let all : F ++ (D ++ (singles (drop i g.records) ++ H)) ≡ F ++ (D ++ H) =
    ap (λ xs. F ++ (D ++ (xs ++ H))) none in
    let is : i ≡ length g.records = omega (
      arith,
      end,
      c.loop-i.auto.i-end,
      ap length c.records-runs.ensures,
    ) in
    let full = ap (λ n. take n g.records) is ∙ take-length g.records in
    let left : singles ds ≡ outside_records (singles g.records) c.args.low
    (c.args.high - c.args.low) =
    c.close.ensures.addresses ∙ inv.outside
    ∙ ap (λ xs. outside_records (singles xs) c.args.low (c.args.high - c.args.low)) full in
    let maximal = cut-maximal rs ds g c.args.pool.now room c.args.low c.args.high r.extents r.near
    c.requires.order (c.close.ensures.extents room inv.drafted) (c.close.ensures.maximal inv.maximal)
    left in
    let new = cut-table rs ds D c.loop-i.pool g.from (end_index g) room c.close.ensures.addresses
    (rw all at inv.consistent) (rw all at inv.between) r.extents.extents
    (c.close.ensures.extents room inv.drafted) maximal in
    let now = ap (λ (t : Table). t.records) c.put_runs.ensures.table
    ∙ ap (splice rs g.from (end_index g)) c.records.ensures in
    let size = ap (λ (t : Table). t.room) c.put_runs.ensures.table in
    let moves = c.put_runs.ensures.moves in
    record {
      moves = omega (arith, moves, ap length c.records.ensures, c.close.ensures.longer, inv.longer, is);
      extents = rw (now, size) new;
      table = c.put_runs.ensures.table ∙ rw now (ap (λ zs. record c.args.table.now {
        records = splice rs g.from (end_index g) zs;
        moved = c.put_runs.new.table.moved;
      }) c.records.ensures);
    }
