use Rattle.std.proofs.Common.{◌≡◌, ◌+◌, length, take, Some, ap, subst, sym, ◌∙◌, arith}
use Rattle.std.proofs.lemmas.List.{length-take-le, take_at}
use Rattle.std.specs.FinMap as map
use Rattle.sg_store.specs.Disk.{data_in}
use Rattle.sg_store.proofs.DiskLemmas.{zeros}
use Rattle.sg_pool.specs.MappedRecords.{mapping_in, contents_of}
use Rattle.sg_pool.specs.Slots.{Slots}
use Rattle.sg_block_map.specs.Runs.{expanded}
use Rattle.sg_block_map.specs.Walking.{ahead_of, AreAhead}
use Rattle.sg_block_map.proofs.WalkLemmas.{ahead-slot, first-slot, first-block, first-ahead}
use Rattle.sg_block_map.proofs.WalkLemmas.{first-later, first-length, skip-block}
use Rattle.sg_block_map.proofs.read.read_address.Goals as goal

pub returns-in_default-clause-bytes : goal.returns-in_default-clause-bytes
returns-in_default-clause-bytes c =
    let p = c.args.pool.now in
    let w = c.args.walk in
    let none = skip-block p.next (length p.next) c.args.lba w.at c.args.runs.now w.run
    (mapping_in p.blocks) c.requires.ahead c.requires.range (sym c.run_at.ensures ∙ c.in_default.is) in
    let front : length (take 512 c.args.bytes.now) ≡ 512 =
    length-take-le 512 c.args.bytes.now c.requires.byte_count in
    take_at c.fill.new.self _ 512 (c.fill.ensures.len ∙ front)
    ∙ zeros _ _ front (c.fill.ensures.after (λ y e. e))
    ∙ sym (ap data_in none)

pub pass-ahead-requires-clause-slot : goal.pass-ahead-requires-clause-slot
pass-ahead-requires-clause-slot c =
    let p = c.args.pool.now in
    let w = c.args.walk in
    first-slot p.next (length p.next) c.args.lba w.at c.args.runs.now w.run c.in-Some.run'
    c.requires.ahead (sym c.run_at.ensures ∙ c.in-Some.is)

pub begin_next-requires : goal.begin_next-requires
begin_next-requires c =
    let p = c.args.pool.now in
    let w = c.args.walk in
    let next = c.pass-ahead.result in
    let ahead : AreAhead p.next (length p.next) (c.args.lba + 1) (ahead_of c.args.runs.now next.run
    next.at) = rw c.pass-ahead.ensures.ahead (first-ahead p.next (length p.next) c.args.lba w.at
    c.args.runs.now w.run c.in-Some.run' c.requires.ahead (sym c.run_at.ensures ∙ c.in-Some.is)) in
    let same : length p.next ≡ length c.pass-ahead.new.pool.blocks = sym (ap (λ (s : Slots). length
    s.blocks) c.pass-ahead.ensures.links.pool ∙ c.requires.pool) in
    let moved = subst (λ n. AreAhead p.next n (c.args.lba + 1) (ahead_of c.args.runs.now next.run next.at))
    same ahead in
    record {
      slot = ahead-slot p.next (length c.pass-ahead.new.pool.blocks) (c.args.lba + 1) next.at
          c.args.runs.now next.run moved;
    }

pub slice_bounds-read_first-end-2 : goal.slice_bounds-read_first-end-2
slice_bounds-read_first-end-2 c =
    sym (length-take-le 512 c.begin_next.new.bytes
    (omega (arith, c.begin_next.auto.bytes, c.requires.byte_count)))

pub read_first-requires-clause-byte_count : goal.read_first-requires-clause-byte_count
read_first-requires-clause-byte_count c =
    length-take-le 512 c.begin_next.new.bytes
    (omega (arith, c.begin_next.auto.bytes, c.requires.byte_count))

pub read_first-requires-clause-slot : goal.read_first-requires-clause-slot
read_first-requires-clause-slot c =
    let p = c.args.pool.now in
    let w = c.args.walk in
    let slot = first-slot p.next (length p.next) c.args.lba w.at c.args.runs.now w.run
    c.in-Some.run' c.requires.ahead (sym c.run_at.ensures ∙ c.in-Some.is) in
    let same = ap (λ (s : Slots). length s.blocks) c.pass-ahead.ensures.links.pool in
    omega (arith, slot, same, c.requires.pool)

pub returns-clause-bytes : goal.returns-clause-bytes
returns-clause-bytes c =
    let p = c.args.pool.now in
    let w = c.args.walk in
    let run = c.in-Some.run' in
    let front = length-take-le 512 c.begin_next.new.bytes
    (omega (arith, c.begin_next.auto.bytes, c.requires.byte_count)) in
    take_at c.read_first.new.bytes _ 512 (c.read_first.auto.bytes ∙ front)
    ∙ c.read_first.ensures
    ∙ ap (λ (s : Slots). data_in (Some (mapping_in s.blocks run.first run.kind)))
    c.pass-ahead.ensures.links.pool
    ∙ sym (first-block p.next (length p.next) c.args.lba w.at c.args.runs.now w.run run
    c.requires.ahead (sym c.run_at.ensures ∙ c.in-Some.is) (mapping_in p.blocks))

pub returns-clause-goes_past : goal.returns-clause-goes_past
returns-clause-goes_past c =
    let p = c.args.pool.now in
    let w = c.args.walk in
    let is = sym c.run_at.ensures ∙ c.in-Some.is in
    record {
      still_ahead = rw c.pass-ahead.ensures.ahead (first-ahead p.next (length p.next) c.args.lba w.at
          c.args.runs.now w.run c.in-Some.run' c.requires.ahead is);
      later = λ q le. ap (λ xs. map.get (contents_of (expanded p.next xs) p.blocks) q)
          c.pass-ahead.ensures.ahead
          ∙ first-later p.next (length p.next) c.args.lba w.at c.args.runs.now w.run
          c.in-Some.run' c.requires.ahead is (mapping_in p.blocks) q le;
    }

pub returns-clause-links : goal.returns-clause-links
returns-clause-links c =
    let p = c.args.pool.now in
    let w = c.args.walk in
    let len = first-length p.next (length p.next) c.args.lba w.at c.args.runs.now w.run
    c.in-Some.run' c.requires.ahead (sym c.run_at.ensures ∙ c.in-Some.is) in
    let same = ap (λ xs. length (expanded p.next xs)) c.pass-ahead.ensures.ahead in
    record {
      pool = c.pass-ahead.ensures.links.pool;
      follows = record {
        links_rise = c.pass-ahead.ensures.links.follows.links_rise;
        most_links = omega (arith, len, same, c.pass-ahead.ensures.links.follows.most_links);
      };
    }
