use Rattle.std.proofs.Common.{◌≡◌, ℕ, ◌+◌, ◌-◌, ◌*◌, ◌≤◌, length, ap, ap₂, sym, ◌∙◌, arith, List}
use Rattle.std.proofs.Common.{◌++◌, take, drop, add-zero, length-append}
use Rattle.std.proofs.lemmas.List.{length-drop, length-take-le, take-append-le}
use Rattle.std.proofs.Math.Seq.{take-append-add}
use borrow.Rule.Slice.PartMut.{post_of, put_mid}
use Rattle.std.specs.FinMap as map
use Rattle.std.specs.Prelude.{option_to_list}
use Rattle.sg_store.specs.Disk.{block, data_in}
use Rattle.sg_pool.specs.MappedRecords.{mapping_in}
use Rattle.sg_pool.specs.Slots.{Slots}
use Rattle.sg_block_map.specs.Runs.{expanded, chained_contents}
use Rattle.sg_block_map.specs.Walking.{ahead_of}
use Rattle.sg_store.proofs.DiskLemmas.{blocks-none, blocks-more}
use Rattle.sg_block_map.proofs.ExpandedLemmas.{expanded-append}
use Rattle.sg_block_map.proofs.SplitLemmas.{followed-on}
use Rattle.sg_block_map.proofs.WalkLemmas.{walk_from-ahead, walk_from-parts, get-walk_from}
use Rattle.sg_block_map.proofs.read.read_runs.Goals as goal

-- the part before a write, and the first of the written
take-written : (a k n m : ℕ) (xs ys : List ℕ) → m ≡ a + n → a ≤ length xs → n ≤ length ys
    → take m (put_mid a k xs ys) ≡ take a xs ++ take n ys
take-written a k n m xs ys e le room =
    let front = length-take-le a xs le in
    let at : m ≡ length (take a xs) + n = omega arith in
    ap (λ j. take j (put_mid a k xs ys)) at
    ∙ take-append-add (take a xs) (ys ++ post_of a k xs) n
    ∙ ap (λ zs. take a xs ++ zs) (take-append-le n ys (post_of a k xs) room)

pub loop-i-init : goal.loop-i-init
loop-i-init c =
    let p = c.args.pool.now in
    let runs = c.args.runs.now in
    let t = c.walk_from-before.ensures.walk in
    let w = c.walk_from-before.result.1 in
    let more = ahead_of runs w.run w.at in
    let fs = option_to_list c.walk_from-before.result.0 in
    let len = ap length (sym (walk_from-parts p.next runs c.args.lba c.walk_from-before.result.0
    more t) ∙ expanded-append p.next fs more)
    ∙ length-append (expanded p.next fs) (expanded p.next more) in
    record {
      ahead = rw add-zero (walk_from-ahead p.next (length p.next) runs c.args.lba
          (c.args.lba + c.args.count) c.walk_from-before.result.0 more c.requires.ahead
          c.requires.near (omega (arith, c.requires.range)) t);
      bytes = sym (blocks-none (chained_contents runs p) c.args.lba);
      later = λ q le. sym (get-walk_from p.next runs c.args.lba
          (c.args.lba + c.args.count) q c.walk_from-before.result.0 more (mapping_in p.blocks) t
          (omega arith));
      pool = c.walk_from-before.ensures.links.pool;
      rise = c.walk_from-before.ensures.links.follows.links_rise;
      links = omega (arith, len, c.walk_from-before.ensures.links.follows.most_links);
    }

pub loop-i-preserved : goal.loop-i-preserved
loop-i-preserved c =
    let p = c.args.pool.now in
    let runs = c.args.runs.now in
    let inv = c.loop-i.invariant in
    let i = c.loop-i.i in
    let e = c.read_address-walk.ensures in
    let w = c.loop-i.walk in
    let read = c.read_address-walk.new.bytes in
    let next = ap (λ (s : Slots). s.next) inv.pool in
    let bs = ap (λ (s : Slots). s.blocks) inv.pool in
    let here : c.args.lba + c.from.result ≡ c.args.lba + i =
    ap (λ x. c.args.lba + x) c.from.ensures in
    let on : c.args.lba + i + 1 ≡ c.args.lba + (i + 1) = omega arith in
    let rest = length c.loop-i.bytes - 512 * i in
    let room : 512 ≤ length read = omega (
      arith,
      c.read_address-walk.auto.bytes,
      length-take-le rest (drop (512 * i) c.loop-i.bytes)
          (omega (arith, length-drop (512 * i) c.loop-i.bytes)),
      c.loop-i.auto.bytes,
      c.requires.byte_count,
    ) in
    let found : map.get (chained_contents (ahead_of runs w.run w.at) p) (c.args.lba + i) ≡
    map.get (chained_contents runs p) (c.args.lba + i) =
    inv.later (c.args.lba + i) (omega arith) in
    let block_read : take 512 read ≡ block (chained_contents runs p) (c.args.lba + i) =
    rw (next, bs, here) at e.bytes
    ∙ ap data_in found in
    let ahead = rw (next, here, on) at e.goes_past.still_ahead in
    let later = rw (next, bs, here, on) at e.goes_past.later in
    let links = rw next at e.links.follows.most_links in
    record {
      ahead = ahead;
      bytes = take-written (512 * i) rest 512 (512 * (i + 1)) c.loop-i.bytes read (omega arith)
          (omega (arith, c.loop-i.auto.bytes)) room
          ∙ ap₂ (λ xs ys. xs ++ ys) inv.bytes block_read
          ∙ sym (blocks-more (chained_contents runs p) c.args.lba i);
      later = λ q le. later q le ∙ inv.later q (omega arith);
      pool = followed-on p c.loop-i.pool c.read_address-walk.new.pool inv.pool inv.rise
          e.links.pool e.links.follows.links_rise;
      rise = omega (arith, inv.rise, e.links.follows.links_rise);
      links = omega (arith, links, inv.links);
    }
