use Rattle.std.proofs.Common.{◌≡◌, ℕ, ◌+◌, ◌-◌, ◌++◌, arith, ap, ap₂, sym, ◌∙◌, length}
use Rattle.std.proofs.Common.{append_assoc}
use Rattle.std.proofs.Common.{length-append}
use Rattle.sg_table.specs.Draft.{Drafted}
use Rattle.sg_extent_map.specs.Drafting.{drafted}
use Rattle.sg_extent_map.specs.Extents.{singles, singles_of, part_of}
use Rattle.sg_extent_map.proofs.SinglesLemmas.{length-from}
use Rattle.sg_extent_map.proofs.WalkLemmas.{extent-part, extent-weaker}
use Rattle.sg_extent_map.proofs.unmap.unmap_run.Goals as goal

pub append-requires-clause-drafted : goal.append-requires-clause-drafted
append-requires-clause-drafted c =
    let run = c.args.run in
    let n : ℕ = c.min.result - run.start in
    let size = c.requires.size in
    let extent = extent-weaker (length c.args.pool.now.blocks) 4294967295 run (omega arith)
    c.requires.extent in
    c.append-done.ensures.extents 4294967295 c.requires.drafted (rw c.part.ensures
    (extent-part 4294967295 run 0 n extent (omega (arith, c.min.ensures))))

pub append-requires-clause-room : goal.append-requires-clause-room
append-requires-clause-room c =
    let run = c.args.run in
    let n : ℕ = c.min.result - run.start in
    let len = ap length c.append-done.ensures.addresses
    ∙ length-append (singles (drafted c.args.draft.now c.args.done)) (singles_of c.part.result) in
    let one = length-from c.part.result.start c.part.result.first c.part.result.count c.part.result.kind in
    let count = ap (λ r. r.count) c.part.ensures in
    let room = ap (λ (d : Drafted). d.room) c.append-done.ensures.only in
    omega (arith, len, one, count, room, c.requires.room, c.min.ensures)

pub returns : goal.returns
returns c =
    let run = c.args.run in
    let n : ℕ = c.min.result - run.start in
    let k : ℕ = c.min-2.result - run.start in
    let extent = c.requires.extent in
    let order = c.requires.order in
    let low = c.min.ensures in
    let high = c.min-2.ensures in
    let low' = c.max.ensures in
    let high' = c.max-2.ensures in
    let from = c.from.ensures in
    let upto : n + (k - n) ≡ k = omega arith in
    let a = c.append-done.ensures in
    let b = c.append.ensures in
    let D = singles (drafted c.args.draft.now c.args.done) in
    record {
      before = n;
      inside = k - n;
      fits = omega arith;
      front = λ some. omega arith;
      gone = λ some. (omega arith, omega arith);
      back = λ some. omega arith;
      addresses = b.addresses ∙ ap₂ (λ xs r. xs ++ singles_of r) (a.addresses
          ∙ ap (λ r. D ++ singles_of r) c.part.ensures) c.part-2.ensures
          ∙ append_assoc D (singles_of (part_of run 0 n)) (singles_of (part_of run k (run.count - k)))
          ∙ ap (λ j. D ++ (singles_of (part_of run 0 n) ++ singles_of (part_of run j (run.count - j))))
          (sym upto);
      extents = λ pool h e. b.extents pool (a.extents pool h (rw c.part.ensures
          (extent-part pool run 0 n e (omega arith)))) (rw c.part-2.ensures
          (extent-part pool run k (run.count - k) e (omega arith)));
      maximal = λ h. b.maximal (a.maximal h);
      longer = omega (arith, a.longer, b.longer);
      only = b.only ∙ ap (λ (d : Drafted). record d { records = c.append.new.draft.records }) a.only;
      gives = c.give_slots.ensures;
    }
