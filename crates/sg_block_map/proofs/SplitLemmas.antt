-- Runs that are split.
use Rattle.std.proofs.Common.{◌≡◌, ℕ, ◌+◌, ◌-◌, ◌<◌, ◌≤◌, List, [], ◌∷◌, ◌++◌, length, arith, refl}
use Rattle.std.proofs.Common.{sym, ap, ◌∙◌, Some, None}
use Rattle.std.proofs.lemmas.List.{append-nil}
use Rattle.sg_pool.specs.Chains.{slot_after, IsChain}
use Rattle.sg_pool.specs.Slots.{Slots, followed}
use Rattle.sg_table.specs.declared.run.Run.{Run}
use Rattle.sg_block_map.specs.Metering.{OnlyFollows}
use Rattle.sg_block_map.specs.Runs.{singles, singles_of, expanded}
use Rattle.sg_pool.specs.Rising.{end_of}
use Rattle.sg_block_map.specs.Splitting.{front_of, rest_of, IsSplit}
use Rattle.sg_pool.proofs.LinkLemmas.{slot_after-add}
use Rattle.sg_block_map.proofs.ExpandedLemmas.{expanded-more, expanded-none, singles-append}
use Rattle.sg_block_map.proofs.ExpandedLemmas.{length-singles}

pub expanded-one : (next : List ℕ) (run : Run) → expanded next (run ∷ []) ≡ singles_of next run
expanded-one next run = expanded-more next run []
    ∙ ap (λ xs. singles_of next run ++ xs) (expanded-none next) ∙ append-nil (singles_of next run)

-- the parts of a run
pub split-parts : (next : List ℕ) (run : Run) (n : ℕ) → n ≤ run.count
    → singles_of next (front_of next run n) ++ singles_of next (rest_of next run n) ≡
    singles_of next run
split-parts next run n le =
    let e : n + (run.count - n) ≡ run.count = omega arith in
    sym (ap (λ k. singles next run.start run.first k run.kind) (sym e)
    ∙ singles-append next run.start run.first n (run.count - n) run.kind)

pub rest-chain : (next : List ℕ) (run : Run) (n : ℕ) → n < run.count
    → IsChain next run.first run.last run.count → let rest = rest_of next run n in
    IsChain next rest.first rest.last rest.count
rest-chain next run n lt is =
    let e : n + (run.count - n - 1) ≡ run.count - 1 = omega arith in
    record {
      not_empty = omega arith;
      ends = is.ends ∙ ap (slot_after next run.first) (sym e)
          ∙ slot_after-add next run.first n (run.count - n - 1);
    }

pub is_split-none : (next : List ℕ) (run : Run) (lba : ℕ) → lba ≤ run.start
    → IsChain next run.first run.last run.count → IsSplit next run lba None (Some run)
is_split-none next run lba le is = record {
  parts = expanded-one next run;
  chained = (is, tt);
  before = tt;
  after = (omega arith, le, refl, omega arith, refl);
}

pub is_split-all : (next : List ℕ) (run : Run) (lba : ℕ) → run.start < lba → end_of run ≤ lba
    → IsChain next run.first run.last run.count → IsSplit next run lba (Some run) None
is_split-all next run lba lt le is = record {
  parts = expanded-one next run;
  chained = (is, tt);
  before = (refl, omega arith, lt, refl);
  after = tt;
}

pub is_split-both : (next : List ℕ) (run : Run) (lba : ℕ) → run.start < lba → lba < end_of run
    → IsChain next run.first run.last run.count
    → IsSplit next run lba (Some (front_of next run (lba - run.start)))
    (Some (rest_of next run (lba - run.start)))
is_split-both next run lba l r is =
    let n = lba - run.start in
    record {
      parts = expanded-more next (front_of next run n) (rest_of next run n ∷ [])
          ∙ ap (λ xs. singles_of next (front_of next run n) ++ xs)
          (expanded-one next (rest_of next run n)) ∙ split-parts next run n (omega arith);
      chained = (
        record { not_empty = omega arith; ends = refl },
        (rest-chain next run n (omega arith) is, tt),
      );
      before = (refl, omega arith, omega arith, refl);
      after = (omega arith, omega arith, omega arith, omega arith, refl);
    }

pub length-one : (next : List ℕ) (run : Run) → length (expanded next (run ∷ [])) ≡ run.count
length-one next run = ap length (expanded-one next run)
    ∙ length-singles next run.start run.first run.count run.kind

-- links that are followed after others
pub followed-more : (slots : Slots) (n m : ℕ)
    → followed (followed slots n) m ≡ followed slots (n + m)
followed-more slots n m = let e : slots.links + n + m ≡ slots.links + (n + m) = omega arith in
    ap (λ k. record slots { links = k }) e

pub followed-none : (slots : Slots) → slots ≡ followed slots 0
followed-none slots = let e : slots.links ≡ slots.links + 0 = omega arith in
    ap (λ k. record slots { links = k }) e

pub followed-on : (slots now after : Slots) → now ≡ followed slots (now.links - slots.links)
    → slots.links ≤ now.links → after ≡ followed now (after.links - now.links)
    → now.links ≤ after.links → after ≡ followed slots (after.links - slots.links)
followed-on slots now after e le f ge =
    let n : now.links - slots.links + (after.links - now.links) ≡ after.links - slots.links =
    omega arith in
    f ∙ ap (λ s. followed s (after.links - now.links)) e
    ∙ followed-more slots (now.links - slots.links) (after.links - now.links)
    ∙ ap (followed slots) n

-- one link more
pub only-follows-next : (p mid now : Slots) (count : ℕ) → 0 < count → OnlyFollows (count - 1) p mid
    → now ≡ followed mid 1 → OnlyFollows count p now
only-follows-next p mid now count some h e =
    let l : now.links ≡ mid.links + 1 = ap (λ (s : Slots). s.links) e in
    let one : 1 ≡ now.links - mid.links = omega arith in
    record {
      pool = followed-on p mid now h.pool h.follows.links_rise (e ∙ ap (followed mid) one) (omega arith);
      follows = record {
        links_rise = omega (arith, l, h.follows.links_rise);
        most_links = omega (arith, l, h.follows.most_links);
      };
    }
