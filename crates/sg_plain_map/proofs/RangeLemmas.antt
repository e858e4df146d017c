-- The number of addresses of a range that have a slot, by the indices of its records.
use Rattle.std.proofs.Common.{◌≡◌, ℕ, ◌+◌, ◌-◌, ◌<◌, ◌≤◌, zero, suc, List, [], ◌∷◌, length}
use Rattle.std.proofs.Common.{get_or, arith, refl, sym, ap, ◌∙◌, inl, inr, cond, Bool, true}
use Rattle.std.proofs.lemmas.Bool.{cases_lt}
use Rattle.std.specs.FinMap.{contains_key}
use Rattle.sg_store.specs.Disk.{need, used_among}
use Rattle.sg_store.proofs.NeedLemmas.{need-used}
use Rattle.sg_table.specs.Records.{start_of, IsSorted, IsLowerBound}
use Rattle.sg_pool.specs.MappedRecords.{contents_of, mapping_in}
use Rattle.sg_store.specs.Disk.{used_at}
use Rattle.sg_table.specs.declared.run.Run.{Run}
use Rattle.sg_store.proofs.DiskLemmas.{used_among-none, used_among-more}
use Rattle.sg_table.proofs.RecordLemmas.{start_of-read, at_or_before}
use Rattle.sg_pool.proofs.MappedLemmas.{contains-mapped, none_used}
use Rattle.sg_table.proofs.RecordLemmas.{at_or_past, no_run}
use Rattle.std.specs.FinMap as map
use Rattle.sg_store.specs.Disk.{Mapping, remapped}
use Rattle.sg_pool.specs.MappedRecords.{IsConsistent}
use Rattle.sg_store.proofs.DiskLemmas.{len-remapped}
use Rattle.sg_pool.proofs.MappedLemmas.{len-contents_by}
use Rattle.sg_table.proofs.IndexLemmas.{index_unique}

-- the number of mapped addresses of a range
pub get_or_any : (rs : List Run) (i : ℕ) (d e : Run) → i < length rs → get_or rs i d ≡ get_or rs i e
get_or_any [] i d e h = absurd (omega arith)
get_or_any (x ∷ rs) zero d e h = refl
get_or_any (x ∷ rs) (suc i) d e h = get_or_any rs i d e (omega arith)

-- the address of each record is mapped
pub contains-start : (rs : List Run) (bs : List (List ℕ)) (i : ℕ) → IsSorted rs → i < length rs
    → contains_key (contents_of rs bs) (start_of rs i) ≡ true
contains-start rs bs i rises h =
    let r : Run = get_or rs i no_run in
    let same : r ≡ get_or rs i r = get_or_any rs i _ r h in
    ap (contains_key (contents_of rs bs)) (sym (start_of-read rs i r h same))
    ∙ contains-mapped (mapping_in bs) rs i r rises h same

used_start : (rs : List Run) (bs : List (List ℕ)) (i : ℕ) → IsSorted rs → i < length rs
    → used_at (contents_of rs bs) (start_of rs i) ≡ 1
used_start rs bs i rises h = ap (λ (b : Bool). cond b 1 0) (contains-start rs bs i rises h)

-- the index of an address, from the index of the next one
index_before : (rs : List Run) (bs : List (List ℕ)) (j b : ℕ) → IsSorted rs
    → IsLowerBound rs j (b + 1) → (l : ℕ) × IsLowerBound rs l b
    × (l + used_at (contents_of rs bs) b ≡ j)
index_before rs bs zero b rises q = (
  0,
  record {
    within = omega arith;
    before = λ l lt. absurd (omega arith);
    after =
        λ l ge lt. let u : b + 1 ≤ start_of rs l = q.after l ge lt in omega arith;
  },
  let none = none_used (mapping_in bs) rs b
      (λ l lt e. let u : b + 1 ≤ start_of rs l = q.after l (omega arith) lt in
      absurd (omega arith)) in omega arith,
)
index_before rs bs (suc j) b rises q =
    let w = q.within in
    let at : start_of rs j < b + 1 = q.before j (omega arith) in
    elim (cases_lt (start_of rs j) b) [
      | inl lt ↦ (
        suc j,
        record {
          within = w;
          before = λ l h. at_or_before rs j l b rises lt (omega arith) (omega arith);
          after = λ l ge h. let u : b + 1 ≤ start_of rs l = q.after l ge h in omega arith;
        },
        let none = none_used (mapping_in bs) rs b (λ l h e. elim (cases_lt l (suc j)) [
          | inl below ↦ let c : start_of rs l < b =
              at_or_before rs j l b rises lt (omega arith) (omega arith) in absurd (omega arith)
          | inr above ↦ let u : b + 1 ≤ start_of rs l = q.after l above h in absurd (omega arith)
        ]) in omega arith,
      )
      | inr ge ↦
          let here : start_of rs j ≡ b = omega arith in (
            j,
            record {
              within = omega arith;
              before = λ l h. let up : start_of rs l < start_of rs j = rises l j h (omega arith) in
                  omega arith;
              after = λ l le h. at_or_past rs j l b rises ge le h;
            },
            let one = rw here at (used_start rs bs j rises (omega arith)) in omega arith,
          )
    ]

pub used_among-indices : (rs : List Run) (bs : List (List ℕ)) (i a k j : ℕ) → IsSorted rs
    → IsLowerBound rs i a → IsLowerBound rs j (a + k) → i + used_among (contents_of rs bs) a k ≡ j
used_among-indices rs bs i a zero j rises p q =
    let here : a + 0 ≡ a = omega arith in
    let none = used_among-none (contents_of rs bs) a in
    let same = index_unique rs i j a p (rw here at q) in omega arith
used_among-indices rs bs i a (suc k) j rises p q =
    let here : a + suc k ≡ a + k + 1 = omega arith in
    let next : suc k ≡ k + 1 = omega arith in
    let before = index_before rs bs j (a + k) rises (rw here at q) in
    let rest = used_among-indices rs bs i a k before.0 rises p before.1 in
    let more = used_among-more (contents_of rs bs) a k in
    let last = before.2 in
    rw next (omega arith)

-- the slots that a range needs, from the indices where it begins and ends
pub len-after : (rs : List Run) (bs : List (List ℕ)) (free : List ℕ) (room i j a k : ℕ)
    (f : ℕ → Mapping) → IsConsistent rs bs free room → IsLowerBound rs i a
    → IsLowerBound rs j (a + k)
    → map.len (remapped (contents_of rs bs) a k f) + length free + (j - i) ≡ room + k
len-after rs bs free room i j a k f consistent p q =
    let mapped = used_among-indices rs bs i a k j consistent.sorted p q in
    let len = len-remapped (contents_of rs bs) a k f in
    let all = len-contents_by (mapping_in bs) rs consistent.sorted in
    omega (arith, consistent.count)

pub used_between : (rs : List Run) (bs : List (List ℕ)) (i j a k : ℕ) → IsSorted rs
    → IsLowerBound rs i a → IsLowerBound rs j (a + k) → used_among (contents_of rs bs) a k ≡ j - i
used_between rs bs i j a k rises p q = let mapped =
    used_among-indices rs bs i a k j rises p q in omega arith

-- and the number of slots that it needs, if each record of the range has one
pub need_between : (rs : List Run) (bs : List (List ℕ)) (i j a k : ℕ) → IsSorted rs
    → IsLowerBound rs i a → IsLowerBound rs j (a + k)
    → (used_among (contents_of rs bs) a k ≡ j - i) × (need (contents_of rs bs) a k + (j - i) ≡ k)
need_between rs bs i j a k rises p q =
    let used = used_between rs bs i j a k rises p q in
    let all = need-used (contents_of rs bs) a k in
    (used, omega (arith, used, all))
