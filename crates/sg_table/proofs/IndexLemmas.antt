-- Indices of records, and the table with one more record.
use Rattle.std.proofs.Common.{◌≡◌, ◌≢◌, ℕ, ◌+◌, ◌-◌, ◌<◌, ◌≤◌, zero, suc, List, [], ◌∷◌, length}
use Rattle.std.proofs.Common.{arith, refl, inl, inr}
use Rattle.std.proofs.lemmas.List.Edits.{length-insert}
use Rattle.std.proofs.lemmas.Bool.{cases_lt}
use Rattle.std.specs.Prelude.{insert}
use Rattle.sg_table.specs.Records.{start_of, IsSorted, IsLowerBound}
use Rattle.sg_table.specs.declared.run.Run.{Run}

-- the addresses with one more record
pub start_of-insert_below : (rs : List Run) (i : ℕ) (r : Run) (j : ℕ) → j < i → i ≤ length rs
    → start_of (insert rs i r) j ≡ start_of rs j
start_of-insert_below rs zero r j lt le = absurd (omega arith)
start_of-insert_below [] (suc i) r j lt le = absurd (omega arith)
start_of-insert_below (x ∷ rs) (suc i) r zero lt le = refl
start_of-insert_below (x ∷ rs) (suc i) r (suc j) lt le =
    start_of-insert_below rs i r j (omega arith) (omega arith)

pub start_of-insert_at : (rs : List Run) (i : ℕ) (r : Run) → i ≤ length rs
    → start_of (insert rs i r) i ≡ r.start
start_of-insert_at rs zero r le = refl
start_of-insert_at [] (suc i) r le = absurd (omega arith)
start_of-insert_at (x ∷ rs) (suc i) r le = start_of-insert_at rs i r (omega arith)

pub start_of-insert_above : (rs : List Run) (i : ℕ) (r : Run) (j : ℕ) → i ≤ j → i ≤ length rs
    → start_of (insert rs i r) (suc j) ≡ start_of rs j
start_of-insert_above rs zero r j ge le = refl
start_of-insert_above [] (suc i) r j ge le = absurd (omega arith)
start_of-insert_above (x ∷ rs) (suc i) r zero ge le = absurd (omega arith)
start_of-insert_above (x ∷ rs) (suc i) r (suc j) ge le =
    start_of-insert_above rs i r j (omega arith) (omega arith)

pub index_unique : (rs : List Run) (i j a : ℕ) → IsLowerBound rs i a → IsLowerBound rs j a → i ≡ j
index_unique rs i j a p q = elim (cases_lt i j) [
  | inl lt ↦ let b : start_of rs i < a = q.before i lt in let w = q.within in
      let u : a ≤ start_of rs i = p.after i (omega arith) (omega arith) in absurd (omega arith)
  | inr ge ↦ elim (cases_lt j i) [
    | inl lt ↦ let b : start_of rs j < a = p.before j lt in let w = p.within in
        let u : a ≤ start_of rs j = q.after j (omega arith) (omega arith) in absurd (omega arith)
    | inr le ↦ omega arith
  ]
]

-- the table with one more record, at its index
pub sorted-insert : (rs : List Run) (i : ℕ) (r : Run) → IsSorted rs → IsLowerBound rs i r.start
    → ((j : ℕ) → j < length rs → start_of rs j ≢ r.start) → IsSorted (insert rs i r)
sorted-insert rs i r rises p none x y lt below =
    let w = p.within in
    let len : length (insert rs i r) ≡ length rs + 1 = length-insert rs i r w in
    elim (cases_lt y i) [
      | inl y_low ↦
          let sx = start_of-insert_below rs i r x (omega arith) w in let sy =
          start_of-insert_below rs i r y y_low w in
          let up : start_of rs x < start_of rs y = rises x y lt (omega arith) in omega arith
      | inr y_high ↦ elim (cases_lt i y) [
        | inl y_above ↦
            let down : suc (y - 1) ≡ y = omega arith in
            let sy : start_of (insert rs i r) y ≡ start_of rs (y - 1) =
            rw down at (start_of-insert_above rs i r (y - 1) (omega arith) w) in
            let past : r.start ≤ start_of rs (y - 1) = p.after (y - 1) (omega arith) (omega arith) in
            let apart : start_of rs (y - 1) ≢ r.start = none (y - 1) (omega arith) in
            elim (cases_lt x i) [
              | inl x_low ↦ let sx = start_of-insert_below rs i r x x_low w in
                  let b : start_of rs x < r.start = p.before x x_low in omega arith
              | inr x_high ↦ elim (cases_lt i x) [
                | inl x_above ↦
                    let downx : suc (x - 1) ≡ x = omega arith in
                    let sx : start_of (insert rs i r) x ≡ start_of rs (x - 1) =
                    rw downx at (start_of-insert_above rs i r (x - 1) (omega arith) w) in
                    let up : start_of rs (x - 1) < start_of rs (y - 1) =
                    rises (x - 1) (y - 1) (omega arith) (omega arith) in omega arith
                | inr x_at ↦ let e : x ≡ i = omega arith in let sx : start_of (insert rs i r) x ≡
                    r.start = rw e (start_of-insert_at rs i r w) in omega arith
              ]
            ]
        | inr y_at ↦
            let e : y ≡ i = omega arith in let sy : start_of (insert rs i r) y ≡ r.start =
            rw e (start_of-insert_at rs i r w) in
            let sx = start_of-insert_below rs i r x (omega arith) w in
            let b : start_of rs x < r.start = p.before x (omega arith) in omega arith
      ]
    ]

-- the index after a new record
pub index-insert : (rs : List Run) (i : ℕ) (r : Run) → IsLowerBound rs i r.start
    → ((j : ℕ) → j < length rs → start_of rs j ≢ r.start)
    → IsLowerBound (insert rs i r) (i + 1) (r.start + 1)
index-insert rs i r p none =
    let w = p.within in
    let len : length (insert rs i r) ≡ length rs + 1 = length-insert rs i r w in
    record {
      within = omega arith;
      before = λ j lt. elim (cases_lt j i) [
        | inl low ↦ let s = start_of-insert_below rs i r j low w in
            let b : start_of rs j < r.start = p.before j low in omega arith
        | inr high ↦ let e : j ≡ i = omega arith in let s : start_of (insert rs i r) j ≡ r.start =
            rw e (start_of-insert_at rs i r w) in omega arith
      ];
      after = λ j le lt.
          let down : suc (j - 1) ≡ j = omega arith in
          let s : start_of (insert rs i r) j ≡ start_of rs (j - 1) =
          rw down at (start_of-insert_above rs i r (j - 1) (omega arith) w) in
          let past : r.start ≤ start_of rs (j - 1) = p.after (j - 1) (omega arith) (omega arith) in
          let apart : start_of rs (j - 1) ≢ r.start = none (j - 1) (omega arith) in omega arith;
    }
