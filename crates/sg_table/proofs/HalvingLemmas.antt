-- The cost of halving.
use Rattle.std.proofs.Common.{◌≡◌, ℕ, ◌+◌, ◌*◌, ◌^◌, ◌≤◌, ◌<◌, arith, add-one, inl, inr}
use Rattle.std.proofs.Math.Nat.{mul-le-mul_left, pow-succ'}
use Rattle.std.proofs.Math.Pow.{pow_mono}
use Rattle.std.proofs.lemmas.Nat.{pow-add}
use Rattle.std.proofs.lemmas.Bool.{cases_lt}
use Rattle.sg_table.specs.Leaves.{max_leaf, min_leaf}
use Rattle.sg_table.specs.Search.{CostsHalving, CostsSearch}
use Rattle.sg_table.specs.Table.{search_bound}
use Rattle.sg_table.specs.declared.table.TheConstants.{MAX_RECORDS}

twice : (s : ℕ) → 2 ^ (s + 1) ≡ 2 * 2 ^ s
twice s = rw (add-one) (pow-succ' 2 s)

-- one more probe, if at most half is left
pub halved-more : (s n m c : ℕ) → 2 ^ s * n ≤ c → 0 < n → 2 * m ≤ n → 2 ^ (s + 1) * m ≤ c
halved-more s n m c h pos half = rw (twice s) (omega (arith, mul-le-mul_left (2 ^ s) half))

pub cost-more : (s n c : ℕ) → 2 ^ s * n ≤ c → 0 < n → 2 ^ (s + 1) ≤ 2 * c + 1
cost-more s n c h pos = let one : 1 ≤ n = omega arith in
    rw (twice s) (omega (arith, mul-le-mul_left (2 ^ s) one))

-- and if at least half is left, except for the address that is compared
pub halved-less : (s n m c : ℕ) → c + 2 ≤ 2 ^ s * (n + 2) → n ≤ 2 * m + 2 → c + 2 ≤ 2 ^ (s + 1) * (m + 2)
halved-less s n m c h half =
    let more : 2 ^ s * (n + 2) ≤ 2 ^ s * (2 * (m + 2)) = mul-le-mul_left (2 ^ s) (omega arith) in
    let order : 2 ^ s * (2 * (m + 2)) ≡ 2 * 2 ^ s * (m + 2) = omega arith in
    rw (twice s) (omega arith)

-- a search of the largest table keeps to its bound
pub probes-le : (s c : ℕ) → 2 ^ s ≤ 4 * c + 1 → c ≤ MAX_RECORDS → s ≤ search_bound
probes-le s c h small = elim (cases_lt s 34)
    [ inl lt ↦ omega arith | inr ge ↦ let p : 2 ^ 34 ≤ 2 ^ s = pow_mono ge in absurd (omega arith) ]

-- and a search of a table of at most half as many records to one less
pub few-probes : (c p : ℕ) → CostsSearch c p → c < 2 ^ 31 → p ≤ 32
few-probes c p is small = let most = is.most_probes in elim (cases_lt p 33)
    [ inl lt ↦ omega arith | inr ge ↦ let more : 2 ^ 33 ≤ 2 ^ p = pow_mono ge in absurd (omega arith) ]

-- and a search of any list can be counted
pub halvings-fit : (s c : ℕ) → 2 ^ s ≤ 2 * c + 1 → c < 2 ^ 64 → s ≤ 65
halvings-fit s c h small = elim (cases_lt s 66)
    [ inl lt ↦ omega arith | inr ge ↦ let p : 2 ^ 66 ≤ 2 ^ s = pow_mono ge in absurd (omega arith) ]

-- one leaf, which has all records
pub search-one : (p c : ℕ) → CostsHalving c p → CostsSearch c p
search-one p c is =
    let most = is.most_probes in
    let least = is.fewest_probes in
    let order : p + 1 ≤ p + 2 = omega arith in
    let more : 2 ^ (p + 1) ≤ 2 ^ (p + 2) = pow_mono order in
    record { most_probes = omega arith; fewest_probes = omega arith; one_leaf = λ _. is }

-- a leaf takes seven or eight probes
eight : (p c : ℕ) → CostsHalving c p → min_leaf ≤ c → c ≤ max_leaf → (7 ≤ p) × (p ≤ 8)
eight p c is enough fits =
    let most = is.most_probes in
    let least = is.fewest_probes in (
      elim (cases_lt p 7) [
        | inl lt ↦ let le : p + 1 ≤ 7 = omega arith in
            let few : 2 ^ (p + 1) ≤ 2 ^ 7 = pow_mono le in absurd (omega arith)
        | inr ge ↦ ge
      ],
      elim (cases_lt 8 p) [
        | inl gt ↦ let many : 2 ^ 9 ≤ 2 ^ p = pow_mono gt in absurd (omega arith)
        | inr le ↦ le
      ],
    )

-- a leaf of several, after a search by their first records
pub search-leaves : (q p leaves leaf c : ℕ) → CostsHalving leaves q → CostsHalving leaf p → 1 ≤ leaves
    → min_leaf ≤ leaf → leaf ≤ max_leaf → min_leaf * (leaves + 1) ≤ c → c ≤ max_leaf * (leaves + 1)
    → CostsSearch c (q + p)
search-leaves q p leaves leaf c first is some enough fits filled full =
    let bounds = eight p leaf is enough fits in
    let less : q + p ≤ q + 8 = omega (arith, bounds.1) in
    let more : q + 1 + 8 ≤ q + p + 2 = omega (arith, bounds.0) in
    let top : 2 ^ (q + p) ≤ 2 ^ (q + 8) = pow_mono less in
    let bottom : 2 ^ (q + 1 + 8) ≤ 2 ^ (q + p + 2) = pow_mono more in
    let most = first.most_probes in
    let least = first.fewest_probes in
    record {
      most_probes = omega (arith, pow-add 2 q 8);
      fewest_probes = omega (arith, pow-add 2 (q + 1) 8);
      one_leaf = λ small. absurd (omega arith);
    }
