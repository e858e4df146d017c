-- Visits and probes of a table.
use Rattle.std.proofs.Common.{◌≡◌, ℕ, ◌+◌, ◌-◌, ◌≤◌, sym, ap, ◌∙◌, arith, Option, Some, None}
use Rattle.sg_table.specs.Records.{ahead}
use Rattle.sg_table.specs.Table.{Table, visited, probed}
use Rattle.sg_table.specs.declared.run.Run.{Run}

-- visits after others
pub visited-more : (t : Table) (n m : ℕ) → visited (visited t n) m ≡ visited t (n + m)
visited-more t n m =
    let visits : t.visits + n + m ≡ t.visits + (n + m) = omega arith in
    let total : t.total + n + m ≡ t.total + (n + m) = omega arith in
    ap (λ k. record t { visits = k; total = t.total + n + m }) visits
    ∙ ap (λ k. record t { visits = t.visits + (n + m); total = k }) total

-- the same visits on both sides
pub visited-less : (t u : Table) (n m k : ℕ) → visited t n ≡ visited u m → m ≡ k + n → t ≡ visited u k
visited-less t u n m k e is =
    let visits : t.visits + n ≡ u.visits + m = ap (λ (x : Table). x.visits) e in
    let total : t.total + n ≡ u.total + m = ap (λ (x : Table). x.total) e in
    let v : t.visits ≡ u.visits + k = omega arith in
    let w : t.total ≡ u.total + k = omega arith in
    ap (λ x. record t { visits = x }) v ∙ ap (λ x. record t { visits = u.visits + k; total = x }) w
    ∙ ap (λ (x : Table). record x { visits = u.visits + k; total = u.total + k }) e

-- visits after some that are counted from another table
pub visited-on : (t before after : Table) (n m k : ℕ) → visited before n ≡ visited t m → after ≡
    visited before k → visited after n ≡ visited t (m + k)
visited-on t before after n m k e is =
    let order : k + n ≡ n + k = omega arith in
    ap (λ x. visited x n) is ∙ visited-more before k n ∙ ap (visited before) order
    ∙ sym (visited-more before n k) ∙ ap (λ x. visited x k) e ∙ visited-more t m k

-- a probe after others
pub probed-more : (t before after : Table) → before ≡ probed t (before.probes - t.probes)
    → t.probes ≤ before.probes → after ≡ probed before 1
    → (t.probes ≤ after.probes) × (after.probes - t.probes ≡ before.probes - t.probes + 1)
    × (after ≡ probed t (after.probes - t.probes))
probed-more t before after e rise one =
    let probes : after.probes ≡ before.probes + 1 = ap (λ (u : Table). u.probes) one in
    let count : t.probes + (before.probes - t.probes) + 1 ≡ t.probes + (after.probes - t.probes) =
    omega (arith, rise, probes) in (
      omega (arith, rise, probes),
      omega (arith, rise, probes),
      one ∙ ap (λ u. probed u 1) e
          ∙ ap (λ k. record t { probes = k }) count,
    )

pub ahead-le : (next : Option Run) → ahead next ≤ 1
ahead-le None = omega arith
ahead-le (Some run) = omega arith
