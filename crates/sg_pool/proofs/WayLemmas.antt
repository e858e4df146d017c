-- The steps of a walk that has leaps all the way.
use Rattle.std.proofs.Common.{◌≡◌, ℕ, ◌+◌, ◌-◌, ◌*◌, ◌<◌, ◌≤◌, zero, suc, List, [], ◌∷◌, length, sum}
use Rattle.std.proofs.Common.{get_or, arith, sym, ap, ◌∙◌, inl, inr, subst, ◌⊎◌}
use Rattle.std.proofs.lemmas.Bool.{cases_lt}
use Rattle.std.proofs.lemmas.List.Sums.{sum_by-cons}
use Rattle.sg_pool.specs.Chains.{slot_after}
use Rattle.sg_pool.specs.Jumps.{AreJumpsOver, AreLeapsOver, AreLeapsAhead, span}
use Rattle.sg_pool.proofs.LinkLemmas.{slot_after-none, slot_after-more}
use Rattle.sg_pool.proofs.LeapLemmas.{span-none, span-first, span-more}

-- the leaps ahead of a slot reach as far as the links that are left
pub record AreAhead (next count reach : List ℕ) (slot left steps total : ℕ) : Type 0 where
  pub ahead : List ℕ
  pub leaps : AreLeapsAhead next count reach slot ahead
  pub enough : left ≤ sum ahead
  pub few : steps + length ahead ≤ total

-- the slot is on the way over the jumps of a leap that goes too far
pub record IsUnder (jump target count reach : List ℕ) (slot left steps total : ℕ) : Type 0 where
  pub from : ℕ
  pub index : ℕ
  pub at : slot ≡ slot_after target from index
  pub inside : index < get_or count from 0
  pub short : left + span jump target from index < get_or reach from 0
  pub few : steps + get_or count from 0 ≤ total + 64 + index

abbrev pub IsOnWay : (next jump target count reach : List ℕ) → (slot left steps total : ℕ) → Type 0
IsOnWay next jump target count reach slot left steps total =
    AreAhead next count reach slot left steps total
    ⊎ (IsUnder jump target count reach slot left steps total ⊎ (steps + left ≤ total + 128))

-- the same tags
pub record IsSame (jump target count reach jump' target' count' reach' : List ℕ) : Type 0 where
  pub jumps : jump ≡ jump'
  pub targets : target ≡ target'
  pub counts : count ≡ count'
  pub reaches : reach ≡ reach'

span-short : (jump target : List ℕ) (s n : ℕ) → ((s : ℕ) → get_or jump s 0 ≤ 64)
    → span jump target s n ≤ 64 * n
span-short jump target s zero short = omega (arith, span-none jump target s)
span-short jump target s (suc n) short =
    let rest = span-short jump target (get_or target s 0) n short in
    omega (arith, span-first jump target s n, short s, rest)

under-step : (next owner jump target over count landing reach jump' target' count' reach' : List ℕ)
    (slot left steps total passed cost : ℕ) → AreJumpsOver next owner jump target
    → AreLeapsOver jump target over count landing reach → passed ≤ left → cost ≤ passed
    → (left < 4096 → (0 < get_or count slot 0 → left < get_or reach slot 0) → 0 < get_or jump slot 0
    → get_or jump slot 0 ≤ left → (passed ≡ get_or jump slot 0) × (cost ≡ 1)
    × IsSame jump target count reach jump' target' count' reach')
    → IsUnder jump target count reach slot left steps total
    → IsOnWay next jump' target' count' reach' (slot_after next slot passed) (left - passed)
    (steps + cost) total
under-step next owner jump target over count landing reach jump' target' count' reach'
    slot left steps total passed cost d l le cheap jumps u =
    let from = u.from in
    let index = u.index in
    let n = get_or count from 0 in
    let here : get_or jump slot 0 ≡ get_or jump (slot_after target from index) 0 =
    ap (λ s. get_or jump s 0) u.at in
    let some : 0 < get_or jump slot 0 = omega (arith, here, l.alive from index u.inside) in
    let most = span-short jump target from n d.short in
    let all = l.spans from (omega (arith, u.inside)) in
    let few = l.derived.short from in
    let low : left < 4096 = omega (arith, u.short, most, all, few) in
    let none : 0 < get_or count slot 0 → left < get_or reach slot 0 = λ more.
    let mine : get_or over slot 0 ≡ slot =
    sym (ap (λ s. get_or over s 0) (slot_after-none target slot)) ∙ l.derived.owns slot 0 more in
    let its : get_or over slot 0 ≡ from = ap (λ s. get_or over s 0) u.at
    ∙ l.derived.owns from index u.inside in
    let same : slot ≡ from = sym mine ∙ its in
    let far : get_or reach slot 0 ≡ get_or reach from 0 = ap (λ s. get_or reach s 0) same in
    omega (arith, far, u.short) in
    elim (cases_lt left (get_or jump slot 0)) [
      | inl past ↦ inr (inr (omega (arith, past, d.short slot, u.few, u.inside, cheap, le)))
      | inr within ↦
          let j = jumps low none some within in
          let more = span-more jump target from index in
          let to : slot_after next slot passed ≡ slot_after target from (index + 1) =
          ap (slot_after next slot) j.0 ∙ d.leads slot some ∙ ap (λ s. get_or target s 0) u.at
          ∙ sym (slot_after-more target from index) in
          let short : left - passed + span jump target from (index + 1) < get_or reach from 0 =
          omega (arith, more, here, j.0, within, u.short) in
          let inside : index + 1 < n = elim (cases_lt (index + 1) n) [
            | inl lt ↦ lt
            | inr ge ↦
                let e : index + 1 ≡ n = omega (arith, ge, u.inside) in
                let end = ap (span jump target from) e in
                absurd (omega (arith, end, all, short))
          ] in
          let at : IsOnWay next jump target count reach (slot_after next slot passed) (left - passed)
          (steps + cost) total = inr (inl (record {
            from = from;
            index = index + 1;
            at = to;
            inside = inside;
            short = short;
            few = omega (arith, u.few, j.1);
          })) in
          let same = j.2 in
          rw (sym same.jumps, sym same.targets, sym same.counts, sym same.reaches) at
    ]

ahead-step : (next owner jump target over count landing reach jump' target' count' reach' : List ℕ)
    (slot left steps total passed cost : ℕ) (ahead : List ℕ) → AreJumpsOver next owner jump target
    → AreLeapsOver jump target over count landing reach → 0 < left → passed ≤ left → cost ≤ passed
    → (0 < get_or count slot 0 → 0 < get_or reach slot 0 → get_or reach slot 0 ≤ left
    → (passed ≡ get_or reach slot 0) × (cost ≡ 1)
    × IsSame jump target count reach jump' target' count' reach')
    → (left < 4096 → (0 < get_or count slot 0 → left < get_or reach slot 0) → 0 < get_or jump slot 0
    → get_or jump slot 0 ≤ left → (passed ≡ get_or jump slot 0) × (cost ≡ 1)
    × IsSame jump target count reach jump' target' count' reach')
    → AreLeapsAhead next count reach slot ahead → left ≤ sum ahead → steps + length ahead ≤ total
    → IsOnWay next jump' target' count' reach' (slot_after next slot passed) (left - passed)
    (steps + cost) total
ahead-step next owner jump target over count landing reach jump' target' count' reach'
    slot left steps total passed cost [] d l some le cheap leaps jumps ahead enough few =
    absurd (omega arith)
ahead-step next owner jump target over count landing reach jump' target' count' reach'
    slot left steps total passed cost (n ∷ ns) d l some le cheap leaps jumps ahead enough few =
    let first = ahead.0 in
    let most = ahead.1 in
    let far = ahead.2 in
    elim (cases_lt left n) [
      | inl past ↦
          let none = span-none jump target slot in
          under-step next owner jump target over count landing reach jump' target' count' reach'
          slot left steps total passed cost d l le cheap jumps (record {
            from = slot;
            index = 0;
            at = sym (slot_after-none target slot);
            inside = first;
            short = omega (arith, none, past, far);
            few = omega (arith, few, l.derived.short slot);
          })
      | inr within ↦
          let j = leaps first (omega (arith, most, far)) (omega (arith, within, far)) in
          let p : n ≡ passed = sym far ∙ sym j.0 in
          let same = j.2 in
          let at : IsOnWay next jump target count reach (slot_after next slot passed) (left - passed)
          (steps + cost) total = inl (record {
            ahead = ns;
            leaps = subst (λ (k : ℕ). AreLeapsAhead next count reach (slot_after next slot k) ns) p
                ahead.3;
            enough = omega (arith, enough, p, sum_by-cons (λ (k : ℕ). k) n ns);
            few = omega (arith, few, j.1);
          }) in
          rw (sym same.jumps, sym same.targets, sym same.counts, sym same.reaches) at
    ]

pub way-step : (next owner jump target over count landing reach jump' target' count' reach' : List ℕ)
    (slot left steps total passed cost : ℕ) → AreJumpsOver next owner jump target
    → AreLeapsOver jump target over count landing reach → 0 < left → passed ≤ left → cost ≤ passed
    → (0 < get_or count slot 0 → 0 < get_or reach slot 0 → get_or reach slot 0 ≤ left
    → (passed ≡ get_or reach slot 0) × (cost ≡ 1)
    × IsSame jump target count reach jump' target' count' reach')
    → (left < 4096 → (0 < get_or count slot 0 → left < get_or reach slot 0) → 0 < get_or jump slot 0
    → get_or jump slot 0 ≤ left → (passed ≡ get_or jump slot 0) × (cost ≡ 1)
    × IsSame jump target count reach jump' target' count' reach')
    → IsOnWay next jump target count reach slot left steps total
    → IsOnWay next jump' target' count' reach' (slot_after next slot passed) (left - passed)
    (steps + cost) total
way-step next owner jump target over count landing reach jump' target' count' reach'
    slot left steps total passed cost d l some le cheap leaps jumps way = elim way [
      | inl a ↦ ahead-step next owner jump target over count landing reach jump' target' count' reach'
          slot left steps total passed cost a.ahead d l some le cheap leaps jumps a.leaps a.enough a.few
      | inr rest ↦ elim rest [
        | inl u ↦ under-step next owner jump target over count landing reach jump' target' count' reach'
            slot left steps total passed cost d l le cheap jumps u
        | inr near ↦ inr (inr (omega (arith, near, le, cheap)))
      ]
    ]

pub way-start : (next jump target count reach : List ℕ) (first left : ℕ) (ahead : List ℕ)
    → AreLeapsAhead next count reach first ahead → left ≤ sum ahead
    → IsOnWay next jump target count reach first left 0 (length ahead)
way-start next jump target count reach first left ahead leaps enough =
    inl (record { ahead = ahead; leaps = leaps; enough = enough; few = omega arith })

-- the last links are few
pub way-end : (next jump target count reach : List ℕ) (slot left steps total : ℕ) → left < 64
    → IsOnWay next jump target count reach slot left steps total → steps + left ≤ total + 128
way-end next jump target count reach slot left steps total low way = elim way [
  | inl a ↦ omega (arith, a.few, low)
  | inr rest ↦ elim rest [
    | inl u ↦ omega (arith, u.few, u.inside, low)
    | inr near ↦ omega (arith, near)
  ]
]
