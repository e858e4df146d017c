-- A walk over the provisioning statuses of a disk.
use Rattle.std.proofs.Common.{◌≡◌, ℕ, ◌+◌, ◌-◌, ◌/◌, ◌^◌, ◌<◌, ◌≤◌, zero, suc, min, cond}
use Rattle.std.proofs.Common.{List, [], ◌∷◌, ◌++◌, All, length, take, map, count_by, Bool, true, false}
use Rattle.std.proofs.Common.{Option, Some, None, option_and_then, arith, refl, sym, ap, ap₂, subst, ◌∙◌}
use Rattle.std.proofs.Common.{append_assoc, length-append, inl, inr}
use Rattle.std.specs.Prelude.{nat_lt}
use Rattle.std.specs.List.{last_or}
use Rattle.std.specs.Option.{option_map_or}
use Rattle.std.proofs.lemmas.Bool.{cases_lt}
use Rattle.std.proofs.lemmas.Bool.Decides.{nat_tests}
use Rattle.std.proofs.lemmas.List.{length-map, map-append, take_at}
use Rattle.std.proofs.lemmas.List.Elements.{All-nil, All-cons, All-head, All-tail}
use Rattle.std.proofs.lemmas.List.Sums.{sum_by-cons}
use Rattle.sg_store.specs.Disk.{Contents, Disk, lies_in}
use Rattle.sg_store.specs.LbaStatus.{covered, count_alike, descriptor_at, lba_status}
use Rattle.sg_store.specs.LbaStatus.{max_descriptors}
use Rattle.sg_wire.specs.declared.lba_status.StatusDescriptor.{StatusDescriptor}
use Rattle.sg_store.proofs.DescriptorLemmas.{descriptors-end, descriptors-first, descriptors-none}
use Rattle.sg_decode.specs.LbaStatus.{Descriptor, address_after, next_start, whole_descriptors}
use Rattle.sg_run.specs.Walk.{AnswersHaveTheFirst, WalksInOrder, end_of, every_descriptor, every_read}
use Rattle.sg_run.specs.Walk.{fields_of, named_by, names, room_for_one, status_answer, walk}
use Rattle.sg_run.proofs.AnswerLemmas.{HasRoom, whole-are}
use Rattle.sg_run.proofs.EveryDescriptorLemmas.{each-narrow, end, end-all, end-first, end-none}
use Rattle.sg_run.proofs.EveryDescriptorLemmas.{end-past, end-within, every, every-past, every-split}
use Rattle.sg_run.proofs.EveryDescriptorLemmas.{few, from, from-some, take-every, take-from}

module _ (disk : Disk) (fits : disk.capacity < 2 ^ 64) where
  abbrev m : Contents
  m = disk.contents

  abbrev c : ℕ
  c = disk.capacity

  abbrev those : (start most : ℕ) → List StatusDescriptor
  those start most = from m c start most

  abbrev after : (start most : ℕ) → ℕ
  after start most = end m c start most

  -- ---- The end of the last descriptor

  end-of_one : (start : ℕ) → start < c → address_after (fields_of (descriptor_at m c start))
      ≡ Some (start + count_alike m c start)
  end-of_one start below =
      let within = end-within m c 1 start (omega arith) in
      let one = end-first m c start 0 below in
      let none = end-none m c (start + count_alike m c start) in
      let small : nat_lt (start + count_alike m c start) (2 ^ 64) ≡ true = grind (arith, nat_tests) in
      ap (λ b. cond b (Some (start + count_alike m c start)) None) small

  last-ends : (most start : ℕ) (last : Option Descriptor) → option_and_then address_after last ≡ Some start
      → option_and_then address_after (last_or last (map fields_of (those start most)))
      ≡ Some (after start most)
  last-ends zero start last is =
      ap (λ ds. option_and_then address_after (last_or last (map fields_of ds))) (descriptors-none m c start)
      ∙ is ∙ ap Some (sym (end-none m c start))
  last-ends (suc most) start last is = elim (cases_lt start c) [
    | inr past ↦
        ap (λ ds. option_and_then address_after (last_or last (map fields_of ds)))
        (descriptors-end m c start (suc most) past)
        ∙ is ∙ ap Some (sym (end-past m c start (suc most) past))
    | inl below ↦
        ap (λ ds. option_and_then address_after (last_or last (map fields_of ds)))
        (descriptors-first m c start most below)
        ∙ last-ends most (start + count_alike m c start) (Some (fields_of (descriptor_at m c start)))
        (end-of_one start below)
        ∙ ap Some (sym (end-first m c start most below))
  ]

  some-end : (most start : ℕ) → start < c → 0 < most
      → option_and_then address_after (last_or None (map fields_of (those start most)))
      ≡ Some (after start most)
  some-end zero start below some = absurd (omega arith)
  some-end (suc most) start below some =
      ap (λ ds. option_and_then address_after (last_or None (map fields_of ds)))
      (descriptors-first m c start most below)
      ∙ last-ends most (start + count_alike m c start) (Some (fields_of (descriptor_at m c start)))
      (end-of_one start below)
      ∙ ap Some (sym (end-first m c start most below))

  -- ---- One answer

  room-each : (most start : ℕ) → All HasRoom (those start most)
  room-each most start k d here =
      let narrow = each-narrow m c most start k d here in
      record { lba = omega (arith, narrow.0); count = omega (arith, narrow.1) }

  -- the most whole descriptors that it has
  abbrev whole_of : (n : ℕ) → ℕ
  whole_of n = min ((n - 8) / 16) max_descriptors

  answer-whole : (start n : ℕ) → 24 ≤ n → whole_descriptors (status_answer disk start n)
      ≡ map fields_of (those start (whole_of n))
  answer-whole start n enough =
      whole-are (lba_status disk start) n (few m c max_descriptors start) enough
      (room-each max_descriptors start)
      ∙ ap (map fields_of) (take-from m c ((n - 8) / 16) max_descriptors start)

  answer-next : (start n : ℕ) → start < c → 24 ≤ n
      → next_start (status_answer disk start n) ≡ Some (after start (whole_of n))
  answer-next start n below enough =
      ap (λ ds. option_and_then address_after (last_or None ds)) (answer-whole start n enough)
      ∙ some-end (whole_of n) start below (omega arith)

  -- ---- The walk goes on by one answer

  walk-on : (n : ℕ) (lengths : List ℕ) (start : ℕ) → start < c → 24 ≤ n
      → walk disk (n ∷ lengths) start
      ≡ status_answer disk start n ∷ walk disk lengths (after start (whole_of n))
  unfolding walk
  walk-on n lengths start below enough =
      let on : nat_lt start c ≡ true = grind (arith, nat_tests) in
      ap (λ b. cond b (status_answer disk start n
      ∷ option_map_or (walk disk lengths) (next_start (status_answer disk start n)) []) []) on
      ∙ ap (λ next. status_answer disk start n ∷ option_map_or (walk disk lengths) next [])
      (answer-next start n below enough)

  walk-none : (start : ℕ) → walk disk [] start ≡ []
  unfolding walk
  walk-none start = refl

  walk-past : (lengths : List ℕ) (start : ℕ) → c ≤ start → walk disk lengths start ≡ []
  unfolding walk
  walk-past [] start past = refl
  walk-past (n ∷ lengths) start past =
      let off : nat_lt start c ≡ false = grind (arith, nat_tests) in
      ap (λ b. cond b (status_answer disk start n
      ∷ option_map_or (walk disk lengths) (next_start (status_answer disk start n)) []) []) off

  -- ---- The descriptors that it names

  abbrev Roomy : List ℕ → Type 0
  Roomy lengths = All (λ n. room_for_one ≤ n) lengths

  abbrev named : (lengths : List ℕ) (start : ℕ) → List Descriptor
  named lengths start = named_by (walk disk lengths start)

  -- all descriptors are the named ones, and a rest
  record Names (lengths : List ℕ) (start : ℕ) : Type 0 where
    rest : List Descriptor
    all : every_read disk start ≡ named lengths start ++ rest

  nothing-named : (lengths : List ℕ) (start : ℕ) → walk disk lengths start ≡ [] → Names lengths start
  nothing-named lengths start none = record {
    rest = every_read disk start;
    all = sym (ap (λ answers. named_by answers ++ every_read disk start) none);
  }

  named-on : (n : ℕ) (lengths : List ℕ) (start : ℕ) → start < c → 24 ≤ n → named (n ∷ lengths) start
      ≡ map fields_of (those start (whole_of n)) ++ named lengths (after start (whole_of n))
  named-on n lengths start below enough =
      ap named_by (walk-on n lengths start below enough)
      ∙ ap (λ ds. ds ++ named lengths (after start (whole_of n))) (answer-whole start n enough)

  every-on : (n start : ℕ) → start ≤ c → every_read disk start
      ≡ map fields_of (those start (whole_of n)) ++ every_read disk (after start (whole_of n))
  every-on n start low =
      ap (map fields_of) (every-split m c (whole_of n) start low)
      ∙ map-append fields_of (those start (whole_of n)) (every m c (after start (whole_of n)))

  names-first : (lengths : List ℕ) (start : ℕ) → start ≤ c → Roomy lengths → Names lengths start
  names-first [] start low roomy = nothing-named [] start (walk-none start)
  names-first (n ∷ lengths) start low roomy = elim (cases_lt start c) [
    | inr past ↦ nothing-named (n ∷ lengths) start (walk-past (n ∷ lengths) start past)
    | inl below ↦
        let enough = All-head (λ n. room_for_one ≤ n) n lengths roomy in
        let next = after start (whole_of n) in
        let firsts = map fields_of (those start (whole_of n)) in
        let more = names-first lengths next (end-within m c (whole_of n) start low)
        (All-tail (λ n. room_for_one ≤ n) n lengths roomy) in
        record {
          rest = more.rest;
          all = every-on n start low ∙ ap (λ ds. firsts ++ ds) more.all
              ∙ sym (append_assoc firsts (named lengths next) more.rest)
              ∙ ap (λ ds. ds ++ more.rest) (sym (named-on n lengths start below enough));
        }
  ]

  -- each answer adds at least one
  abbrev Adds : List ℕ → Type 0
  Adds answer = 0 < length (whole_descriptors answer)

  each-adds : (lengths : List ℕ) (start : ℕ) → start ≤ c → Roomy lengths → All Adds (walk disk lengths start)
  each-adds [] start low roomy = subst (All Adds) (sym (walk-none start)) (All-nil Adds)
  each-adds (n ∷ lengths) start low roomy = elim (cases_lt start c) [
    | inr past ↦ subst (All Adds) (sym (walk-past (n ∷ lengths) start past)) (All-nil Adds)
    | inl below ↦
        let enough = All-head (λ n. room_for_one ≤ n) n lengths roomy in
        let next = after start (whole_of n) in
        let some = from-some m c (whole_of n) start below (omega arith) in
        let whole = ap length (answer-whole start n enough)
        ∙ length-map (those start (whole_of n)) fields_of in
        subst (All Adds) (sym (walk-on n lengths start below enough))
        (All-cons Adds (status_answer disk start n) (walk disk lengths next) (omega (arith, some, whole))
        (each-adds lengths next (end-within m c (whole_of n) start low)
        (All-tail (λ n. room_for_one ≤ n) n lengths roomy)))
  ]

  -- ---- The end of the walk

  abbrev Enough : (lengths : List ℕ) (start : ℕ) → Type 0
  Enough lengths start = length (every_descriptor disk start) ≤ length lengths

  -- fewer descriptors are left after an answer
  enough-on : (n : ℕ) (lengths : List ℕ) (start : ℕ) → start < c → 24 ≤ n → Enough (n ∷ lengths) start
      → Enough lengths (after start (whole_of n))
  enough-on n lengths start below wide enough =
      let some = from-some m c (whole_of n) start below (omega arith) in
      let all = ap length (every-split m c (whole_of n) start (omega arith)) in
      let joined = length-append (those start (whole_of n)) (every m c (after start (whole_of n))) in
      omega (arith, some, all, joined, enough)

  -- if no length is left for it, no descriptor is left
  none-left : (start : ℕ) → start < c → Enough [] start → ⊥
  none-left start below enough =
      let some = from-some m c (c - start) start below (omega arith) in omega (arith, some, enough)

  past-named : (lengths : List ℕ) (start : ℕ) → c ≤ start → named lengths start ≡ every_read disk start
  past-named lengths start past =
      ap named_by (walk-past lengths start past) ∙ sym (ap (map fields_of) (every-past m c start past))

  all-named : (lengths : List ℕ) (start : ℕ) → start ≤ c → Roomy lengths → Enough lengths start
      → named lengths start ≡ every_read disk start
  all-named [] start low roomy enough = elim (cases_lt start c) [
    | inr past ↦ past-named [] start past
    | inl below ↦ absurd (none-left start below enough)
  ]
  all-named (n ∷ lengths) start low roomy enough = elim (cases_lt start c) [
    | inr past ↦ past-named (n ∷ lengths) start past
    | inl below ↦
        let wide = All-head (λ n. room_for_one ≤ n) n lengths roomy in
        let firsts = map fields_of (those start (whole_of n)) in
        named-on n lengths start below wide
        ∙ ap (λ ds. firsts ++ ds)
        (all-named lengths (after start (whole_of n)) (end-within m c (whole_of n) start low)
        (All-tail (λ n. room_for_one ≤ n) n lengths roomy) (enough-on n lengths start below wide enough))
        ∙ sym (every-on n start low)
  ]

  -- the address of the next answer, after an answer that leads to the first of these
  abbrev leads : Option (List ℕ) → Option ℕ
  leads last = option_and_then next_start last

  ends-past : (lengths : List ℕ) (start : ℕ) (last : Option (List ℕ)) → start ≤ c → c ≤ start
      → leads last ≡ Some start → leads (last_or last (walk disk lengths start)) ≡ Some c
  ends-past lengths start last low past is =
      let here : start ≡ c = omega arith in
      ap (λ answers. leads (last_or last answers)) (walk-past lengths start past) ∙ is ∙ ap Some here

  ends : (lengths : List ℕ) (start : ℕ) (last : Option (List ℕ)) → start ≤ c → Roomy lengths
      → Enough lengths start → leads last ≡ Some start
      → leads (last_or last (walk disk lengths start)) ≡ Some c
  ends [] start last low roomy enough is = elim (cases_lt start c) [
    | inr past ↦ ends-past [] start last low past is
    | inl below ↦ absurd (none-left start below enough)
  ]
  ends (n ∷ lengths) start last low roomy enough is = elim (cases_lt start c) [
    | inr past ↦ ends-past (n ∷ lengths) start last low past is
    | inl below ↦
        let wide = All-head (λ n. room_for_one ≤ n) n lengths roomy in
        ap (λ answers. leads (last_or last answers)) (walk-on n lengths start below wide)
        ∙ ends lengths (after start (whole_of n)) (Some (status_answer disk start n))
        (end-within m c (whole_of n) start low) (All-tail (λ n. room_for_one ≤ n) n lengths roomy)
        (enough-on n lengths start below wide enough) (answer-next start n below wide)
  ]

  walk-ends : (lengths : List ℕ) (start : ℕ) → start < c → Roomy lengths → Enough lengths start
      → end_of (walk disk lengths start) ≡ Some c
  walk-ends [] start below roomy enough = absurd (none-left start below enough)
  walk-ends (n ∷ lengths) start below roomy enough =
      let wide = All-head (λ n. room_for_one ≤ n) n lengths roomy in
      ap end_of (walk-on n lengths start below wide)
      ∙ ends lengths (after start (whole_of n)) (Some (status_answer disk start n))
      (end-within m c (whole_of n) start (omega arith)) (All-tail (λ n. room_for_one ≤ n) n lengths roomy)
      (enough-on n lengths start below wide enough) (answer-next start n below wide)

  -- more lengths add no answer
  no-further : (lengths more : List ℕ) (start : ℕ) → start ≤ c → Roomy lengths → Enough lengths start
      → walk disk (lengths ++ more) start ≡ walk disk lengths start
  no-further [] more start low roomy enough = elim (cases_lt start c) [
    | inr past ↦ walk-past more start past ∙ sym (walk-past [] start past)
    | inl below ↦ absurd (none-left start below enough)
  ]
  no-further (n ∷ lengths) more start low roomy enough = elim (cases_lt start c) [
    | inr past ↦ walk-past (n ∷ (lengths ++ more)) start past ∙ sym (walk-past (n ∷ lengths) start past)
    | inl below ↦
        let wide = All-head (λ n. room_for_one ≤ n) n lengths roomy in
        walk-on n (lengths ++ more) start below wide
        ∙ ap (λ answers. status_answer disk start n ∷ answers)
        (no-further lengths more (after start (whole_of n)) (end-within m c (whole_of n) start low)
        (All-tail (λ n. room_for_one ≤ n) n lengths roomy) (enough-on n lengths start below wide enough))
        ∙ sym (walk-on n lengths start below wide)
  ]

  -- ---- The number of times that an address is named

  abbrev one_if : Bool → ℕ
  one_if b = cond b 1 0

  in-none : (start a : ℕ) → lies_in start 0 a ≡ false
  in-none start a = elim (cases_lt a start) [
    | inl before ↦ grind (arith, nat_tests)
    | inr from ↦ grind (arith, nat_tests)
  ]

  sum-is : (b b' both x y z : Bool) → b ≡ x → b' ≡ y → both ≡ z → one_if x + one_if y ≡ one_if z
      → one_if b + one_if b' ≡ one_if both
  sum-is b b' both x y z e e' e'' s = ap₂ (λ p q. one_if p + one_if q) e e' ∙ s ∙ ap one_if (sym e'')

  in-both : (start n k a : ℕ) → one_if (lies_in start n a) + one_if (lies_in (start + n) k a) ≡
      one_if (lies_in start (n + k) a)
  in-both start n k a = elim (cases_lt a start) [
    | inl before ↦
        let e : lies_in start n a ≡ false = grind (arith, nat_tests) in
        let e' : lies_in (start + n) k a ≡ false = grind (arith, nat_tests) in
        let e'' : lies_in start (n + k) a ≡ false = grind (arith, nat_tests) in
        sum-is _ _ _ _ _ _ e e' e'' refl
    | inr low ↦ elim (cases_lt a (start + n)) [
      | inl first ↦
          let e : lies_in start n a ≡ true = grind (arith, nat_tests) in
          let e' : lies_in (start + n) k a ≡ false = grind (arith, nat_tests) in
          let e'' : lies_in start (n + k) a ≡ true = grind (arith, nat_tests) in
          sum-is _ _ _ _ _ _ e e' e'' refl
      | inr later ↦ elim (cases_lt a (start + (n + k))) [
        | inl second ↦
            let e : lies_in start n a ≡ false = grind (arith, nat_tests) in
            let e' : lies_in (start + n) k a ≡ true = grind (arith, nat_tests) in
            let e'' : lies_in start (n + k) a ≡ true = grind (arith, nat_tests) in
            sum-is _ _ _ _ _ _ e e' e'' refl
        | inr past ↦
            let e : lies_in start n a ≡ false = grind (arith, nat_tests) in
            let e' : lies_in (start + n) k a ≡ false = grind (arith, nat_tests) in
            let e'' : lies_in start (n + k) a ≡ false = grind (arith, nat_tests) in
            sum-is _ _ _ _ _ _ e e' e'' refl
      ]
    ]
  ]

  abbrev times : (address : ℕ) → List StatusDescriptor → ℕ
  times a ds = count_by (names a) (map fields_of ds)

  nothing-covered : (start a : ℕ) (ds : List StatusDescriptor) → ds ≡ []
      → times a ds ≡ one_if (lies_in start (covered ds) a)
  nothing-covered start a ds none =
      ap (times a) none ∙ sym (ap one_if (in-none start a))
      ∙ sym (ap (λ xs. one_if (lies_in start (covered xs) a)) none)

  times-is : (most start a : ℕ)
      → times a (those start most) ≡ one_if (lies_in start (covered (those start most)) a)
  times-is zero start a = nothing-covered start a (those start 0) (descriptors-none m c start)
  times-is (suc most) start a = elim (cases_lt start c) [
    | inr past ↦ nothing-covered start a (those start (suc most)) (descriptors-end m c start (suc most) past)
    | inl below ↦
        let d = descriptor_at m c start in
        let n = count_alike m c start in
        let rest = those (start + n) most in
        let all : covered (those start (suc most)) ≡ n + covered rest =
        omega (arith, end-first m c start most below) in
        ap (times a) (descriptors-first m c start most below)
        ∙ sum_by-cons (λ x. one_if (names a x)) (fields_of d) (map fields_of rest)
        ∙ ap (λ k. one_if (lies_in start n a) + k) (times-is most (start + n) a)
        ∙ in-both start n (covered rest) a
        ∙ ap (λ k. one_if (lies_in start k a)) (sym all)
  ]

  every-once : (start a : ℕ) → start ≤ c → count_by (names a) (every_read disk start)
      ≡ one_if (lies_in start (c - start) a)
  every-once start a low =
      let all : covered (those start (c - start)) ≡ c - start =
      omega (arith, end-all m c (c - start) start low (omega arith)) in
      times-is (c - start) start a ∙ ap (λ k. one_if (lies_in start k a)) all

-- ---- The laws

pub answers-first : AnswersHaveTheFirst
answers-first disk start = take-every disk.contents disk.capacity max_descriptors start

pub walks-in_order : WalksInOrder
walks-in_order disk start lengths fits below roomy =
    let low : start ≤ disk.capacity = omega arith in
    let first = names-first disk fits lengths start low roomy in
    record {
      first = sym (ap (take (length (named_by (walk disk lengths start)))) first.all
          ∙ take_at (named_by (walk disk lengths start)) first.rest _ refl);
      each_adds = each-adds disk fits lengths start low roomy;
      reaches = λ enough.
          let all = all-named disk fits lengths start low roomy enough in
          record {
            all = all;
            once = λ a. ap (count_by (names a)) all ∙ every-once disk fits start a low;
            end = walk-ends disk fits lengths start below roomy enough;
            no_further = λ more. no-further disk fits lengths more start low roomy enough;
          };
    }
