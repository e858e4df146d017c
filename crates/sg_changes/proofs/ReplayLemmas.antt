-- What records leave, one after another.
use Rattle.std.proofs.Common.{◌≡◌, ◌≢◌, ℕ, zero, suc, ◌≤◌, ◌<◌, true, List, [], ◌∷◌, ◌++◌, length}
use Rattle.std.proofs.Common.{Option, Some, None, refl, sym, ap, ◌∙◌, arith, append_assoc, ◌+◌, take}
use Rattle.std.proofs.Common.{drop, length-append, subst}
use Rattle.std.specs.List.{flat_map, list_all}
use Rattle.std.specs.Prelude.{option_and_then}
use Rattle.std.proofs.lemmas.Bool.{and_parts}
use Rattle.std.proofs.lemmas.List.{append-nil, drop_at, take_at}
use Rattle.std.proofs.lemmas.List.Concat.{flat_map-cons}
use Rattle.sg_changes.specs.Change.{Change, applied, applied_all}
use Rattle.sg_changes.specs.Format.{AreBytes, ◌>>=◌}
use Rattle.sg_changes.specs.KeptFields.{KeptFields}
use Rattle.sg_changes.specs.Records.{change_at, is_possible, record_of}
use Rattle.sg_changes.specs.Replay.{IsDamagedAt, applied_at, replayed, replayed_by}
use Rattle.sg_changes.proofs.FormatLemmas.{bind_some, dropped_bytes, pair_parts}
use Rattle.sg_changes.proofs.RecordLemmas.{change_exact, change_shorter}

-- ---- One record

record IsApplied (bytes : List ℕ) (old new : KeptFields) (rest : List ℕ) : Type 0 where
  change : Change
  read : change_at bytes ≡ Some (change, rest)
  applies : applied old change ≡ Some new

abbrev and-applied : KeptFields → Change × List ℕ → Option (KeptFields × List ℕ)
and-applied kept r = applied kept r.0 >>= λ k. Some (k, r.1)

applied-parts : (bytes : List ℕ) (old new : KeptFields) (rest : List ℕ)
    → applied_at bytes old ≡ Some (new, rest) → IsApplied bytes old new rest
unfolding applied_at
applied-parts bytes old new rest e =
    let a = bind_some (change_at bytes) (and-applied old) (new, rest) e in
    let b = bind_some (applied old a.0.0) (λ k. Some (k, a.0.1)) (new, rest) a.2 in
    let same : (b.0, a.0.1) ≡ (new, rest) = pair_parts (b.0, a.0.1) (new, rest) b.2 in
    record {
      change = a.0.0;
      read = a.1 ∙ ap (λ r. Some (a.0.0, r)) (ap (λ p. p.1) same);
      applies = b.1 ∙ ap (λ (p : KeptFields × List ℕ). Some p.0) same;
    }

applied-is : (bytes : List ℕ) (old new : KeptFields) (rest : List ℕ) → IsApplied bytes old new rest
    → applied_at bytes old ≡ Some (new, rest)
unfolding applied_at
applied-is bytes old new rest is =
    ap (λ (r : Option (Change × List ℕ)). r >>= and-applied old) is.read
    ∙ ap (λ (r : Option KeptFields). r >>= λ k. Some (k, rest)) is.applies

pub applied_shorter : (bytes : List ℕ) (old new : KeptFields) (rest : List ℕ)
    → applied_at bytes old ≡ Some (new, rest) → length rest < length bytes
applied_shorter bytes old new rest e =
    let is = applied-parts bytes old new rest e in change_shorter bytes is.change rest is.read

applied-more : (bytes : List ℕ) (old new : KeptFields) (rest more : List ℕ)
    → applied_at bytes old ≡ Some (new, rest) → applied_at (bytes ++ more) old ≡ Some (new, rest ++ more)
applied-more bytes old new rest more e =
    let is = applied-parts bytes old new rest e in
    applied-is (bytes ++ more) old new (rest ++ more) (record {
      change = is.change;
      read = change_exact.ignores_rest bytes is.change rest more is.read;
      applies = is.applies;
    })

applied-record : (change : Change) (old : KeptFields) (rest : List ℕ) → is_possible change ≡ true
    → applied_at (record_of change ++ rest) old ≡ (applied old change >>= λ new. Some (new, rest))
unfolding applied_at
applied-record change old rest possible =
    ap (λ (r : Option (Change × List ℕ)). r >>= and-applied old)
    (change_exact.reads_back change rest possible)

applied-none : (old : KeptFields) → applied_at [] old ≡ None
unfolding applied_at
applied-none old = refl

-- ---- One after another

abbrev and-replayed : ℕ → KeptFields × List ℕ → Option KeptFields
and-replayed n r = replayed_by n r.1 r.0

same-then : {A B : Type 0} (f g : A → Option B) (o : Option A) → ((x : A) → o ≡ Some x → f x ≡ g x)
    → (o >>= f) ≡ (o >>= g)
same-then f g None each = refl
same-then f g (Some x) each = each x refl

same-limit : (n m : ℕ) (bytes : List ℕ) (kept : KeptFields) → length bytes ≤ n → length bytes ≤ m
    → replayed_by n bytes kept ≡ replayed_by m bytes kept
same-limit n m [] kept a b = refl
same-limit zero m (x ∷ bytes) kept a b = absurd (omega arith)
same-limit (suc n) zero (x ∷ bytes) kept a b = absurd (omega arith)
same-limit (suc n) (suc m) (x ∷ bytes) kept a b =
    same-then (and-replayed n) (and-replayed m) (applied_at (x ∷ bytes) kept)
    (λ r is. let short = applied_shorter (x ∷ bytes) kept r.0 r.1 is in
    same-limit n m r.1 r.0 (omega arith) (omega arith))

pub replayed_nil : (kept : KeptFields) → replayed [] kept ≡ Some kept
unfolding replayed
replayed_nil kept = refl

-- the first record, and then the others
replayed-step : (x : ℕ) (bytes : List ℕ) (kept : KeptFields)
    → replayed (x ∷ bytes) kept ≡ (applied_at (x ∷ bytes) kept >>= λ r. replayed r.1 r.0)
unfolding replayed
replayed-step x bytes kept =
    same-then (and-replayed (length bytes)) (λ r. replayed_by (length r.1) r.1 r.0)
    (applied_at (x ∷ bytes) kept)
    (λ r is. let short = applied_shorter (x ∷ bytes) kept r.0 r.1 is in
    same-limit (length bytes) (length r.1) r.1 r.0 (omega arith) (omega arith))

pub step_some : (bytes : List ℕ) (old new : KeptFields) (rest : List ℕ)
    → applied_at bytes old ≡ Some (new, rest) → replayed bytes old ≡ replayed rest new
step_some [] old new rest is = absurd (cc (applied-none old))
step_some (x ∷ bytes) old new rest is =
    replayed-step x bytes old ∙ ap (λ (r : Option (KeptFields × List ℕ)). r >>= λ p. replayed p.1 p.0) is

pub step_none : (bytes : List ℕ) (old : KeptFields) → length bytes ≢ 0 → applied_at bytes old ≡ None
    → replayed bytes old ≡ None
step_none [] old some is = absurd (some refl)
step_none (x ∷ bytes) old some is =
    replayed-step x bytes old ∙ ap (λ (r : Option (KeptFields × List ℕ)). r >>= λ p. replayed p.1 p.0) is

pub step_end : (bytes : List ℕ) (old : KeptFields) → length bytes ≡ 0 → replayed bytes old ≡ Some old
step_end [] old none = replayed_nil old
step_end (x ∷ bytes) old none = absurd (omega arith)

append-step : (x : ℕ) (xs ys : List ℕ) (old mid : KeptFields) (o : Option (KeptFields × List ℕ))
    → applied_at (x ∷ xs) old ≡ o → replayed (x ∷ xs) old ≡ Some mid
    → ((r : KeptFields × List ℕ) → length r.1 < length (x ∷ xs) → replayed r.1 r.0 ≡ Some mid
    → replayed (r.1 ++ ys) r.0 ≡ replayed ys mid)
    → replayed (x ∷ xs ++ ys) old ≡ replayed ys mid
append-step x xs ys old mid None none is rest = absurd (cc (step_none (x ∷ xs) old (omega arith) none))
append-step x xs ys old mid (Some r) some is rest =
    step_some (x ∷ xs ++ ys) old r.0 (r.1 ++ ys) (applied-more (x ∷ xs) old r.0 r.1 ys some)
    ∙ rest r (applied_shorter (x ∷ xs) old r.0 r.1 some) (sym (step_some (x ∷ xs) old r.0 r.1 some) ∙ is)

append-by : (n : ℕ) (xs ys : List ℕ) (old mid : KeptFields) → length xs ≤ n → replayed xs old ≡ Some mid
    → replayed (xs ++ ys) old ≡ replayed ys mid
append-by n [] ys old mid le is =
    let e : old ≡ mid = cc (replayed_nil old) in ap (λ (k : KeptFields). replayed ys k) e
append-by zero (x ∷ xs) ys old mid le is = absurd (omega arith)
append-by (suc n) (x ∷ xs) ys old mid le is =
    append-step x xs ys old mid (applied_at (x ∷ xs) old) refl is
    (λ r short then. append-by n r.1 ys r.0 mid (omega arith) then)

-- more records go on from what others left
pub replayed_append : (xs ys : List ℕ) (old mid : KeptFields) → replayed xs old ≡ Some mid
    → replayed (xs ++ ys) old ≡ replayed ys mid
replayed_append xs ys old mid is = append-by (length xs) xs ys old mid (omega arith) is

-- ---- Records of changes

by-applied : (o : Option KeptFields) (bytes rest : List ℕ) (old : KeptFields) → length bytes ≢ 0
    → applied_at bytes old ≡ (o >>= λ new. Some (new, rest))
    → replayed bytes old ≡ (o >>= λ new. replayed rest new)
by-applied None bytes rest old some is = step_none bytes old some is
by-applied (Some new) bytes rest old some is = step_some bytes old new rest is

record-not-empty : (change : Change) (rest : List ℕ) → length (record_of change ++ rest) ≢ 0
record-not-empty (Change.Write e blocks) rest = omega arith
record-not-empty (Change.Fill e block) rest = omega arith
record-not-empty (Change.Unmap lba count) rest = omega arith
record-not-empty (Change.Anchor e) rest = omega arith
record-not-empty (Change.Pages saved) rest = omega arith
record-not-empty (Change.Reservations persistent) rest = omega arith
record-not-empty (Change.Faults slots) rest = omega arith
record-not-empty (Change.Grow blocks) rest = omega arith

-- the record of a change applies the change
pub replayed_first : (change : Change) (rest : List ℕ) (old : KeptFields) → is_possible change ≡ true
    → replayed (record_of change ++ rest) old ≡ (applied old change >>= λ new. replayed rest new)
replayed_first change rest old possible =
    by-applied (applied old change) (record_of change ++ rest) rest old (record-not-empty change rest)
    (applied-record change old rest possible)

end-of : (o : Option KeptFields) → (o >>= λ new. replayed [] new) ≡ o
end-of None = refl
end-of (Some new) = replayed_nil new

pub replayed_push : (bytes : List ℕ) (change : Change) (old mid : KeptFields) → is_possible change ≡ true
    → replayed bytes old ≡ Some mid → replayed (bytes ++ record_of change) old ≡ applied mid change
replayed_push bytes change old mid possible is =
    replayed_append bytes (record_of change) old mid is
    ∙ ap (λ (bs : List ℕ). replayed bs mid) (sym (append-nil (record_of change)))
    ∙ replayed_first change [] mid possible ∙ end-of (applied mid change)

then-all : (o : Option KeptFields) (bytes : List ℕ) (changes : List Change)
    → ((new : KeptFields) → replayed bytes new ≡ applied_all new changes)
    → (o >>= λ new. replayed bytes new) ≡ option_and_then (λ new. applied_all new changes) o
then-all None bytes changes each = refl
then-all (Some new) bytes changes each = each new

-- the records of changes apply them all
pub replayed_records : (changes : List Change) (old : KeptFields) → list_all is_possible changes ≡ true
    → replayed (flat_map record_of changes) old ≡ applied_all old changes
replayed_records [] old possible = replayed_nil old
replayed_records (change ∷ changes) old possible =
    let parts = and_parts (is_possible change) (list_all is_possible changes) possible in
    ap (λ (bs : List ℕ). replayed bs old) (flat_map-cons record_of change changes)
    ∙ replayed_first change (flat_map record_of changes) old parts.0
    ∙ then-all (applied old change) (flat_map record_of changes) changes
    (λ new. replayed_records changes new parts.1)

-- ---- A loop over the records of a batch

-- some records are applied, and the others are left
pub record SoFar (bytes rest : List ℕ) (old now : KeptFields) : Type 0 where
  pub done : List ℕ
  pub parts : bytes ≡ done ++ rest
  pub replays : replayed done old ≡ Some now

pub so_far_first : (bytes : List ℕ) (old : KeptFields) → SoFar bytes bytes old old
so_far_first bytes old = record { done = []; parts = refl; replays = replayed_nil old }

pub so_far_next : (bytes rest after : List ℕ) (old now new : KeptFields) → AreBytes bytes
    → applied_at rest now ≡ Some (new, after) → SoFar bytes rest old now → SoFar bytes after old new
so_far_next bytes rest after old now new are e so_far =
    let is = applied-parts rest now new after e in
    let left : drop (length so_far.done) bytes ≡ rest =
    ap (drop (length so_far.done)) so_far.parts ∙ drop_at so_far.done rest (length so_far.done) refl in
    let rest_are : AreBytes rest = subst AreBytes left (dropped_bytes (length so_far.done) bytes are) in
    let spelled = change_exact.has_one_spelling rest is.change after rest_are is.read in
    let record_bytes : List ℕ = record_of is.change in
    record {
      done = so_far.done ++ record_bytes;
      parts = so_far.parts ∙ ap (λ (r : List ℕ). so_far.done ++ r) spelled.spelled
          ∙ sym (append_assoc so_far.done record_bytes after);
      replays = replayed_push so_far.done is.change old now spelled.possible so_far.replays ∙ is.applies;
    }

pub so_far_damaged : (bytes rest : List ℕ) (old now : KeptFields) (offset : ℕ) → length rest ≢ 0
    → offset + length rest ≡ length bytes → applied_at rest now ≡ None → SoFar bytes rest old now
    → IsDamagedAt bytes old offset
so_far_damaged bytes rest old now offset some size none so_far =
    let count : length so_far.done ≡ offset =
    omega (arith, size, ap length so_far.parts, length-append so_far.done rest) in
    record {
      before = now;
      within = omega (arith, some, size);
      sound = ap (λ (bs : List ℕ). replayed (take offset bs) old) so_far.parts
          ∙ ap (λ (bs : List ℕ). replayed bs old) (take_at so_far.done rest offset count) ∙ so_far.replays;
      damaged = ap (λ (bs : List ℕ). applied_at (drop offset bs) now) so_far.parts
          ∙ ap (λ (bs : List ℕ). applied_at bs now) (drop_at so_far.done rest offset count) ∙ none;
    }

pub so_far_none : (bytes rest : List ℕ) (old now : KeptFields) → length rest ≢ 0 → applied_at rest now ≡ None
    → SoFar bytes rest old now → replayed bytes old ≡ None
so_far_none bytes rest old now some none so_far =
    ap (λ (bs : List ℕ). replayed bs old) so_far.parts
    ∙ replayed_append so_far.done rest old now so_far.replays
    ∙ step_none rest now some none

pub so_far_all : (bytes rest : List ℕ) (old now : KeptFields) → length rest ≡ 0 → SoFar bytes rest old now
    → replayed bytes old ≡ Some now
so_far_all bytes rest old now none so_far =
    ap (λ (bs : List ℕ). replayed bs old) so_far.parts
    ∙ replayed_append so_far.done rest old now so_far.replays
    ∙ step_end rest now none

pub so_far_within : (bytes rest : List ℕ) (old now : KeptFields) → SoFar bytes rest old now
    → length rest ≤ length bytes
so_far_within bytes rest old now so_far =
    omega (arith, ap length so_far.parts, length-append so_far.done rest)

-- ---- Cases

by-first : (bytes : List ℕ) (old new : KeptFields) (o : Option (KeptFields × List ℕ)) → length bytes ≢ 0
    → applied_at bytes old ≡ o → replayed bytes old ≡ Some new → (P : Type 0)
    → ((middle : KeptFields) (rest : List ℕ) (change : Change) → length rest < length bytes
    → applied old change ≡ Some middle → replayed rest middle ≡ Some new → P) → P
by-first bytes old new None some is e P then = absurd (cc (step_none bytes old some is))
by-first bytes old new (Some r) some is e P then =
    let parts = applied-parts bytes old r.0 r.1 is in
    then r.0 r.1 parts.change (applied_shorter bytes old r.0 r.1 is) parts.applies
    (sym (step_some bytes old r.0 r.1 is) ∙ e)

-- what records leave is what the others leave of what the first one leaves
pub first_applied : (bytes : List ℕ) (old new : KeptFields) → length bytes ≢ 0 → replayed bytes old ≡ Some new
    → (P : Type 0)
    → ((middle : KeptFields) (rest : List ℕ) (change : Change) → length rest < length bytes
    → applied old change ≡ Some middle → replayed rest middle ≡ Some new → P) → P
first_applied bytes old new some e P then = by-first bytes old new (applied_at bytes old) some refl e P then
