-- NumberList joined by commas.
use Rattle.std.proofs.Common.{◌≡◌, ◌≤◌, ◌<◌, ◌+◌, ℕ, suc, List, [], ◌∷◌, ◌++◌, length, take, drop}
use Rattle.std.proofs.Common.{Bool, true, false, cond, Option, Some, None, if◌then◌else◌, nat_lt}
use Rattle.std.proofs.Common.{not, refl, sym, ap, ◌∙◌, arith, append_assoc}
use Rattle.std.specs.Prelude.{◌==◌, is_some}
use Rattle.std.specs.List.{slice_split, onto_first, position, position_or_len}
use Rattle.std.proofs.lemmas.Grind.{common_steps}
use Rattle.std.proofs.lemmas.Bool.Decides.{nat_tests}
use Rattle.std.proofs.lemmas.List.{take_all, take-append-le, length-take}
use Rattle.std.proofs.lemmas.Option.{cond_some}
use Rattle.std.proofs.lemmas.List.Splits.{slice_split_first, length-slice_split}
use Rattle.sg_tools.specs.Number.{number_up_to}
use Rattle.sg_tools.specs.OptionTexts.{all_values, prepend, entries, numbers_up_to, both, mode_page}
use Rattle.sg_tools.specs.OptionTexts.{mode_page_of}
use Rattle.sg_tools.specs.NumberList.{Keeps, ReadsList, PushesNumber}
use Rattle.sg_tools.specs.declared.number_list.NumberList.{NumberList}

is_comma : ℕ → Bool
is_comma byte = byte == 0x2C

-- ---- the first entry

split_none_by : (p : ℕ → Bool) (b : Bool) (x : ℕ) (xs : List ℕ) (q : ℕ)
    → suc (length xs) ≤ cond (not b) (1 + q) 0 → (length xs ≤ q → slice_split p xs ≡ xs ∷ [])
    → cond b ([] ∷ slice_split p xs) (onto_first x (slice_split p xs)) ≡ (x ∷ xs) ∷ []
split_none_by p true x xs q past rest = absurd (omega arith)
split_none_by p false x xs q past rest = ap (onto_first x) (rest (omega arith))

split_none : (p : ℕ → Bool) (xs : List ℕ) → length xs ≤ position_or_len p xs
    → slice_split p xs ≡ xs ∷ []
split_none p [] past = refl
split_none p (x ∷ xs) past = split_none_by p (p x) x xs (position_or_len p xs) past
    (split_none p xs)

none_by : (b : Bool) (n : ℕ) → cond {A = Option ℕ} b (Some n) None ≡ None → b ≡ false
none_by true n e = absurd cc
none_by false n e = refl

entries_one : (text : List ℕ) → position (λ byte. byte == 0x2C) text ≡ None
    → entries text ≡ text ∷ []
entries_one text none =
    let past : nat_lt (position_or_len (λ byte. byte == 0x2C) text) (length text)
    ≡ false = none_by _ _ none in
    let far : length text ≤ position_or_len (λ byte. byte == 0x2C) text = grind (arith, nat_tests)
    in
    split_none (λ byte. byte == 0x2C) text far

entries_first : (text : List ℕ) (i : ℕ) → position (λ byte. byte == 0x2C) text ≡ Some i
    → entries text ≡ take i text ∷ entries (drop (i + 1) text)
entries_first text i found =
    let at = cond_some (nat_lt (position_or_len (λ byte. byte == 0x2C) text) (length text))
    (position_or_len (λ byte. byte == 0x2C) text) i found in
    let tested : nat_lt (position_or_len (λ byte. byte == 0x2C) text) (length text) ≡ true = at.0 in
    let within : position_or_len (λ byte. byte == 0x2C) text < length text =
    grind (arith, nat_tests) in
    rw (← at.1) (slice_split_first (λ byte. byte == 0x2C) text 0 within)

pub one_entry : (most : ℕ) (text : List ℕ) → position (λ byte. byte == 0x2C) text ≡ None
    → numbers_up_to most text ≡ prepend (number_up_to most text) (Some [])
unfolding numbers_up_to
one_entry most text none = ap (all_values (number_up_to most)) (entries_one text none)

pub first_entry : (most : ℕ) (text : List ℕ) (i : ℕ) → position (λ byte. byte == 0x2C) text ≡ Some i
    → numbers_up_to most text ≡ prepend (number_up_to most (take i text)) (numbers_up_to most
    (drop (i + 1) text))
unfolding numbers_up_to
first_entry most text i found = ap (all_values (number_up_to most)) (entries_first text i found)

-- ---- a mode page and a subpage

pub pages_one : (text : List ℕ) → position (λ byte. byte == 0x2C) text ≡ None
    → mode_page text ≡ both (number_up_to 63 text) (Some 0)
pages_one text none = ap mode_page_of (entries_one text none)

pub pages_two : (text : List ℕ) (i : ℕ) → position (λ byte. byte == 0x2C) text ≡ Some i
    → position (λ byte. byte == 0x2C) (drop (i + 1) text) ≡ None
    → mode_page text ≡ both (number_up_to 63 (take i text)) (number_up_to 255 (drop (i + 1) text))
pages_two text i found none = ap mode_page_of (entries_first text i found
    ∙ ap (λ (t : List (List ℕ)). take i text ∷ t) (entries_one (drop (i + 1) text) none))

many : (a b : List ℕ) (rest : List (List ℕ)) → 0 < length rest → mode_page_of (a ∷ b ∷ rest) ≡ None
many a b [] some = absurd (omega arith)
many a b (x ∷ xs) some = refl

pub none_of : (r : Option ℕ) → is_some r ≡ false → r ≡ None
none_of None e = refl
none_of (Some n) e = absurd cc

by_place : (text : List ℕ) (i : ℕ) → position (λ byte. byte == 0x2C) text ≡ Some i → (r : Option ℕ)
    → position (λ byte. byte == 0x2C) (drop (i + 1) text) ≡ r → is_some r ≡ true → mode_page text
    ≡ None
by_place text i found None at some = absurd cc
by_place text i found (Some j) at some =
    let rest = drop (i + 1) text in
    let left = entries (drop (j + 1) rest) in
    let count : 0 < length left = omega (
      arith,
      length-slice_split (λ byte. byte == 0x2C)
          (drop (j + 1) rest),
    ) in
    ap mode_page_of (entries_first text i found ∙ ap (λ (t : List (List ℕ)). take i text ∷ t)
    (entries_first rest j at)) ∙ many (take i text) (take j rest) left count

pub pages_many : (text : List ℕ) (i : ℕ) → position (λ byte. byte == 0x2C) text ≡ Some i
    → is_some (position (λ byte. byte == 0x2C) (drop (i + 1) text)) ≡ true → mode_page text ≡ None
pages_many text i found more = by_place text i found (position (λ byte. byte == 0x2C)
    (drop (i + 1) text)) refl more

-- ---- the entries in turn

abbrev pub prepended : List ℕ → Option (List ℕ) → Option (List ℕ)
prepended xs None = None
prepended xs (Some ys) = Some (xs ++ ys)

prepended-prepend : (xs : List ℕ) (n : ℕ) (ys : Option (List ℕ))
    → prepended xs (prepend (Some n) ys) ≡ prepended (xs ++ (n ∷ [])) ys
prepended-prepend xs n None = refl
prepended-prepend xs n (Some ys) = ap (λ t. Some t) (sym (append_assoc xs (n ∷ []) ys))

-- so many numbers are read, and the rest of the text follows
pub record Reading (most : ℕ) (text rest : List ℕ) (numbers : NumberList) : Type 0 where
  pub so_far : List ℕ
  pub kept : Keeps so_far numbers
  pub short : numbers.count + length rest ≤ length text
  pub whole : numbers_up_to most text ≡ prepended so_far (numbers_up_to most rest)

prepended-none : (r : Option (List ℕ)) → r ≡ prepended [] r
prepended-none None = refl
prepended-none (Some ys) = refl

pub reading_begins : (most : ℕ) (text : List ℕ) (numbers : NumberList) → numbers.count ≡ 0
    → numbers.first.items ≡ [] → Reading most text text numbers
reading_begins most text numbers none empty =
    record {
      so_far = [];
      kept = record { count = none; first = empty };
      short = omega arith;
      whole
          = prepended-none (numbers_up_to most text);
    }

room_by : (m : ℕ) (xs : List ℕ) (n : ℕ) (b : Bool) → nat_lt (length (take m xs)) m ≡ b
    → (if b then take m xs ++ (n ∷ []) else take m xs) ≡ take m (xs ++ (n ∷ []))
room_by m xs n true room =
    let less : length (take m xs) < m = grind (arith, nat_tests) in
    let all : length xs < m = omega (arith, length-take {A = ℕ} m xs) in
    let whole : take m xs ≡ xs = take_all m xs (omega arith) in
    let more : length (xs ++ (n ∷ [])) ≤ m = grind (arith, common_steps) in
    rw (whole, take_all m (xs ++ (n ∷ [])) more) refl
room_by m xs n false full =
    let least : m ≤ length (take m xs) = grind (arith, nat_tests) in
    let past : m ≤ length xs = omega (arith, length-take {A = ℕ} m xs) in
    sym (take-append-le m xs (n ∷ []) past)

take_room : (xs : List ℕ) (n : ℕ) → (if nat_lt (length (take 64 xs)) 64 then take 64 xs
    ++ (n ∷ []) else take 64 xs) ≡ take 64 (xs ++ (n ∷ []))
take_room xs n = room_by 64 xs n (nat_lt (length (take 64 xs)) 64) refl

kept_more : (so_far : List ℕ) (old new : NumberList) (n : ℕ) → Keeps so_far old
    → PushesNumber old n new → Keeps (so_far ++ (n ∷ [])) new
kept_more so_far old new n k p = record {
  count = p.count ∙ ap (λ m. m + 1) k.count ∙ grind (arith, common_steps);
  first = p.first ∙ rw k.first (take_room so_far n);
}

-- one more entry is read
pub reading_on : (most : ℕ) (text rest : List ℕ) (old new : NumberList) (end n : ℕ)
    (result : Option ℕ) → Reading most text rest old
    → position (λ byte. byte == 0x2C) rest ≡ Some end → end < length rest
    → result ≡ number_up_to most (take end rest) → result ≡ Some n → PushesNumber old n new
    → Reading most text (drop (end + 1) rest) new
reading_on most text rest old new end n result r found within reads some p =
    let read : number_up_to most (take end rest) ≡ Some n = cc in
    let left : numbers_up_to most rest ≡ prepend (Some n) (numbers_up_to most (drop (end + 1) rest))
    = first_entry most rest end found ∙ rw read refl in
    record {
      so_far = r.so_far ++ (n ∷ []);
      kept = kept_more r.so_far old new n r.kept p;
      short = let count = p.count in let left = r.short in grind (arith, common_steps);
      whole = r.whole ∙ ap (prepended r.so_far) left ∙ prepended-prepend r.so_far n
          (numbers_up_to most (drop (end + 1) rest));
    }

-- an entry is no number
pub reading_fails : (most : ℕ) (text rest : List ℕ) (old : NumberList) (end : ℕ) (result : Option ℕ)
    → Reading most text rest old → position (λ byte. byte == 0x2C) rest ≡ Some end
    → result ≡ number_up_to most (take end rest) → result ≡ None
    → ReadsList (numbers_up_to most text) None
reading_fails most text rest old end result r found reads none =
    let read : number_up_to most (take end rest) ≡ None = cc in
    let none_left : numbers_up_to most rest ≡ None = first_entry most rest end found
    ∙ rw read refl in
    let whole : numbers_up_to most text ≡ None = r.whole ∙ rw none_left refl in
    rw whole tt

-- the last entry
pub reading_ends : (most : ℕ) (text rest : List ℕ) (old new : NumberList) (n : ℕ)
    (result : Option ℕ) → Reading most text rest old → position (λ byte. byte == 0x2C) rest ≡ None
    → result ≡ number_up_to most rest → result ≡ Some n → PushesNumber old n new
    → ReadsList (numbers_up_to most text) (Some new)
reading_ends most text rest old new n result r last reads some p =
    let read : number_up_to most rest ≡ Some n = cc in
    let one_left : numbers_up_to most rest ≡ Some (n ∷ []) = one_entry most rest last
    ∙ rw read refl in
    let whole : numbers_up_to most text ≡ Some (r.so_far ++ (n ∷ [])) = r.whole
    ∙ rw one_left refl in
    rw whole (kept_more r.so_far old new n r.kept p)

pub reading_ends_badly : (most : ℕ) (text rest : List ℕ) (old : NumberList) (result : Option ℕ)
    → Reading most text rest old → position (λ byte. byte == 0x2C) rest ≡ None
    → result ≡ number_up_to most rest → result ≡ None → ReadsList (numbers_up_to most text) None
reading_ends_badly most text rest old result r last reads none =
    let read : number_up_to most rest ≡ None = cc in
    let none_left : numbers_up_to most rest ≡ None = one_entry most rest last ∙ rw read refl in
    let whole : numbers_up_to most text ≡ None = r.whole ∙ rw none_left refl in
    rw whole tt
