-- The items that are shown.
use Rattle.std.proofs.Common.{◌≡◌, ◌≤◌, ◌<◌, ◌+◌, ℕ, zero, suc, List, [], ◌∷◌, ◌++◌, length, take}
use Rattle.std.proofs.Common.{drop, get_or, true, false, Bool, ◌&&◌, Option, Some, if◌then◌else◌}
use Rattle.std.proofs.Common.{arith, refl, ap, sym, ◌∙◌, append_assoc, append-nil, drop-cons, ◌-◌}
use Rattle.std.proofs.Common.{slice_range, nat_le, nat_lt, not, min, codes}
use Rattle.std.specs.List.{flat_map}
use Rattle.std.proofs.lemmas.Grind.{common_steps}
use Rattle.std.proofs.lemmas.Bool.{and_parts}
use Rattle.std.proofs.lemmas.Bool.Decides.{nat_tests}
use Rattle.std.proofs.lemmas.List.{take_more, take_all, take-append-drop}
use Rattle.std.specs.Borrow.{Bor}
use Rattle.sg_decode.specs.declared.value.Field.{Field}
use Rattle.sg_decode.specs.declared.entry.EntryKind.{EntryKind}
use Rattle.sg_decode.specs.declared.entry.EntryKind.TheVariants.{SupportedPages, Designators}
use Rattle.sg_decode.specs.declared.entry.EntryKind.TheVariants.{ModePages, LbaStatusDescriptors}
use Rattle.sg_decode.specs.declared.entry.EntryKind.TheVariants.{ReservationKeys, FullStatusDescriptors}
use Rattle.sg_decode.specs.declared.entry.EntryKind.TheVariants.{ExtendedFullStatusDescriptors}
use Rattle.sg_decode.specs.declared.entry.EntryKind.TheVariants.{Luns, CommandDescriptors, Timeouts}
use Rattle.sg_decode.specs.declared.entry.EntryKind.TheVariants.{LogPages, LogSubpages, LogParameters}
use Rattle.sg_decode.specs.declared.entry.EntryKind.TheVariants.{LogExceptions, LogResourceCounts}
use Rattle.sg_decode.specs.declared.entry.EntryKind.TheVariants.{ModePagePolicies, ScsiPorts}
use Rattle.sg_decode.specs.declared.entry.EntryKind.TheVariants.{LongDefects, ShortDefects}
use Rattle.sg_decode.specs.Lines.{Line, line_of, lines_of, line_text, line_end, lines_end}
use Rattle.sg_decode.specs.Entries.{entry_of}
use Rattle.std.proofs.lemmas.List.Folds.{list_all_more, list_all_at}
use Rattle.sg_wire.specs.Printing.{Printing, Prints}
use Rattle.sg_wire.proofs.PrintingLemmas.{Prints-on, Prints-nil}
use Rattle.sg_decode.specs.Items.{end_text, Item, item, as_present, passes, line_item, line_items, Entry}
use Rattle.sg_decode.specs.Items.{shown, all_shown, is_shown, stop_text, entries, entries_from}
use Rattle.sg_decode.specs.Items.{size, entry_text}

-- the text of an item that is shown
abbrev pub own_text : List ℕ → Item → List ℕ
own_text bytes i = i.text (slice_range bytes i.first i.end)

-- ---- items after others that are all shown

shown-append : (reported : Option ℕ) (bytes : List ℕ) (xs ys : List Item)
    → all_shown reported bytes xs ≡ true
    → shown reported bytes (xs ++ ys) ≡ shown reported bytes xs ++ shown reported bytes ys
unfolding shown all_shown
shown-append reported bytes [] ys all = refl
shown-append reported bytes (x ∷ xs) ys all =
    let both = and_parts (is_shown reported bytes x.end) (all_shown reported bytes xs) all in
    rw (both.0, shown-append reported bytes xs ys both.1, append_assoc) refl

shown-one : (reported : Option ℕ) (bytes : List ℕ) (x : Item) → is_shown reported bytes x.end ≡ true
    → shown reported bytes (x ∷ []) ≡ own_text bytes x
unfolding shown
shown-one reported bytes x showing = rw showing (append-nil (own_text bytes x))

shown-none : (reported : Option ℕ) (bytes : List ℕ) (x : Item) (xs : List Item)
    → is_shown reported bytes x.end ≡ false
    → shown reported bytes (x ∷ xs) ≡ stop_text reported x.end
unfolding shown
shown-none reported bytes x xs ending = rw ending refl

all_shown-more : (reported : Option ℕ) (bytes : List ℕ) (xs : List Item) (k : ℕ) (d : Item)
    → k < length xs → all_shown reported bytes (take k xs) ≡ true
    → is_shown reported bytes (get_or xs k d).end ≡ true
    → all_shown reported bytes (take (k + 1) xs) ≡ true
unfolding all_shown
all_shown-more reported bytes xs k d within all showing =
    list_all_more (λ (i : Item). is_shown reported bytes i.end) xs k d within
    ∙ rw (all, showing) refl

-- one more item is shown
pub shows_more : (a b c e : Printing) (reported : Option ℕ) (bytes : List ℕ) (xs : List Item)
    (k : ℕ) (d x : Item) → k < length xs → get_or xs k d ≡ x → is_shown reported bytes x.end ≡ true
    → all_shown reported bytes (take k xs) ≡ true → Prints a b (shown reported bytes (take k xs))
    → Prints b c (end_text reported bytes x.end) → Prints c e (own_text bytes x)
    → Prints a e (shown reported bytes (take (k + 1) xs))
    × (all_shown reported bytes (take (k + 1) xs) ≡ true)
shows_more a b c e reported bytes xs k d x within same showing all p q r =
    let step : Prints b e (own_text bytes x) = Prints-on (rw showing at q) r in
    let text : shown reported bytes (take (k + 1) xs) ≡ shown reported bytes (take k xs)
    ++ own_text bytes x =
    ap (shown reported bytes) (take_more xs k d within)
    ∙ shown-append reported bytes (take k xs) (get_or xs k d ∷ []) all
    ∙ ap (λ t. shown reported bytes (take k xs) ++ t) (rw same (shown-one reported bytes x showing))
    in
    (rw text (Prints-on p step), all_shown-more reported bytes xs k d within all (rw same showing))

-- an item is not shown
pub shows_no_more : (a b c : Printing) (reported : Option ℕ) (bytes : List ℕ) (xs : List Item)
    (k : ℕ) (d x : Item) → k < length xs → get_or xs k d ≡ x → is_shown reported bytes x.end ≡ false
    → all_shown reported bytes (take k xs) ≡ true → Prints a b (shown reported bytes (take k xs))
    → Prints b c (end_text reported bytes x.end)
    → Prints a c (shown reported bytes xs) × (false ≡ all_shown reported bytes xs)
unfolding all_shown
shows_no_more a b c reported bytes xs k d x within same ending all p q =
    let parts : xs ≡ take k xs ++ (get_or xs k d ∷ drop (suc k) xs) =
    sym (take-append-drop k xs) ∙ ap (λ t. take k xs ++ t) (drop-cons xs k d within) in
    let text : shown reported bytes xs ≡ shown reported bytes (take k xs)
    ++ stop_text reported x.end =
    ap (shown reported bytes) parts
    ∙ shown-append reported bytes (take k xs) (get_or xs k d ∷ drop (suc k) xs) all
    ∙ ap (λ t. shown reported bytes (take k xs) ++ t)
    (rw same (shown-none reported bytes x (drop (suc k) xs) ending)) in (
      rw text (Prints-on p (rw ending at q)),
      sym (list_all_at
          (λ (i : Item). is_shown reported bytes i.end) xs k d within (rw same ending)),
    )

-- all items are shown
pub shows_all : (a b : Printing) (reported : Option ℕ) (bytes : List ℕ) (xs : List Item) (k : ℕ)
    → length xs ≤ k → all_shown reported bytes (take k xs) ≡ true
    → Prints a b (shown reported bytes (take k xs))
    → Prints a b (shown reported bytes xs) × (true ≡ all_shown reported bytes xs)
shows_all a b reported bytes xs k past all p = (rw take_all at p, sym (rw take_all at all))

-- an item of a table of lines
pub line_at : (lines : List (Bor (List Field))) (k : ℕ) (d : Bor (List Field))
    → get_or (line_items (lines_of lines)) k (line_item (line_of d.now))
    ≡ line_item (line_of (get_or lines k d).now)
line_at [] zero d = refl
line_at [] (suc k) d = refl
line_at (x ∷ xs) zero d = refl
line_at (x ∷ xs) (suc k) d = line_at xs k d

-- ---- entries

-- the entries before `start` are printed, and `count` are enough for the entries after it
pub record EntriesShown (reported : Option ℕ) (bytes : List ℕ) (entry : Entry) (first start : ℕ)
    (a b : Printing) : Type 0 where
  pub count : ℕ
  pub so_far : List ℕ
  pub some : 0 < count
  pub enough : length bytes < start + count
  pub printed : Prints a b so_far
  pub whole : shown reported bytes (entries_from entry first bytes)
      ≡ so_far ++ shown reported bytes (entries count entry start bytes)

pub entries_begin : (reported : Option ℕ) (bytes : List ℕ) (entry : Entry) (first : ℕ)
    (a : Printing) → 1 ≤ first → 0 < length bytes
    → EntriesShown reported bytes entry first first a a
entries_begin reported bytes entry first a some given =
    record {
      count = length bytes;
      so_far = [];
      some = given;
      enough = omega arith;
      printed = Prints-nil a;
      whole = refl;
    }

entries-step : (reported : Option ℕ) (bytes : List ℕ) (entry : Entry) (start count end : ℕ)
    → end ≡ start + size entry (drop start bytes) → 0 < count → is_shown reported bytes end ≡ true
    → shown reported bytes (entries count entry start bytes)
    ≡ entry_text entry (slice_range bytes start end)
    ++ shown reported bytes (entries (count - 1) entry end bytes)
unfolding shown entries
entries-step reported bytes entry start zero end same some showing = absurd (omega arith)
entries-step reported bytes entry start (suc n) end same some showing =
    let back : suc n - 1 ≡ n = omega arith in
    rw (← same, showing, back) refl

entries-stop : (reported : Option ℕ) (bytes : List ℕ) (entry : Entry) (start count end : ℕ)
    → end ≡ start + size entry (drop start bytes) → 0 < count → is_shown reported bytes end ≡ false
    → shown reported bytes (entries count entry start bytes) ≡ stop_text reported end
unfolding shown entries
entries-stop reported bytes entry start zero end same some ending = absurd (omega arith)
entries-stop reported bytes entry start (suc n) end same some ending = rw (← same, ending) refl

pub entries_on : (reported : Option ℕ) (bytes : List ℕ) (entry : Entry) (first start end : ℕ)
    (a b c e : Printing) → EntriesShown reported bytes entry first start a b
    → end ≡ start + size entry (drop start bytes) → start < end → end ≤ length bytes
    → is_shown reported bytes end ≡ true → Prints b c (end_text reported bytes end)
    → Prints c e (entry_text entry (slice_range bytes start end))
    → EntriesShown reported bytes entry first end a e
entries_on reported bytes entry first start end a b c e w same more given showing q r =
    let step : Prints b e (entry_text entry (slice_range bytes start end)) =
    Prints-on (rw showing at q) r in
    record {
      count = w.count - 1;
      so_far = w.so_far ++ entry_text entry (slice_range bytes start end);
      some = omega arith;
      enough = omega arith;
      printed = Prints-on w.printed step;
      whole =
          w.whole ∙ ap (λ t. w.so_far
          ++ t) (entries-step reported bytes entry start w.count end same (omega arith) showing)
          ∙ sym (append_assoc w.so_far _ _);
    }

pub entries_end : (reported : Option ℕ) (bytes : List ℕ) (entry : Entry) (first start end : ℕ)
    (a b c : Printing) → EntriesShown reported bytes entry first start a b
    → end ≡ start + size entry (drop start bytes) → is_shown reported bytes end ≡ false
    → Prints b c (end_text reported bytes end)
    → Prints a c (shown reported bytes (entries_from entry first bytes))
entries_end reported bytes entry first start end a b c w same ending q =
    rw (w.whole, entries-stop reported bytes entry start w.count end same (omega arith) ending)
    (Prints-on w.printed (rw ending at q))

-- the length of an entry's header depends only on its first byte
pub header_own : (kind : EntryKind) (rest : List ℕ) (n : ℕ) → 1 ≤ n
    → (entry_of kind).header (take n rest) ≡ (entry_of kind).header rest
header_own SupportedPages rest n some = refl
header_own Designators rest n some = refl
header_own ModePages [] zero some = absurd (omega arith)
header_own ModePages [] (suc n) some = refl
header_own ModePages (x ∷ xs) zero some = absurd (omega arith)
header_own ModePages (x ∷ xs) (suc n) some = refl
header_own LbaStatusDescriptors rest n some = refl
header_own ReservationKeys rest n some = refl
header_own FullStatusDescriptors rest n some = refl
header_own ExtendedFullStatusDescriptors rest n some = refl
header_own Luns rest n some = refl
header_own CommandDescriptors rest n some = refl
header_own Timeouts rest n some = refl
header_own LogPages rest n some = refl
header_own LogSubpages rest n some = refl
header_own LogParameters rest n some = refl
header_own LogExceptions rest n some = refl
header_own LogResourceCounts rest n some = refl
header_own ModePagePolicies rest n some = refl
header_own ScsiPorts rest n some = refl
header_own ShortDefects rest n some = refl
header_own LongDefects rest n some = refl

-- an entry in one line
pub one_line : (a b : Printing) (line : Line) (own : List ℕ) → Prints a b (line_text line own)
    → Prints a b (flat_map (λ (l : Line). line_text l own) (line ∷ []))
one_line a b line own p = rw (append-nil (line_text line own)) p

front_of : (bytes : List ℕ) (n : ℕ) → slice_range bytes 0 n ≡ take n bytes
front_of bytes n = grind (arith, common_steps)

length-line_items : (lines : List (Bor (List Field)))
    → length (line_items (lines_of lines)) ≡ length lines
length-line_items [] = refl
length-line_items (x ∷ xs) = ap suc (length-line_items xs)

-- one more line of a table is shown
pub lines_more : (a b c e : Printing) (reported : Option ℕ) (bytes : List ℕ)
    (lines : List (Bor (List Field))) (k : ℕ) (d : Bor (List Field)) (end : ℕ)
    → k < length lines → end ≡ line_end (line_of (get_or lines k d).now)
    → is_shown reported bytes end ≡ true
    → all_shown reported bytes (take k (line_items (lines_of lines))) ≡ true
    → Prints a b (shown reported bytes (take k (line_items (lines_of lines))))
    → Prints b c (end_text reported bytes end)
    → Prints c e (line_text (line_of (get_or lines k d).now) (take end bytes))
    → Prints a e (shown reported bytes (take (k + 1) (line_items (lines_of lines))))
    × (all_shown reported bytes (take (k + 1) (line_items (lines_of lines))) ≡ true)
lines_more a b c e reported bytes lines k d end within same showing all p q r =
    shows_more a b c e reported bytes (line_items (lines_of lines)) k (line_item (line_of d.now))
    (line_item (line_of (get_or lines k d).now))
    (rw (length-line_items lines) within) (line_at lines k d) (rw same at showing) all p
    (rw same at q) (rw (front_of bytes) (rw same at r))

-- a line of a table is not shown
pub lines_no_more : (a b c : Printing) (reported : Option ℕ) (bytes : List ℕ)
    (lines : List (Bor (List Field))) (k : ℕ) (d : Bor (List Field)) (end : ℕ)
    → k < length lines → end ≡ line_end (line_of (get_or lines k d).now)
    → is_shown reported bytes end ≡ false
    → all_shown reported bytes (take k (line_items (lines_of lines))) ≡ true
    → Prints a b (shown reported bytes (take k (line_items (lines_of lines))))
    → Prints b c (end_text reported bytes end)
    → Prints a c (shown reported bytes (line_items (lines_of lines)))
    × (false ≡ all_shown reported bytes (line_items (lines_of lines)))
lines_no_more a b c reported bytes lines k d end within same ending all p q =
    shows_no_more a b c reported bytes (line_items (lines_of lines)) k (line_item (line_of d.now))
    (line_item (line_of (get_or lines k d).now))
    (rw (length-line_items lines) within) (line_at lines k d) (rw same at ending) all p
    (rw same at q)

-- an item that is shown lies in the bytes
pub shown_given : (reported : Option ℕ) (bytes : List ℕ) (end : ℕ)
    → is_shown reported bytes end ≡ true → end ≤ length bytes
shown_given reported bytes end showing =
    let within : nat_le end (length bytes) ≡ true =
    (and_parts (not (passes end reported)) (nat_le end (length bytes)) showing).1 in
    grind (arith, nat_tests)

pub shown_in_time : (reported : ℕ) (bytes : List ℕ) (end : ℕ)
    → is_shown (Some reported) bytes end ≡ true → end ≤ reported
shown_in_time reported bytes end showing =
    let within : not (nat_lt reported end) ≡ true =
    (and_parts (not (nat_lt reported end)) (nat_le end (length bytes)) showing).0 in
    grind (arith, nat_tests)

header_in_size : (entry : Entry) (bytes : List ℕ) → entry.header bytes ≤ size entry bytes
header_in_size entry bytes =
    elim (nat_le (entry.header bytes) (length bytes)) as
    (λ b. entry.header bytes ≤ (if b then entry.header bytes + entry.following bytes else
    entry.header bytes)) [ true ↦ omega arith | false ↦ omega arith ]

-- all of the header of an entry that is shown is present
pub header_fits : (kind : EntryKind) (bytes : List ℕ) (start n : ℕ)
    → n ≡ size (entry_of kind) (drop start bytes) → start + n ≤ length bytes → 1 ≤ n
    → (entry_of kind).header (slice_range bytes start (start + n)) ≤ length
    (slice_range bytes start (start + n))
header_fits kind bytes start n same given some =
    let back : start + n - start ≡ n = omega arith in
    let own : length (take n (drop start bytes)) ≡ n = grind (arith, common_steps) in
    let header : (entry_of kind).header (drop start bytes) ≤ n =
    rw same (header_in_size (entry_of kind) (drop start bytes)) in
    rw (back, own, header_own kind (drop start bytes) n some) header

-- ---- as much as is present

pub as_present-text : (first reported : ℕ) (f : List ℕ → List ℕ) (bytes : List ℕ)
    → shown (Some reported) bytes (as_present first reported f bytes)
    ≡ f (slice_range bytes first (min reported (length bytes)))
    ++ (if nat_le reported (length bytes) then [] else codes "  truncated\n")
unfolding shown
as_present-text first reported f bytes =
    let least : nat_lt reported (min reported (length bytes)) ≡ false = grind (arith, nat_tests) in
    let given : nat_le (min reported (length bytes)) (length bytes) ≡ true =
    grind (arith, nat_tests) in
    let same : nat_lt reported reported ≡ false = grind (arith, nat_tests) in
    rw (least, given, same) refl

-- a part of the reported bytes
pub part_present : (first reported end : ℕ) (f : List ℕ → List ℕ) (bytes : List ℕ) → reported ≤ end
    → (shown (Some end) bytes (as_present first reported f bytes)
    ≡ f (slice_range bytes first (min reported (length bytes)))
    ++ (if nat_le reported (length bytes) then [] else codes "  truncated\n"))
    × (nat_le reported (length bytes) ≡ all_shown (Some end) bytes (as_present first reported f bytes))
unfolding shown all_shown
part_present first reported end f bytes within =
    let least : nat_lt end (min reported (length bytes)) ≡ false = grind (arith, nat_tests) in
    let given : nat_le (min reported (length bytes)) (length bytes) ≡ true =
    grind (arith, nat_tests) in
    let same : nat_lt end reported ≡ false = grind (arith, nat_tests) in
    let last : nat_le reported (length bytes) ≡ (nat_le reported (length bytes) && true) =
    elim (nat_le reported (length bytes)) as (λ v. v ≡ (v && true)) [ true ↦ refl | false ↦ refl ] in
    (rw (least, given, same) refl, rw (least, given, same) last)

-- ---- one part after another

pub shown-both : (reported : Option ℕ) (bytes : List ℕ) (xs ys : List Item)
    → shown reported bytes (xs ++ ys) ≡ shown reported bytes xs
    ++ (if all_shown reported bytes xs then shown reported bytes ys else [])
unfolding shown all_shown
shown-both reported bytes [] ys = refl
shown-both reported bytes (x ∷ xs) ys =
    elim (is_shown reported bytes x.end) as (λ b.
    (if b then own_text bytes x ++ shown reported bytes (xs ++ ys) else stop_text reported x.end)
    ≡ (if b then own_text bytes x ++ shown reported bytes xs else stop_text reported x.end)
    ++ (if b && all_shown reported bytes xs then shown reported bytes ys else [])) [
      | true ↦ ap (λ t. own_text bytes x ++ t) (shown-both reported bytes xs ys)
          ∙ sym (append_assoc (own_text bytes x) (shown reported bytes xs) _)
      | false ↦ sym (append-nil (stop_text reported x.end))
    ]

-- lines that are all shown lie in the bytes
pub all_given : (reported : Option ℕ) (bytes : List ℕ) (lines : List Line)
    → all_shown reported bytes (line_items lines) ≡ true → lines_end lines ≤ length bytes
unfolding all_shown
all_given reported bytes [] all = omega arith
all_given reported bytes (x ∷ xs) all =
    let both = and_parts (is_shown reported bytes (line_end x))
    (all_shown reported bytes (line_items xs)) all in
    let here = shown_given reported bytes (line_end x) both.0 in
    let rest = all_given reported bytes xs both.1 in
    omega arith

pub lines_all : (a b : Printing) (reported : Option ℕ) (bytes : List ℕ)
    (lines : List (Bor (List Field))) (k : ℕ) → length lines ≤ k
    → all_shown reported bytes (take k (line_items (lines_of lines))) ≡ true
    → Prints a b (shown reported bytes (take k (line_items (lines_of lines))))
    → Prints a b (shown reported bytes (line_items (lines_of lines)))
    × (true ≡ all_shown reported bytes (line_items (lines_of lines)))
lines_all a b reported bytes lines k past all p =
    shows_all a b reported bytes (line_items (lines_of lines)) k (rw (length-line_items lines) past)
    all p

pub both_shown : (reported : Option ℕ) (bytes : List ℕ) (xs ys : List Item) (a b c : Printing)
    (all : Bool) → all ≡ all_shown reported bytes xs → all ≡ true
    → Prints a b (shown reported bytes xs) → Prints b c (shown reported bytes ys)
    → Prints a c (shown reported bytes (xs ++ ys))
both_shown reported bytes xs ys a b c all same showing p q =
    let on : all_shown reported bytes xs ≡ true = cc in
    rw (shown-both reported bytes xs ys, on) (Prints-on p q)

pub first_shown : (reported : Option ℕ) (bytes : List ℕ) (xs ys : List Item) (a b : Printing)
    (all : Bool) → all ≡ all_shown reported bytes xs → all ≡ false
    → Prints a b (shown reported bytes xs) → Prints a b (shown reported bytes (xs ++ ys))
first_shown reported bytes xs ys a b all same ending p =
    let over : all_shown reported bytes xs ≡ false = cc in
    rw (shown-both reported bytes xs ys, over, append-nil (shown reported bytes xs)) p

-- ---- at most one item

pub none_shown : (reported : Option ℕ) (bytes : List ℕ) (a : Printing)
    → Prints a a (shown reported bytes []) × (true ≡ all_shown reported bytes [])
unfolding shown all_shown
none_shown reported bytes a = (Prints-nil a, refl)

pub one_shown : (reported : Option ℕ) (bytes : List ℕ) (x : Item) (a b c : Printing)
    → is_shown reported bytes x.end ≡ true → Prints a b (end_text reported bytes x.end)
    → Prints b c (own_text bytes x)
    → Prints a c (shown reported bytes (x ∷ [])) × (true ≡ all_shown reported bytes (x ∷ []))
unfolding all_shown
one_shown reported bytes x a b c showing p q =
    (rw (shown-one reported bytes x showing) (Prints-on (rw showing at p) q), rw showing refl)

pub one_ending : (reported : Option ℕ) (bytes : List ℕ) (x : Item) (a b : Printing)
    → is_shown reported bytes x.end ≡ false → Prints a b (end_text reported bytes x.end)
    → Prints a b (shown reported bytes (x ∷ [])) × (false ≡ all_shown reported bytes (x ∷ []))
unfolding all_shown
one_ending reported bytes x a b ending p =
    (rw (shown-none reported bytes x [] ending) (rw ending at p), rw ending refl)

-- an item that has to be present and has no text
pub blank_shown : (reported : Option ℕ) (bytes : List ℕ) (first end : ℕ) (a b : Printing)
    (all : Bool) → all ≡ is_shown reported bytes end → Prints a b (end_text reported bytes end)
    → Prints a b (shown reported bytes (item first end (λ own. []) ∷ []))
    × (all ≡ all_shown reported bytes (item first end (λ own. []) ∷ []))
unfolding shown all_shown
blank_shown reported bytes first end a b all same p =
    let text : end_text reported bytes end
    ≡ shown reported bytes (item first end (λ own. []) ∷ []) =
    elim (is_shown reported bytes end) as (λ v. (if v then [] else stop_text reported end)
    ≡ (if v then [] else stop_text reported end)) [ true ↦ refl | false ↦ refl ] in
    let answer : is_shown reported bytes end ≡ (is_shown reported bytes end && true) =
    elim (is_shown reported bytes end) as (λ v. v ≡ (v && true)) [ true ↦ refl | false ↦ refl ] in
    (rw (← text) p, same ∙ answer)

pub sure_shown : (reported : Option ℕ) (bytes : List ℕ) (x : Item) (a b : Printing)
    → is_shown reported bytes x.end ≡ true → Prints a b (own_text bytes x)
    → Prints a b (shown reported bytes (x ∷ []))
sure_shown reported bytes x a b showing p = rw (shown-one reported bytes x showing) p
