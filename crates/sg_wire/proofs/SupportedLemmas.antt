-- What REPORT SUPPORTED OPERATION CODES returns, entry by entry of the code's list.
use Rattle.std.proofs.Common.{◌≡◌, ◌<◌, ◌≤◌, ◌*◌, ◌+◌, ℕ, List, [], ◌∷◌, ◌++◌, length, get_or, drop, cond}
use Rattle.std.proofs.Common.{filter, map, Bool, true, false, Option, Some, refl, sym, ap, ◌∙◌}
use Rattle.std.proofs.Common.{arith, length-append}
use Rattle.std.proofs.lemmas.List.{drop_more, drop_all, length-map}
use Rattle.std.proofs.lemmas.List.Sums.{count_by-le-length, length-filter}
use Rattle.byteorder.specs.Endian.{big_bytes}
use Rattle.std.specs.List.{flat_map, list_all}
use Rattle.std.specs.Prelude.{find, ◌&&◌}
use Rattle.sg_wire.specs.Layout.{Layout}
use Rattle.sg_wire.specs.Profile.{is_in}
use Rattle.sg_wire.specs.SupportedOperations.{all_commands, command_descriptor, each_row_has, has_action_if}
use Rattle.sg_wire.specs.SupportedOperations.{is_requested, longest_support_report, row_requested}
use Rattle.sg_wire.specs.SupportedOperations.{rows_of}
use Rattle.sg_wire.specs.CdbDecoding.{rows_in}
use Rattle.sg_wire.specs.Table.{AreEntries, entry_layout, descriptor_length, is_row, layouts_in, layouts_of}
use Rattle.sg_wire.specs.Table.{layouts_with}
use Rattle.sg_wire.specs.declared.command.entry.Entry.{Entry}
use Rattle.sg_wire.specs.declared.profile.Profile.{Profile}

-- one more entry, which passes a test of its layout or not
module _ (test : Layout → Bool) (entries : List Entry) (i : ℕ) (d : Entry) where
  abbrev passing : List Entry → List Layout
  passing es = filter test (map entry_layout es)

  one-more : i < length entries → passing (drop i entries)
      ≡ cond (test (entry_layout (get_or entries i d)))
      (entry_layout (get_or entries i d) ∷ passing (drop (i + 1) entries))
      (passing (drop (i + 1) entries))
  one-more h = ap passing (drop_more entries i d h)

  by-test : (b : Bool) → i < length entries → test (entry_layout (get_or entries i d)) ≡ b
      → passing (drop i entries)
      ≡ cond b (entry_layout (get_or entries i d) ∷ passing (drop (i + 1) entries))
      (passing (drop (i + 1) entries))
  by-test b h e =
      one-more h
      ∙ ap (λ b. cond b (entry_layout (get_or entries i d) ∷ passing (drop (i + 1) entries))
      (passing (drop (i + 1) entries))) e

module _ (profile : Profile) (entries : List Entry) (i : ℕ) (d : Entry) where
  abbrev this : Layout
  this = entry_layout (get_or entries i d)

  pub in-yes : i < length entries → is_in this.profile profile ≡ true
      → layouts_in profile (drop i entries) ≡ this ∷ layouts_in profile (drop (i + 1) entries)
  unfolding layouts_in layouts_of
  in-yes h e = by-test (λ l. is_in l.profile profile) entries i d true h e

  pub in-no : i < length entries → is_in this.profile profile ≡ false
      → layouts_in profile (drop i entries) ≡ layouts_in profile (drop (i + 1) entries)
  unfolding layouts_in layouts_of
  in-no h e = by-test (λ l. is_in l.profile profile) entries i d false h e

  pub with-yes : (opcode : ℕ) → i < length entries → is_row profile opcode this ≡ true
      → layouts_with profile opcode (drop i entries)
      ≡ this ∷ layouts_with profile opcode (drop (i + 1) entries)
  unfolding layouts_with layouts_of
  with-yes opcode h e = by-test (is_row profile opcode) entries i d true h e

  pub with-no : (opcode : ℕ) → i < length entries → is_row profile opcode this ≡ false
      → layouts_with profile opcode (drop i entries)
      ≡ layouts_with profile opcode (drop (i + 1) entries)
  unfolding layouts_with layouts_of
  with-no opcode h e = by-test (is_row profile opcode) entries i d false h e

-- the entries of the table give its rows
pub all-in : (profile : Profile) (entries : List Entry) → AreEntries entries
    → layouts_in profile entries ≡ rows_of profile
unfolding layouts_in AreEntries
all-in profile entries h = ap (filter (λ l. is_in l.profile profile)) h

pub all-with : (profile : Profile) (opcode : ℕ) (entries : List Entry) → AreEntries entries
    → layouts_with profile opcode entries ≡ rows_in profile opcode
unfolding layouts_with AreEntries
all-with profile opcode entries h = ap (filter (is_row profile opcode)) h

-- each row of an operation code has a service action, or each has none
module _ (with_action : Bool) (profile : Profile) (opcode : ℕ) (entries : List Entry) where
  abbrev pub have : List Entry → Bool
  have es =
      list_all (λ (l : Layout). has_action_if with_action l.action) (layouts_with profile opcode es)

  pub have-each : AreEntries entries → have entries ≡ each_row_has profile opcode with_action
  unfolding each_row_has
  have-each h =
      ap (list_all (λ (l : Layout). has_action_if with_action l.action)) (all-with profile opcode entries h)

  module _ (i : ℕ) (d : Entry) (h : i < length entries) where
    abbrev its : Layout
    its = entry_layout (get_or entries i d)

    have-by : (b : Bool) → is_row profile opcode its ≡ true → has_action_if with_action its.action ≡ b
        → have (drop i entries) ≡ (b && have (drop (i + 1) entries))
    have-by b is fits =
        ap (list_all (λ (l : Layout). has_action_if with_action l.action))
        (with-yes profile entries i d opcode h is)
        ∙ ap (λ b. b && have (drop (i + 1) entries)) fits

    pub have-not : is_row profile opcode its ≡ true → has_action_if with_action its.action ≡ false
        → have (drop i entries) ≡ false
    have-not is fits = have-by false is fits

    pub have-this : is_row profile opcode its ≡ true → has_action_if with_action its.action ≡ true
        → have (drop i entries) ≡ have (drop (i + 1) entries)
    have-this is fits = have-by true is fits

    pub have-other : is_row profile opcode its ≡ false
        → have (drop i entries) ≡ have (drop (i + 1) entries)
    have-other is =
        ap (list_all (λ (l : Layout). has_action_if with_action l.action))
        (with-no profile entries i d opcode h is)

-- the row of an operation code and a service action
module _ (action : ℕ) (profile : Profile) (opcode : ℕ) (entries : List Entry) where
  abbrev pub found : List Entry → Option Layout
  found es = find (is_requested action) (layouts_with profile opcode es)

  pub found-each : AreEntries entries → found entries ≡ row_requested profile opcode action
  unfolding row_requested
  found-each h = ap (find (is_requested action)) (all-with profile opcode entries h)

  module _ (i : ℕ) (d : Entry) (h : i < length entries) where
    abbrev its_row : Layout
    its_row = entry_layout (get_or entries i d)

    found-by : (b : Bool) → is_row profile opcode its_row ≡ true → is_requested action its_row ≡ b
        → found (drop i entries) ≡ cond b (Some its_row) (found (drop (i + 1) entries))
    found-by b is fits =
        ap (find (is_requested action)) (with-yes profile entries i d opcode h is)
        ∙ ap (λ b. cond b (Some its_row) (found (drop (i + 1) entries))) fits

    pub found-this : is_row profile opcode its_row ≡ true → is_requested action its_row ≡ true
        → found (drop i entries) ≡ Some its_row
    found-this is fits = found-by true is fits

    pub found-not : is_row profile opcode its_row ≡ true → is_requested action its_row ≡ false
        → found (drop i entries) ≡ found (drop (i + 1) entries)
    found-not is fits = found-by false is fits

    pub found-other : is_row profile opcode its_row ≡ false
        → found (drop i entries) ≡ found (drop (i + 1) entries)
    found-other is = ap (find (is_requested action)) (with-no profile entries i d opcode h is)

-- the lengths of descriptors
one-length : (t : Bool) (l : Layout) → length (command_descriptor t l) ≡ descriptor_length t
one-length true l = refl
one-length false l = refl

lengths : (t : Bool) (ls : List Layout)
    → length (flat_map (command_descriptor t) ls) ≡ descriptor_length t * length ls
lengths true [] = refl
lengths false [] = refl
lengths true (l ∷ ls) =
    omega (
      arith,
      length-append (command_descriptor true l) (flat_map (command_descriptor true) ls),
      one-length true l,
      lengths true ls,
    )
lengths false (l ∷ ls) =
    omega (
      arith,
      length-append (command_descriptor false l) (flat_map (command_descriptor false) ls),
      one-length false l,
      lengths false ls,
    )

-- a part of a list is no longer
filter-length : (test : Layout → Bool) (ls : List Layout) → length (filter test ls) ≤ length ls
filter-length test ls = omega (arith, length-filter test ls, count_by-le-length test ls)

pub in-length : (profile : Profile) (entries : List Entry)
    → length (layouts_in profile entries) ≤ length entries
unfolding layouts_in layouts_of
in-length profile entries =
    omega (
      arith,
      filter-length (λ l. is_in l.profile profile) (map entry_layout entries),
      length-map entries entry_layout,
    )

pub product : (t : Bool) (n count : ℕ) → n ≡ descriptor_length t → count ≤ 62 → n * count ≤ 1240
product true n count e h = rw e (omega arith)
product false n count e h = rw e (omega arith)

bounded : (t : Bool) (n count : ℕ) → n ≡ 4 + descriptor_length t * count → count ≤ 62
    → n ≤ longest_support_report
bounded true n count e h = omega (arith, e)
bounded false n count e h = omega (arith, e)

-- the descriptors of all commands
module _ (timeouts : Bool) where
  abbrev descriptors : List Layout → List ℕ
  descriptors ls = flat_map (command_descriptor timeouts) ls

  pub all-put : (profile : Profile) (entries : List Entry) → AreEntries entries
      → big_bytes 4 (descriptor_length timeouts * length (layouts_in profile entries))
      ++ descriptors (layouts_in profile entries) ≡ all_commands profile timeouts
  unfolding all_commands
  all-put profile entries h =
      ap (λ n. big_bytes 4 n ++ descriptors (layouts_in profile entries))
      (sym (lengths timeouts (layouts_in profile entries)))
      ∙ ap (λ ls. big_bytes 4 (length (descriptors ls)) ++ descriptors ls) (all-in profile entries h)

  pub all-length : (profile : Profile) (entries : List Entry) → AreEntries entries
      → length entries ≡ 62 → length (all_commands profile timeouts) ≤ longest_support_report
  all-length profile entries h count =
      bounded timeouts _ _ (sym (ap length (all-put profile entries h))
      ∙ length-append (big_bytes 4 (descriptor_length timeouts * length (layouts_in profile entries)))
      (descriptors (layouts_in profile entries))
      ∙ ap (λ n. 4 + n) (lengths timeouts (layouts_in profile entries)))
      (omega (arith, in-length profile entries, count))

-- no entry is left
pub in-end : (profile : Profile) (entries : List Entry) (i : ℕ) → length entries ≤ i
    → layouts_in profile (drop i entries) ≡ []
unfolding layouts_in layouts_of
in-end profile entries i h =
    ap (λ es. filter (λ l. is_in l.profile profile) (map entry_layout es)) (drop_all i entries h)

pub with-end : (profile : Profile) (opcode : ℕ) (entries : List Entry) (i : ℕ) → length entries ≤ i
    → layouts_with profile opcode (drop i entries) ≡ []
unfolding layouts_with layouts_of
with-end profile opcode entries i h =
    ap (λ es. filter (is_row profile opcode) (map entry_layout es)) (drop_all i entries h)

pub ruleset no_entry = (in-end, with-end)
