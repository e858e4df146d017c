-- The one rule of all texts: it says which items of an answer are shown.
use Rattle.std.specs.Prelude.{ℕ, zero, suc, ◌+◌, List, [], ◌∷◌, ◌++◌, length, drop, map, min}
use Rattle.std.specs.Prelude.{codes, slice_range, Option, Some, None, Bool, false, ◌&&◌, not}
use Rattle.std.specs.Prelude.{nat_le, nat_lt, if◌then◌else◌}
use Rattle.std.specs.List.{list_all, flat_map}
use Rattle.sg_decode.specs.Lines.{Line, line_text, line_end}

-- An item: the bytes before `end` that are shown from `first` on, in a text of only these bytes.
pub record Item : Type 0 where
  pub first : ℕ
  pub end : ℕ
  pub text : List ℕ → List ℕ

abbrev pub item : (first end : ℕ) → (List ℕ → List ℕ) → Item
item first end text = record { first = first; end = end; text = text }

-- ---- The rule

-- The reported end is the end of the answer by its own length field. Before that field is read
-- there is no reported end.
abbrev pub passes : (end : ℕ) → (reported : Option ℕ) → Bool
passes end None = false
passes end (Some reported) = nat_lt reported end

-- An item is shown if it passes neither the reported end nor the bytes that are present.
abbrev pub is_shown : (reported : Option ℕ) → (bytes : List ℕ) → (end : ℕ) → Bool
is_shown reported bytes end = not (passes end reported) && nat_le end (length bytes)

-- The text in place of the first item that is not shown. If the item passes the reported end, the
-- answer is over; otherwise bytes are missing.
abbrev pub stop_text : (reported : Option ℕ) → (end : ℕ) → List ℕ
stop_text reported end = if passes end reported then [] else codes "  truncated\n"

-- The items in their order, up to the first that is not shown.
unfoldable pub shown : (reported : Option ℕ) → (bytes : List ℕ) → List Item → List ℕ
shown reported bytes [] = []
shown reported bytes (i ∷ more) =
    if is_shown reported bytes i.end
    then i.text (slice_range bytes i.first i.end) ++ shown reported bytes more
    else stop_text reported i.end

unfoldable pub all_shown : (reported : Option ℕ) → (bytes : List ℕ) → List Item → Bool
all_shown reported bytes items = list_all (λ (i : Item). is_shown reported bytes i.end) items

-- ---- Kinds of items

-- A line, whose indexes count from the first byte of the answer.
abbrev pub line_item : Line → Item
line_item line = item 0 (line_end line) (line_text line)

abbrev pub line_items : List Line → List Item
line_items lines = map line_item lines

-- A text of all bytes from `first` up to the reported end. It shows as many of them as are present.
-- The second item, which is empty, needs all of them.
abbrev pub as_present : (first reported : ℕ) → (List ℕ → List ℕ) → List ℕ → List Item
as_present first reported text bytes =
    item first (min reported (length bytes)) text
    ∷ item reported reported (λ own. [])
    ∷ []

-- A kind of entries that follow one another, each of them one item. The kind has the length of an
-- entry's header, the number of bytes that follow by this header, and the lines of an entry. Their
-- indexes count from the entry's first byte.
pub record Entry : Type 0 where
  pub header : List ℕ → ℕ
  pub following : List ℕ → ℕ
  pub lines : List ℕ → List Line

-- The size of the first entry of some bytes. If not all of its header is present, it is the size of
-- the header.
abbrev pub size : Entry → List ℕ → ℕ
size entry bytes =
    if nat_le (entry.header bytes) (length bytes)
    then entry.header bytes + entry.following bytes
    else entry.header bytes

abbrev pub entry_text : Entry → List ℕ → List ℕ
entry_text entry own = flat_map (λ line. line_text line own) (entry.lines own)

-- A number of entries. The first begins at `first`.
unfoldable pub entries : (count : ℕ) → Entry → (first : ℕ) → List ℕ → List Item
entries zero entry first bytes = []
entries (suc count) entry first bytes =
    let end = first + size entry (drop first bytes) in
    item first end (entry_text entry) ∷ entries count entry end bytes

-- All entries. Each has at least one byte, so no more can be shown than there are bytes.
abbrev pub entries_from : Entry → (first : ℕ) → List ℕ → List Item
entries_from entry first bytes = entries (length bytes) entry first bytes

-- ---- Answers

-- The items up to the length field, which are shown whatever it contains; the reported end; and the
-- items after the length field.
pub record Decoder : Type 0 where
  pub header : List Item
  pub reported_end : List ℕ → ℕ
  pub body : (bytes : List ℕ) → (end : ℕ) → List Item

abbrev pub body_text : Decoder → List ℕ → List ℕ
body_text d bytes =
    let end = d.reported_end bytes in shown (Some end) bytes (d.body bytes end)

-- The text of an answer.
unfoldable pub decoded : Decoder → List ℕ → List ℕ
decoded d bytes =
    shown None bytes d.header
    ++ (if all_shown None bytes d.header then body_text d bytes else [])

-- ---- Cited only by private contracts

-- The text for the end of an item: nothing if the item is shown.
abbrev pub end_text : (reported : Option ℕ) → (bytes : List ℕ) → (end : ℕ) → List ℕ
end_text reported bytes end =
    if is_shown reported bytes end then [] else stop_text reported end
