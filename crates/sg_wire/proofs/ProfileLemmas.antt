-- What a profile has of the table: an operation code has all of its rows, some, or none.
use Rattle.std.proofs.Common.{◌≡◌, ℕ, ◌==◌, List, [], ◌∷◌, ◌++◌, length, filter, Bool, true, false, not, cond}
use Rattle.std.proofs.Common.{Option, Some, None, Result, Ok, Err, refl, sym, ap, ◌∙◌}
use Rattle.std.proofs.lemmas.Bool.{and_parts, eqb-true}
use Rattle.std.specs.List.{list_all}
use Rattle.std.specs.Prelude.{◌&&◌, ◌||◌, find, nat_lt, if◌then◌else◌}
use Rattle.sg_wire.specs.CdbDecoding.{command_by_row, command_by_rows, command_in, command_of}
use Rattle.sg_wire.specs.CdbDecoding.{has_action_of, is_blocked_in, make_from, rows_in, unless_bad}
use Rattle.sg_wire.specs.CdbFields.{Field, allows_field, is_zero}
use Rattle.sg_wire.specs.Laws.{IsReadAs, has_command}
use Rattle.sg_wire.specs.Layout.{Layout, layout, length_of, table}
use Rattle.sg_wire.specs.Profile.{is_in}
use Rattle.sg_wire.specs.declared.command.CdbFault.{CdbFault}
use Rattle.sg_wire.specs.declared.command.CdbFault.TheVariants.{Short}
use Rattle.sg_wire.specs.declared.command.Command.{Command}
use Rattle.sg_wire.specs.declared.command.Command.TheVariants as command
use Rattle.sg_wire.specs.declared.profile.Profile.{Profile}
use Rattle.sg_wire.specs.declared.profile.Profile.TheVariants.{Base, Extended}
use Rattle.sg_wire.proofs.ClassLemmas.{made-by_row}
use Rattle.sg_wire.proofs.FieldLemmas.{AllowsBits, have_fields}

-- only PERSISTENT RESERVE OUT has a service action that a base disk lacks
abbrev pub is_whole : Command → Bool
is_whole (command.PersistentReserveOut c) = false
is_whole other = true

-- the rows of any other command's operation code, in each profile: it computes
rows-by : (profile : Profile) (command : Command) → is_whole command ≡ true
    → rows_in profile (layout command).opcode
    ≡ (if is_in (layout command).profile profile then rows_in Extended (layout command).opcode else [])
rows-by Base (command.PersistentReserveOut c) whole = cc
rows-by Base command.TestUnitReady whole = refl
rows-by Base other whole = refl
rows-by Extended (command.PersistentReserveOut c) whole = cc
rows-by Extended command.TestUnitReady whole = refl
rows-by Extended other whole = refl

module _ (profile : Profile) (command : Command) where
  abbrev rows_if : Bool → List Layout
  rows_if b = if b then rows_in Extended (layout command).opcode else []

  -- a profile that has it has all rows of its operation code
  pub rows-same : is_whole command ≡ true → is_in (layout command).profile profile ≡ true
      → rows_in profile (layout command).opcode ≡ rows_in Extended (layout command).opcode
  rows-same whole has = rows-by profile command whole ∙ ap rows_if has

  -- a profile that lacks it has none of them
  pub rows-none : is_whole command ≡ true → is_in (layout command).profile profile ≡ false
      → rows_in profile (layout command).opcode ≡ []
  rows-none whole lacks = rows-by profile command whole ∙ ap rows_if lacks

-- the rows that only an extended disk has follow those of a base disk
abbrev rows_added : (opcode : ℕ) → List Layout
rows_added opcode = filter (λ l. l.opcode == opcode && not (is_in l.profile Base)) table

rows-split : (command : Command) → rows_in Extended (layout command).opcode
    ≡ rows_in Base (layout command).opcode ++ rows_added (layout command).opcode
rows-split command.TestUnitReady = refl
rows-split other = refl

-- the operation code of the first row
abbrev pub first_opcode : List Layout → Option ℕ
first_opcode [] = None
first_opcode (l ∷ ls) = Some l.opcode

-- a profile that has a command has a row of its operation code
pub has_row : (profile : Profile) (command : Command) → is_in (layout command).profile profile ≡ true
    → first_opcode (rows_in profile (layout command).opcode) ≡ Some (layout command).opcode
has_row Base command.TestUnitReady has = refl
has_row Base other has = cc
has_row Extended command.TestUnitReady has = refl
has_row Extended other has = refl

-- an attention blocks all of them, or none
pub blocked-rows : (profile : Profile) (command : Command)
    → is_in (layout command).profile profile ≡ true
    → list_all (λ (l : Layout). l.blocked_by_attention) (rows_in profile (layout command).opcode)
    ≡ (layout command).blocked_by_attention
blocked-rows Base command.TestUnitReady has = refl
blocked-rows Base other has = cc
blocked-rows Extended command.TestUnitReady has = refl
blocked-rows Extended other has = refl

-- no profile has an operation code that the extended one lacks
more : (profile : Profile) → is_in profile Extended ≡ true
more Base = refl
more Extended = refl

-- or a field
has-fields : (fields : List Field) → list_all (allows_field Extended) fields ≡ true
has-fields [] = refl
has-fields (f ∷ fields) =
    ap (λ (b : Bool). (b || is_zero f.place f.value) && list_all (allows_field Extended) fields)
    (more f.profile)
    ∙ has-fields fields

pub is-in_any : (command : Command) → has_command Extended command ≡ true
is-in_any command =
    ap (λ (b : Bool). b && is_in (layout command).profile Extended) (has-fields (layout command).fields)
    ∙ more (layout command).profile

-- a profile that has a command has its row and its fields
pub has-parts : (profile : Profile) (command : Command) → has_command profile command ≡ true
    → (have_fields profile command ≡ true) × (is_in (layout command).profile profile ≡ true)
has-parts profile command has =
    and_parts (have_fields profile command) (is_in (layout command).profile profile) has

module _ (profile : Profile) (opcode : ℕ) where
  abbrev rows_among : Profile → List Layout → List Layout
  rows_among p ls = filter (λ l. l.opcode == opcode && is_in l.profile p) ls

  none-step : (is_it is_here is_there : Bool) (l : Layout) (here there : List Layout)
      → is_there ≡ true → cond (is_it && is_there) (l ∷ there) there ≡ []
      → (there ≡ [] → here ≡ []) → cond (is_it && is_here) (l ∷ here) here ≡ []
  none-step true is_here true l here there e h k = cc
  none-step true is_here false l here there e h k = cc
  none-step false is_here is_there l here there e h k = k h

  none-among : (ls : List Layout) → rows_among Extended ls ≡ [] → rows_among profile ls ≡ []
  none-among [] h = refl
  none-among (l ∷ ls) h =
      none-step (l.opcode == opcode) (is_in l.profile profile) (is_in l.profile Extended) l _ _
      (more l.profile) h (none-among ls)

  pub none-in : rows_in Extended opcode ≡ [] → rows_in profile opcode ≡ []
  none-in h = none-among table h

  -- which of them a test finds
  module _ (test : Layout → Bool) where
    found-step : (is_its : Bool) (l row : Layout) (one another : Option Layout)
        → cond is_its (Some l) one ≡ Some row → (one ≡ Some row → another ≡ Some row)
        → cond is_its (Some l) another ≡ Some row
    found-step true l row one another e k = e
    found-step false l row one another e k = k e

    lost-step : (is_its : Bool) (l row : Layout) (one another : Option Layout)
        → cond is_its (Some l) one ≡ Some row → is_in l.profile profile ≡ false
        → is_in row.profile profile ≡ true → (one ≡ Some row → another ≡ Some row) → another ≡ Some row
    lost-step true l row one another e lacks has k = let same : l ≡ row = cc in cc
    lost-step false l row one another e lacks has k = k e

    kept-step : (is_it is_here is_there : Bool) (l row : Layout) (here there : List Layout)
        → is_in l.profile profile ≡ is_here → is_there ≡ true
        → find test (cond (is_it && is_there) (l ∷ there) there) ≡ Some row
        → is_in row.profile profile ≡ true → (find test there ≡ Some row → find test here ≡ Some row)
        → find test (cond (is_it && is_here) (l ∷ here) here) ≡ Some row
    kept-step true is_here false l row here there same e found has k = cc
    kept-step true true true l row here there same e found has k =
        found-step (test l) l row (find test there) (find test here) found k
    kept-step true false true l row here there same e found has k =
        lost-step (test l) l row (find test there) (find test here) found same has k
    kept-step false is_here is_there l row here there same e found has k = k found

    pub found-among : (ls : List Layout) (row : Layout) → find test (rows_among Extended ls) ≡ Some row
        → is_in row.profile profile ≡ true → find test (rows_among profile ls) ≡ Some row
    found-among [] row found has = cc
    found-among (l ∷ ls) row found has =
        kept-step (l.opcode == opcode) (is_in l.profile profile) (is_in l.profile Extended) l row
        (rows_among profile ls) (rows_among Extended ls) refl (more l.profile) found has
        (λ found. found-among ls row found has)

    none-found : (is_its : Bool) (l : Layout) (one another : Option Layout)
        → cond is_its (Some l) one ≡ None → (one ≡ None → another ≡ None)
        → (cond is_its (Some l) another ≡ None) × (another ≡ None)
    none-found true l one another e k = cc
    none-found false l one another e k = (k e, k e)

    none-kept : (is_it is_here is_there : Bool) (l : Layout) (here there : List Layout)
        → is_there ≡ true → find test (cond (is_it && is_there) (l ∷ there) there) ≡ None
        → (find test there ≡ None → find test here ≡ None)
        → find test (cond (is_it && is_here) (l ∷ here) here) ≡ None
    none-kept true is_here false l here there e none k = cc
    none-kept true true true l here there e none k =
        (none-found (test l) l (find test there) (find test here) none k).0
    none-kept true false true l here there e none k =
        (none-found (test l) l (find test there) (find test here) none k).1
    none-kept false is_here is_there l here there e none k = k none

    pub none-of-them : (ls : List Layout) → find test (rows_among Extended ls) ≡ None
        → find test (rows_among profile ls) ≡ None
    none-of-them [] none = refl
    none-of-them (l ∷ ls) none =
        none-kept (l.opcode == opcode) (is_in l.profile profile) (is_in l.profile Extended) l
        (rows_among profile ls) (rows_among Extended ls) (more l.profile) none (none-of-them ls)

-- the row that a test finds is found in each profile that has it
module _ (test : Layout → Bool) where
  found-more : (ls added : List Layout) (row : Layout) → find test ls ≡ Some row
      → find test (ls ++ added) ≡ Some row
  found-more [] added row found = cc
  found-more (l ∷ ls) added row found =
      found-step Base 0 test (test l) l row (find test ls) (find test (ls ++ added)) found
      (found-more ls added row)

  pub found-alike : (profile other : Profile) (command : Command) (row : Layout)
      → find test (rows_in profile (layout command).opcode) ≡ Some row
      → is_in row.profile other ≡ true → find test (rows_in other (layout command).opcode) ≡ Some row
  found-alike Base Base command row found has = found
  found-alike Base Extended command row found has =
      ap (find test) (rows-split command)
      ∙ found-more (rows_in Base (layout command).opcode) (rows_added (layout command).opcode) row found
  found-alike Extended Base command row found has =
      found-among Base (layout command).opcode test table row found has
  found-alike Extended Extended command row found has = found

-- ---- the command of a CDB

-- the first row of its operation code tells its length
by-first : (profile : Profile) (cdb : List ℕ) (opcode : ℕ) (rows : List Layout)
    → first_opcode rows ≡ Some opcode → command_by_rows profile cdb rows
    ≡ (if nat_lt (length cdb) (length_of opcode) then Err (Short (length cdb))
    else command_by_row profile cdb (find (has_action_of cdb) rows))
by-first profile cdb opcode [] first = cc
by-first profile cdb opcode (l ∷ ls) first =
    let same : l.opcode ≡ opcode = cc in
    ap (λ code. if nat_lt (length cdb) (length_of code) then Err (Short (length cdb))
    else command_by_row profile cdb (find (has_action_of cdb) (l ∷ ls))) same

whole-alike : (is_short : Bool) (count : ℕ) (command : Command) (one another : Result Command CdbFault)
    → another ≡ Ok command → (if is_short then Err (Short count) else one) ≡ Ok command
    → (if is_short then Err (Short count) else another) ≡ Ok command
whole-alike true count command one another read e = cc
whole-alike false count command one another read e = read

module _ (profile : Profile) where
  -- its row is in the profile, and of the operation code of the CDB
  row-of : (opcode : ℕ) (rest : List ℕ) (command : Command)
      → command_in profile (opcode ∷ rest) ≡ Ok command
      → (opcode ≡ (layout command).opcode) × (has_command profile command ≡ true)
  row-of opcode rest command e =
      let m = made-by_row profile opcode rest command e in
      let both = and_parts (m.row.opcode == opcode) (is_in m.row.profile profile) m.holds in (
        sym (m.is_its.0 ∙ eqb-true m.row.opcode opcode both.0),
        ap (λ b. b && is_in (layout command).profile profile) m.fields
            ∙ ap (λ p. is_in p profile) m.is_its.1 ∙ both.1,
      )

  pub is-in : (cdb : List ℕ) (command : Command) → command_in profile cdb ≡ Ok command
      → has_command profile command ≡ true
  unfolding command_in
  is-in [] command e = cc
  is-in (opcode ∷ rest) command e = (row-of opcode rest command e).1

  -- it is made by that row
  pub found-row : (opcode : ℕ) (rest : List ℕ) (command : Command)
      → (e : command_in profile (opcode ∷ rest) ≡ Ok command)
      → find (has_action_of (opcode ∷ rest)) (rows_in profile (layout command).opcode)
      ≡ Some (made-by_row profile opcode rest command e).row
  found-row opcode rest command e =
      ap (λ code. find (has_action_of (opcode ∷ rest)) (rows_in profile code))
      (sym (row-of opcode rest command e).0)
      ∙ (made-by_row profile opcode rest command e).found

  -- each profile that has the command finds the same row
  module _ (other : Profile) where
    found-there : (opcode : ℕ) (rest : List ℕ) (command : Command)
        → (e : command_in profile (opcode ∷ rest) ≡ Ok command) → has_command other command ≡ true
        → find (has_action_of (opcode ∷ rest)) (rows_in other (layout command).opcode)
        ≡ Some (made-by_row profile opcode rest command e).row
    found-there opcode rest command e has =
        let m = made-by_row profile opcode rest command e in
        found-alike (has_action_of (opcode ∷ rest)) profile other command m.row
        (found-row opcode rest command e)
        (ap (λ p. is_in p other) (sym m.is_its.1) ∙ (has-parts other command has).1)

    pub row-alike : (cdb : List ℕ) (command : Command) → command_in profile cdb ≡ Ok command
        → has_command other command ≡ true
        → find (has_action_of cdb) (rows_in other (layout command).opcode)
        ≡ find (has_action_of cdb) (rows_in profile (layout command).opcode)
    unfolding command_in
    row-alike [] command e has = cc
    row-alike (opcode ∷ rest) command e has =
        found-there opcode rest command e has ∙ sym (found-row opcode rest command e)

    -- so it reads the CDB alike if its masks allow the bits
    module _ (cdb : List ℕ) (command : Command) (row : Layout)
        (made : make_from cdb row.fields row.make ≡ command) (fits : AllowsBits row cdb other) where
      by_found : (found : Option Layout) → found ≡ Some row
          → command_by_row other cdb found ≡ Ok command
      by_found found is =
          ap (command_by_row other cdb) is
          ∙ ap (λ bad. unless_bad bad (make_from cdb row.fields row.make)) fits ∙ ap Ok made

    by_rows-alike : (cdb : List ℕ) (command : Command) (opcode : ℕ) (rows others : List Layout)
        → first_opcode rows ≡ Some opcode → first_opcode others ≡ Some opcode
        → command_by_row other cdb (find (has_action_of cdb) others) ≡ Ok command
        → command_by_rows profile cdb rows ≡ Ok command → command_by_rows other cdb others ≡ Ok command
    by_rows-alike cdb command opcode rows others first second read e =
        by-first other cdb opcode others second
        ∙ whole-alike (nat_lt (length cdb) (length_of opcode)) (length cdb) command
        (command_by_row profile cdb (find (has_action_of cdb) rows)) _ read
        (sym (by-first profile cdb opcode rows first) ∙ e)

  pub read-alike : (cdb : List ℕ) (command : Command) → command_in profile cdb ≡ Ok command
      → IsReadAs cdb command
  unfolding command_in
  read-alike [] command e other has = cc
  read-alike (opcode ∷ rest) command e other has =
      let cdb = opcode ∷ rest in
      let code = (layout command).opcode in
      let m = made-by_row profile opcode rest command e in
      let same = (row-of opcode rest command e).0 in
      let parts = has-parts other command has in
      let own = has-parts profile command (row-of opcode rest command e).1 in
      ap (λ code. command_by_rows other cdb (rows_in other code)) same
      ∙ by_rows-alike other cdb command code (rows_in profile code) (rows_in other code)
      (has_row profile command own.1) (has_row other command parts.1)
      (by_found other cdb command m.row m.made (m.fits other parts.0) _
      (found-there other opcode rest command e has))
      (ap (λ code. command_by_rows profile cdb (rows_in profile code)) (sym same) ∙ e)

  -- so a unit attention blocks it in each of them or in none
  pub blocked-alike : (cdb : List ℕ) (command : Command) → command_in profile cdb ≡ Ok command
      → (other : Profile) → has_command other command ≡ true
      → is_blocked_in other cdb ≡ is_blocked_in profile cdb
  unfolding command_in is_blocked_in
  blocked-alike [] command e other has = cc
  blocked-alike (opcode ∷ rest) command e other has =
      let row = row-of opcode rest command e in
      let by_code : (p : Profile) → has_command p command ≡ true
      → is_blocked_in p (opcode ∷ rest) ≡ (layout command).blocked_by_attention =
      λ p here. ap (λ code. list_all (λ (l : Layout). l.blocked_by_attention) (rows_in p code)) row.0
      ∙ blocked-rows p command (has-parts p command here).1 in
      by_code other has ∙ sym (by_code profile row.1)

  -- so it is the command of the CDB
  pub read-any : (cdb : List ℕ) (command : Command) → command_in profile cdb ≡ Ok command
      → command_of cdb ≡ Ok command
  read-any cdb command e = read-alike cdb command e Extended (is-in_any command)
