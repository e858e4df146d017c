-- The command of a CDB has the operation code and the profile of the row that made it, and the class of the
-- CDB.
use Rattle.std.proofs.Common.{◌≡◌, ℕ, List, [], ◌∷◌, length, map, filter, Option, Some, None}
use Rattle.std.proofs.Common.{Result, Ok, Err, Bool, true, false, cond, refl, sym, ap, subst, ◌∙◌}
use Rattle.std.specs.Prelude.{◌==◌, ◌&&◌, find, nat_lt, if◌then◌else◌}
use Rattle.std.specs.Option.{option_map_or}
use Rattle.sg_wire.specs.CdbDecoding.{class_by_row, class_by_rows, class_in, command_by_row}
use Rattle.sg_wire.specs.CdbDecoding.{command_by_rows}
use Rattle.sg_wire.specs.CdbDecoding.{command_in, first_bad, has_action_of, make_from, masks_in, rows_in}
use Rattle.sg_wire.specs.CdbDecoding.{unless_bad}
use Rattle.sg_wire.specs.Layout.{Layout, each_command, layout, length_of}
use Rattle.sg_wire.specs.Profile.{is_in}
use Rattle.sg_wire.specs.declared.command.CdbFault.{CdbFault}
use Rattle.sg_wire.specs.declared.command.CdbFault.TheVariants.{Short}
use Rattle.sg_wire.specs.declared.command.Class.TheVariants.{Always}
use Rattle.sg_wire.specs.declared.command.Command.{Command}
use Rattle.sg_wire.specs.declared.profile.Profile.{Profile}
use Rattle.sg_wire.proofs.FieldLemmas.{AllowsBits, AreOfOneRow, Makes, have_fields, makes}

-- the row that made a command of a CDB on a disk of a profile, among the rows with a property
pub record MadeByRow (property : Layout → Bool) (profile : Profile) (cdb : List ℕ) (rows : List Layout)
    (command : Command) : Type 0 where
  pub row : Layout
  pub found : find (has_action_of cdb) rows ≡ Some row
  pub made : make_from cdb row.fields row.make ≡ command
  pub is_its : AreOfOneRow (layout command) row
  pub fields : have_fields profile command ≡ true
  pub fits : (other : Profile) → have_fields other command ≡ true → AllowsBits row cdb other
  pub holds : property row ≡ true

module _ (property : Layout → Bool) where
  abbrev IsOf : Layout → Type 0
  IsOf l = Makes l × (property l ≡ true)

  abbrev AreOf : List Layout → Type 0
  AreOf [] = Unit {0}
  AreOf (l ∷ ls) = IsOf l × AreOf ls

  kept : (b : Bool) (l : Layout) (ls : List Layout) → property l ≡ b → Makes l → AreOf ls
      → AreOf (cond b (l ∷ ls) ls)
  kept true l ls e h k = ((h, e), k)
  kept false l ls e h k = k

  are-of : (commands : List Command) → AreOf (filter property (map layout commands))
  are-of [] = tt
  are-of (c ∷ commands) =
      kept (property (layout c)) (layout c) (filter property (map layout commands)) refl (makes c)
      (are-of commands)

  abbrev IsOfIfFound : Option Layout → Type 0
  IsOfIfFound None = Unit {0}
  IsOfIfFound (Some l) = IsOf l

  found-first : (b : Bool) (l : Layout) (later : Option Layout) → IsOf l → IsOfIfFound later
      → IsOfIfFound (cond b (Some l) later)
  found-first true l later h k = h
  found-first false l later h k = k

  find-of : (p : Layout → Bool) (ls : List Layout) → AreOf ls → IsOfIfFound (find p ls)
  find-of p [] h = tt
  find-of p (l ∷ ls) h = found-first (p l) l (find p ls) h.0 (find-of p ls h.1)

  made-is : (bad : Option ℕ) (command other : Command) → unless_bad bad other ≡ Ok command
      → (other ≡ command) × (bad ≡ None)
  made-is None command other e = (cc, refl)
  made-is (Some byte) command other e = cc

  module _ (profile : Profile) (cdb : List ℕ) (command : Command) where
    by_row : (rows : List Layout) (found : Option Layout) → find (has_action_of cdb) rows ≡ found
        → IsOfIfFound found → command_by_row profile cdb found ≡ Ok command
        → MadeByRow property profile cdb rows command
    by_row rows None is h e = cc
    by_row rows (Some l) is h e =
        let made =
        made-is (first_bad 0 (masks_in profile l) cdb) command (make_from cdb l.fields l.make) e in
        record {
          row = l;
          found = is;
          made = made.0;
          is_its = subst (λ (c : Command). AreOfOneRow (layout c) l) made.0 (h.0.its cdb);
          fields =
              subst (λ (c : Command). have_fields profile c ≡ true) made.0 (h.0.fields profile cdb made.1);
          fits = λ other has.
              h.0.bits profile other cdb made.1
              (subst (λ (c : Command). have_fields other c ≡ true) (sym made.0) has);
          holds = h.1;
        }

    unless_short : (is_short : Bool) (count : ℕ) (parse : Result Command CdbFault)
        → (if is_short then Err (Short count) else parse) ≡ Ok command → parse ≡ Ok command
    unless_short true count parse e = cc
    unless_short false count parse e = e

    by_rows : (rows : List Layout) → AreOf rows → command_by_rows profile cdb rows ≡ Ok command
        → MadeByRow property profile cdb rows command
    by_rows [] h e = cc
    by_rows (l ∷ ls) h e =
        by_row (l ∷ ls) (find (has_action_of cdb) (l ∷ ls)) refl
        (find-of (has_action_of cdb) (l ∷ ls) h)
        (unless_short (nat_lt (length cdb) (length_of l.opcode)) (length cdb) _ e)

-- the rows of an operation code that a profile has
abbrev pub is_row_in : Profile → ℕ → Layout → Bool
is_row_in profile opcode l = l.opcode == opcode && is_in l.profile profile

pub made-by_row : (profile : Profile) (opcode : ℕ) (rest : List ℕ) (command : Command)
    → command_in profile (opcode ∷ rest) ≡ Ok command
    → MadeByRow (is_row_in profile opcode) profile (opcode ∷ rest) (rows_in profile opcode) command
unfolding command_in
made-by_row profile opcode rest command e =
    by_rows (is_row_in profile opcode) profile (opcode ∷ rest) command (rows_in profile opcode)
    (are-of (is_row_in profile opcode) each_command) e

class-by_rows : (cdb : List ℕ) (rows : List Layout) (l : Layout)
    → find (has_action_of cdb) rows ≡ Some l → class_by_rows cdb rows ≡ Some (class_by_row cdb l)
class-by_rows cdb [] l e = cc
class-by_rows cdb (first ∷ ls) l e =
    ap (λ (found : Option Layout). Some (option_map_or (class_by_row cdb) found Always)) e

pub class-of_command : (profile : Profile) (cdb : List ℕ) (command : Command)
    → command_in profile cdb ≡ Ok command → class_in profile cdb ≡ Some (layout command).class
unfolding class_in command_in
class-of_command profile [] command e = cc
class-of_command profile (opcode ∷ rest) command e =
    let m = made-by_row profile opcode rest command e in
    class-by_rows (opcode ∷ rest) (rows_in profile opcode) m.row m.found
    ∙ ap (λ (c : Command). Some (layout c).class) m.made
