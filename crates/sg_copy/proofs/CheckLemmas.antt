-- The first fault of lists of checks that follow one another.
use Rattle.std.proofs.Common.{◌≡◌, ◌-◌, ℕ, List, [], ◌++◌, Bool, false}
use Rattle.std.proofs.Common.{Option, Some, None, refl, ap, ◌∙◌}
use Rattle.std.specs.Prelude.{map, find, length, ◌==◌, cond, Result, Ok, Err, IfErr}
use Rattle.std.specs.Option.{option_map, option_map_or, option_or}
use Rattle.std.specs.List.{range_with_len}
use Rattle.std.proofs.lemmas.List.Folds.{find-append}
use Rattle.sg_copy.specs.CopyList.{Check, asked, checks, copy_checks, copy_list, cscd_count, first_fault}
use Rattle.sg_copy.specs.CopyList.{list_checks, nothing_asked, segments_length, type_check}
use Rattle.sg_copy.specs.declared.copy_list.CopyList.{CopyList}
use Rattle.sg_copy.specs.declared.fault.CopyFault.{CopyFault}

abbrev fault-of : Check → CopyFault
fault-of c = c.fault

of-either : (a b : Option Check)
    → option_map fault-of (option_or a b) ≡ option_or (option_map fault-of a) (option_map fault-of b)
of-either (Some c) b = refl
of-either None b = refl

pub faults-append : (checks more : List Check)
    → first_fault (checks ++ more) ≡ option_or (first_fault checks) (first_fault more)
faults-append checks more =
    ap (option_map fault-of) (find-append (λ (c : Check). c.is_bad) checks more)
    ∙ of-either (find (λ (c : Check). c.is_bad) checks) (find (λ (c : Check). c.is_bad) more)

-- the first of two lists refuses
pub refuses_first : (checks more : List Check) (fault : CopyFault)
    → first_fault checks ≡ Some fault → first_fault (checks ++ more) ≡ Some fault
refuses_first checks more fault is =
    faults-append checks more ∙ ap (λ f. option_or f (first_fault more)) is

-- the first of two lists passes
pub passes_first : (checks more : List Check) → first_fault checks ≡ None
    → first_fault (checks ++ more) ≡ first_fault more
passes_first checks more is = faults-append checks more ∙ ap (λ f. option_or f (first_fault more)) is

-- the second of two lists refuses, after the first passed
pub second_refuses : {T : Type 0} (checks more : List Check) (result : Result T CopyFault)
    → first_fault checks ≡ None → IfErr result (λ fault. first_fault more ≡ Some fault)
    → IfErr result (λ fault. first_fault (checks ++ more) ≡ Some fault)
second_refuses checks more (Ok t) passed h = tt
second_refuses checks more (Err fault) passed h = passes_first checks more passed ∙ h

-- the checks of the types from a CSCD descriptor on
abbrev pub types-from : (list : List ℕ) (id : ℕ) → Option CopyFault
types-from list id =
    first_fault (map (type_check list) (range_with_len id (cscd_count list - id)))

-- ---- What a list asks for

abbrev asked-of : (designation : List ℕ) (maximum_blocks capacity : ℕ) (list : List ℕ) → Bool
    → Result CopyList CopyFault
asked-of designation maximum_blocks capacity list is_empty =
    cond is_empty (Ok nothing_asked)
    (option_map_or Err (first_fault (checks designation maximum_blocks capacity list)) (Ok (asked list)))

pub list_refuses : (designation : List ℕ) (maximum_blocks capacity : ℕ) (list : List ℕ) (fault : CopyFault)
    → (length list == 0) ≡ false → first_fault (list_checks list) ≡ Some fault
    → copy_list designation maximum_blocks capacity list ≡ Err fault
list_refuses designation maximum_blocks capacity list fault some is =
    ap (asked-of designation maximum_blocks capacity list) some
    ∙ ap (λ f. option_map_or Err f (Ok (asked list))) (refuses_first (list_checks list)
    (cond (segments_length list == 0) [] (copy_checks designation maximum_blocks capacity list)) fault is)

pub copy_refuses : (designation : List ℕ) (maximum_blocks capacity : ℕ) (list : List ℕ) (fault : CopyFault)
    → (length list == 0) ≡ false → first_fault (list_checks list) ≡ None
    → (segments_length list == 0) ≡ false
    → first_fault (copy_checks designation maximum_blocks capacity list) ≡ Some fault
    → copy_list designation maximum_blocks capacity list ≡ Err fault
copy_refuses designation maximum_blocks capacity list fault some passed there is =
    ap (asked-of designation maximum_blocks capacity list) some
    ∙ ap (λ f. option_map_or Err f (Ok (asked list))) (passes_first (list_checks list)
    (cond (segments_length list == 0) [] (copy_checks designation maximum_blocks capacity list)) passed
    ∙ ap (λ none. first_fault (cond none [] (copy_checks designation maximum_blocks capacity list))) there
    ∙ is)
