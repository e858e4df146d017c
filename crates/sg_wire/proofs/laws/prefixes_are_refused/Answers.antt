use Rattle.std.proofs.Common.{◌≡◌, ◌<◌, ℕ, zero, suc, List, [], ◌∷◌, length, take, Some}
use Rattle.std.proofs.Common.{Err, true, false, refl, sym, ap, subst, ◌∙◌, arith}
use Rattle.std.specs.Prelude.{nat_lt, map, ◌==◌}
use Rattle.std.specs.List.{range_with_len}
use Rattle.std.proofs.lemmas.Bool.Decides.{nat_tests}
use Rattle.std.proofs.lemmas.List.{length-take-le}
use Rattle.std.proofs.lemmas.List.FromFn.{length-map-range_with_len}
use Rattle.sg_wire.specs.CdbDecoding.{command_by_rows, command_in, rows_in}
use Rattle.sg_wire.specs.CdbEncoding.{byte_of, cdb_of}
use Rattle.sg_wire.specs.Layout.{Layout, layout, length_of}
use Rattle.sg_wire.specs.declared.command.CdbFault.TheVariants.{Short}
use Rattle.sg_wire.specs.declared.command.Command.{Command}
use Rattle.sg_wire.specs.Laws.{cut_at, has_command}
use Rattle.sg_wire.specs.declared.profile.Profile.{Profile}
use Rattle.sg_wire.proofs.ProfileLemmas.{first_opcode, has-parts, has_row}
use Rattle.sg_wire.proofs.laws.prefixes_are_refused.Goals as goal

-- an operation code has a row in a profile
HasRow : Profile → ℕ → Type 0
HasRow profile opcode = first_opcode (rows_in profile opcode) ≡ Some opcode

has_row_in : (profile : Profile) (command : Command) → has_command profile command ≡ true
    → HasRow profile (layout command).opcode
unfolding HasRow
has_row_in profile command has =
    has_row profile command (has-parts profile command has).1

-- a CDB is refused as cut if it is shorter than the first row of its operation code says
cut-by_rows : (profile : Profile) (cdb : List ℕ) (opcode : ℕ) (rows : List Layout)
    → first_opcode rows ≡ Some opcode
    → length cdb < length_of opcode → command_by_rows profile cdb rows ≡ Err (Short (length cdb))
cut-by_rows profile cdb opcode [] e h = cc
cut-by_rows profile cdb opcode (l ∷ ls) e h =
    let same : l.opcode ≡ opcode = cc in
    let less : nat_lt (length cdb) (length_of l.opcode) ≡ true =
    rw same (grind (arith, nat_tests)) in
    rw less refl

abbrev bytes_of : Layout → (count : ℕ) → List ℕ
bytes_of l count = map (byte_of l) (range_with_len 0 count)

within : (l : Layout) (size count : ℕ) → count < length (bytes_of l size) → count < size
within l size count h = omega (arith, length-map-range_with_len (byte_of l) 0 size)

not_empty : (count : ℕ) → cut_at (suc count) ≡ Short (suc count)
not_empty count = let no : (suc count == 0) ≡ false = grind (arith, nat_tests) in rw no refl

module _ (profile : Profile) where
  cut-by_opcode : (opcode : ℕ) (rest : List ℕ) → HasRow profile opcode
      → length (opcode ∷ rest) < length_of opcode
      → command_in profile (opcode ∷ rest) ≡ Err (Short (length (opcode ∷ rest)))
  unfolding HasRow command_in
  cut-by_opcode opcode rest row h =
      cut-by_rows profile (opcode ∷ rest) opcode (rows_in profile opcode) row h

  -- the first bytes of a CDB begin with the operation code
  cut-by_layout : (l : Layout) (size count : ℕ) → HasRow profile l.opcode → size ≡ length_of l.opcode
      → suc count < size
      → command_in profile (take (suc count) (bytes_of l size)) ≡ Err (Short (suc count))
  cut-by_layout l zero count row e h = absurd (omega arith)
  cut-by_layout l (suc size) count row e h =
      let rest : List ℕ = take count (map (byte_of l) (range_with_len 1 size)) in
      let all = length-map-range_with_len (byte_of l) 0 (suc size) in
      let few : length (l.opcode ∷ rest) ≡ suc count =
      length-take-le (suc count) (bytes_of l (suc size)) (omega (arith, all)) in
      let less : length (l.opcode ∷ rest) < length_of l.opcode =
      subst (λ n. length (l.opcode ∷ rest) < n) e (omega (arith, few)) in
      subst (λ n. command_in profile (l.opcode ∷ rest) ≡ Err (Short n)) few
      (cut-by_opcode l.opcode rest row less)

  module _ (command : Command) where
    empty : command_in profile (take 0 (cdb_of command)) ≡ Err (cut_at 0)
    unfolding command_in
    empty = refl

    cut : (count : ℕ) → has_command profile command ≡ true → suc count < length (cdb_of command)
        → command_in profile (take (suc count) (cdb_of command)) ≡ Err (Short (suc count))
    unfolding cdb_of
    cut count has h = let l = layout command in
        cut-by_layout l (length_of l.opcode) count (has_row_in profile command has) refl
        (within l (length_of l.opcode) (suc count) h)

pub returns : goal.returns
returns c profile command zero has h = empty profile command
returns c profile command (suc count) has h =
    cut profile command count has h ∙ ap Err (sym (not_empty count))
