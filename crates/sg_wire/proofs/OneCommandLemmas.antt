-- A CDB is read as one command, or as another, by its operation code and the row of that command.
use Rattle.std.proofs.Common.{◌≡◌, ◌≢◌, ◌≤◌, ℕ, List, [], ◌∷◌, length, get_or, false}
use Rattle.std.proofs.Common.{Result, Ok, Err, refl, sym, ap, ◌∙◌, arith}
use Rattle.std.proofs.lemmas.Bool.{and_parts, eqb-true}
use Rattle.std.specs.Prelude.{◌==◌, IfErr, is_ok}
use Rattle.sg_wire.specs.CdbDecoding.{command_by_rows, command_in, rows_in}
use Rattle.sg_wire.specs.CdbFields.{number_at}
use Rattle.sg_wire.specs.Commands.{no_blocks_10}
use Rattle.sg_wire.specs.Layout.{layout}
use Rattle.sg_wire.specs.Profile.{is_in}
use Rattle.sg_wire.specs.Table.{IsDecoded, IsRefused, command_by, layout_of}
use Rattle.sg_wire.specs.declared.command.CdbFault.{CdbFault}
use Rattle.sg_wire.specs.declared.command.Command.{Command}
use Rattle.sg_wire.specs.declared.command.Command.TheVariants.{Read10, TestUnitReady}
use Rattle.sg_wire.specs.declared.command.block.Extent10.{Extent10}
use Rattle.sg_wire.specs.declared.command.table.Name.TheVariants as name
use Rattle.sg_wire.specs.declared.profile.Profile.{Profile}
use Rattle.sg_wire.proofs.ClassLemmas.{made-by_row}
use Rattle.sg_wire.proofs.ProfileLemmas.{rows-same}

-- a CDB of another operation code is no such command
has-code : (profile : Profile) (opcode : ℕ) (rest : List ℕ) (command : Command)
    → command_in profile (opcode ∷ rest) ≡ Ok command → opcode ≡ (layout command).opcode
has-code profile opcode rest command e =
    let m = made-by_row profile opcode rest command e in
    let both = and_parts (m.row.opcode == opcode) (is_in m.row.profile profile) m.holds in
    sym (m.is_its.0 ∙ eqb-true m.row.opcode opcode both.0)

pub other-code : (profile : Profile) (cdb : List ℕ) (command : Command) → 1 ≤ length cdb
    → get_or cdb 0 0 ≢ (layout command).opcode → command_in profile cdb ≢ Ok command
other-code profile [] command some code e = absurd (omega (arith, some))
other-code profile (opcode ∷ rest) command some code e =
    code (has-code profile opcode rest command e)

pub no-code : (profile : Profile) (cdb : List ℕ) (command : Command) → length cdb ≡ 0
    → command_in profile cdb ≢ Ok command
unfolding command_in
no-code profile [] command none e = cc
no-code profile (opcode ∷ rest) command none e = absurd (omega (arith, none))

is-no-fault : (fault : CdbFault) (command : Command) → Err fault ≢ Ok command
is-no-fault fault command e = cc

-- ---- TEST UNIT READY

by-ready-row : (profile : Profile) (cdb : List ℕ) → 1 ≤ length cdb → get_or cdb 0 0 ≡ 0x00
    → command_in profile cdb ≡ command_by (layout_of name.TestUnitReady) cdb
unfolding command_in
by-ready-row profile [] some code = absurd (omega (arith, some))
by-ready-row profile (opcode ∷ rest) some code =
    ap (λ code. command_by_rows profile (opcode ∷ rest) (rows_in profile code)) code
    ∙ ap (command_by_rows profile (opcode ∷ rest)) (rows-same profile TestUnitReady refl refl)

pub ready-read : (profile : Profile) (cdb : List ℕ) → 1 ≤ length cdb → get_or cdb 0 0 ≡ 0x00
    → IsDecoded cdb name.TestUnitReady → command_in profile cdb ≡ Ok TestUnitReady
ready-read profile cdb some code decoded = by-ready-row profile cdb some code ∙ decoded

pub ready-refused : (profile : Profile) (cdb : List ℕ) (checked : Result Unit CdbFault)
    → 1 ≤ length cdb → get_or cdb 0 0 ≡ 0x00 → IfErr checked (IsRefused cdb name.TestUnitReady)
    → is_ok checked ≡ false → command_in profile cdb ≢ Ok TestUnitReady
ready-refused profile cdb (Ok tt) some code refused bad e = cc
ready-refused profile cdb (Err fault) some code refused bad e =
    is-no-fault fault TestUnitReady (sym (by-ready-row profile cdb some code ∙ refused) ∙ e)

pub ruleset ready = (ready-read, ready-refused, other-code, no-code)

-- ---- READ(10)

by-read-row : (profile : Profile) (cdb : List ℕ) → 1 ≤ length cdb → get_or cdb 0 0 ≡ 0x28
    → command_in profile cdb ≡ command_by (layout_of name.Read10) cdb
unfolding command_in
by-read-row profile [] some code = absurd (omega (arith, some))
by-read-row profile (opcode ∷ rest) some code =
    ap (λ code. command_by_rows profile (opcode ∷ rest) (rows_in profile code)) code
    ∙ ap (command_by_rows profile (opcode ∷ rest)) (rows-same profile (Read10 no_blocks_10) refl refl)

pub blocks-read : (profile : Profile) (cdb : List ℕ) (extent : Extent10) → 1 ≤ length cdb
    → get_or cdb 0 0 ≡ 0x28 → IsDecoded cdb name.Read10
    → extent ≡ record { lba = number_at cdb 2 5; count = number_at cdb 7 8 }
    → command_in profile cdb ≡ Ok (Read10 extent)
blocks-read profile cdb extent some code decoded same =
    by-read-row profile cdb some code ∙ decoded ∙ ap (λ (e : Extent10). Ok (Read10 e)) (sym same)

pub blocks-refused : (profile : Profile) (cdb : List ℕ) (fault : CdbFault) (extent : Extent10)
    → 1 ≤ length cdb → get_or cdb 0 0 ≡ 0x28 → IsRefused cdb name.Read10 fault
    → command_in profile cdb ≢ Ok (Read10 extent)
blocks-refused profile cdb fault extent some code refused e =
    is-no-fault fault (Read10 extent) (sym (by-read-row profile cdb some code ∙ refused) ∙ e)

pub ruleset blocks = (blocks-read, blocks-refused, other-code, no-code)
