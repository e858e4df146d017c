-- The layout of a record in memory: the bytes that the toolchain's machine stores for its values.
use Rattle.std.specs.Prelude.{◌≡◌, ℕ, zero, suc, List, [], ◌∷◌, ◌++◌, Bool, if◌then◌else◌, drop, slice_index}
use denote.Laws.{Is}
use denote.Memory.{lone}
use denote.RattleType.{RattleType}
use mir.Mem.{Cell, fresh}
use mir.Val.{Val}
use prog.Memory.{enc, le, size}

-- A type has a size in bytes, and the machine stores each of its values in these bytes. `Is` says
-- which of the machine's values a value is.
pub record LiesAs (R : RattleType) (whole : ℕ) (bytes : R.Denot → List Cell) : Type 0 where
  pub size : size (lone R.mir) ≡ whole
  pub stored : (value : R.Denot) (machine : Val) → Is R value (machine ∷ [])
      → enc (lone R.mir) machine ≡ bytes value

-- A number in so many bytes, the lowest byte first.
abbrev pub number : (width value : ℕ) → List Cell
number = le

-- An array of so many bytes.
abbrev pub bytes : (width : ℕ) → List ℕ → List Cell
bytes zero array = []
bytes (suc width) array = number 1 (slice_index array 0) ++ bytes width (drop 1 array)

-- One byte that is 1 or 0.
abbrev pub flag : Bool → List Cell
flag value = number 1 (if value then 1 else 0)

-- So many bytes that belong to no field.
abbrev pub padding : (width : ℕ) → List Cell
padding = fresh
