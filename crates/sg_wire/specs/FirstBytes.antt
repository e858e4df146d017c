-- Data that is cut at an allocation length (SPC-4, 4.2.5.6).
use Rattle.std.specs.Prelude.{ℕ, List, ◌++◌, length, take, drop}

-- The first n bytes of a full answer, or all of it if it is shorter.
abbrev pub first_bytes : ℕ → List ℕ → List ℕ
first_bytes n full = take n full

-- A buffer whose first bytes are replaced. The bytes after them are as they were.
abbrev pub overwritten : List ℕ → List ℕ → List ℕ
overwritten bytes buffer = bytes ++ drop (length bytes) buffer
