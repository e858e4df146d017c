-- The limits of a script (docs/SCRIPT.md).
use Rattle.std.specs.Prelude.{ℕ}

-- The most bytes of a script.
abbrev pub longest_script : ℕ
longest_script = 4294967295

-- The most bytes of a line, without its LF.
abbrev pub longest_line : ℕ
longest_line = 4096

-- The most bytes that are read ahead of a line.
abbrev pub longest_read_ahead : ℕ
longest_read_ahead = 131072

-- The most words of a line.
abbrev pub word_limit : ℕ
word_limit = 64

-- The largest byte.
abbrev pub largest_byte : ℕ
largest_byte = 255

-- The most blocks that a line fills.
abbrev pub most_filled : ℕ
most_filled = 256
