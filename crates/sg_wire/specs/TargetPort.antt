-- The one target port of the disk, and the group that it forms alone.
use Rattle.std.specs.Prelude.{ℕ}

-- RELATIVE TARGET PORT IDENTIFIER (SPC-4, 7.8.6.7).
abbrev pub relative_target_port : ℕ
relative_target_port = 1

-- TARGET PORT GROUP (SPC-4, 7.8.6.8).
abbrev pub target_port_group : ℕ
target_port_group = 1
