-- The bytes of a file in memory.
use Rattle.std.specs.Prelude.{ℕ, ◌-◌, List, take, vec_len}
use Rattle.sg_journal.specs.declared.memory.Memory.{Memory}
use Rattle.sg_journal.specs.declared.memory.MemorySource.{MemorySource}

abbrev pub memory_bytes : Memory → List ℕ
memory_bytes m = m.bytes.items

abbrev pub source_bytes : MemorySource → List ℕ
source_bytes s = s.bytes.items

-- The bytes that were read.
abbrev pub source_taken : MemorySource → List ℕ
source_taken s = take s.read s.bytes.items

abbrev pub source_left : MemorySource → ℕ
source_left s = vec_len s.bytes - s.read
