-- A record of calls that only proofs read.
use Rattle.std.specs.Prelude.{ℕ, Bool, List, slice_index, ◌==◌}

-- A call with its answer: which call, an offset or a length, whether it succeeded, and bytes.
pub record Event : Type 0 where
  pub call : ℕ
  pub place : ℕ
  pub succeeded : Bool
  pub bytes : List ℕ

abbrev pub event_of : (numbers bytes : List ℕ) → Event
event_of numbers bytes = record {
  call = slice_index numbers 0;
  place = slice_index numbers 1;
  succeeded = slice_index numbers 2 == 1;
  bytes = bytes;
}
