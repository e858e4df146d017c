-- What a function that writes to a sink leaves there.
use Rattle.std.specs.Prelude.{◌≡◌, ◌≤◌, ◌+◌, ◌++◌, ℕ, true, List, length}
use Rattle.sg_changes.specs.Format.{Format}

-- A sink has taken the bytes of a value, at most this many. The value has bytes.
pub record Takes {S X : Type 0} (contents : S → List ℕ) (room : S → ℕ) (format : Format X) (most : ℕ)
    (old new : S) (value : X) : Type 0 where
  pub added : contents new ≡ contents old ++ format.bytes value
  pub room_left : room new + length (format.bytes value) ≡ room old
  pub at_most : length (format.bytes value) ≤ most
  pub possible : format.is_possible value ≡ true
