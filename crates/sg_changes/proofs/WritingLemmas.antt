-- Values that are written to a sink one after another.
use Rattle.std.proofs.Common.{◌≡◌, ℕ, ◌+◌, ◌*◌, ◌≤◌, Bool, true, false, cond, List, [], ◌++◌}
use Rattle.std.proofs.Common.{length, Some, None, sym, ap, ◌∙◌, arith, append_assoc, length-append}
use Rattle.std.specs.List.{flat_map, list_all}
use Rattle.std.specs.Option.{option_map_or}
use Rattle.sg_changes.specs.Format.{Format, before, only, pair, passing}
use Rattle.sg_changes.specs.Writing.{Takes}
use Rattle.sg_changes.proofs.FormatLemmas.{both_true}

module _ {S : Type 0} (contents : S → List ℕ) (room : S → ℕ) where
  pub takes_before : {X Y : Type 0} (first : Format X) (second : X → Format Y) (m n : ℕ)
      (old mid new : S) (x : X)
      (y : Y) → Takes contents room first m old mid x → Takes contents room (second x) n mid new y
      → Takes contents room (before first second) (m + n) old new (x, y)
  takes_before first second m n old mid new x y one two = record {
    added = two.added ∙ ap (λ c. c ++ (second x).bytes y) one.added
        ∙ append_assoc (contents old) (first.bytes x) ((second x).bytes y);
    room_left = omega (
      arith,
      one.room_left,
      two.room_left,
      length-append (first.bytes x)
          ((second x).bytes y),
    );
    at_most = omega (arith, one.at_most, two.at_most, length-append (first.bytes x) ((second x).bytes y));
    possible = both_true (first.is_possible x) ((second x).is_possible y) one.possible two.possible;
  }

  pub takes_pair : {X Y : Type 0} (first : Format X) (second : Format Y) (m n : ℕ) (old mid new : S)
      (x : X) (y : Y)
      → Takes contents room first m old mid x → Takes contents room second n mid new y
      → Takes contents room (pair first second) (m + n) old new (x, y)
  takes_pair first second m n old mid new x y one two =
      takes_before first (λ _. second) m n old mid new x y one two

  -- Several values, each of at most `n` bytes.
  pub record TakesAll {X : Type 0} (format : Format X) (n : ℕ) (old new : S) (xs : List X) : Type 0 where
    pub added : contents new ≡ contents old ++ flat_map format.bytes xs
    pub room_left : room new + length (flat_map format.bytes xs) ≡ room old
    pub at_most : length (flat_map format.bytes xs) ≤ length xs * n
    pub possible : list_all format.is_possible xs ≡ true

  -- a value that passes a test
  pub takes_only : {X : Type 0} (test : X → Bool) (format : Format X) (n : ℕ) (old new : S) (x : X)
      → test x ≡ true → Takes contents room format n old new x
      → Takes contents room (only test format) n old new x
  takes_only test format n old new x pass it =
      let same : option_map_or format.bytes (passing test x) [] ≡ format.bytes x =
      ap (λ b. option_map_or format.bytes (cond b (Some x) None) []) pass in
      let possible : option_map_or format.is_possible (passing test x) false ≡ format.is_possible x =
      ap (λ b. option_map_or format.is_possible (cond b (Some x) None) false) pass in
      record {
        added = it.added ∙ ap (λ r. contents old ++ r) (sym same);
        room_left = ap (λ r. room new + length r) same ∙ it.room_left;
        at_most = rw same it.at_most;
        possible = possible ∙ it.possible;
      }
