use Rattle.std.proofs.Common.{◌≡◌, ℕ, ◌+◌, ◌≤◌, ◌++◌, drop, length}
use Rattle.std.specs.List.{All}
use Rattle.sg_extent_map.specs.Drafting.{drafted, AreDrafted, IsMaximalDraft}
use Rattle.sg_extent_map.specs.Extents.{singles, IsExtent}
use Rattle.sg_extent_map.specs.Walking.{ahead_of}
use Rattle.sg_extent_map.proofs.draft.append_ahead.Given as goal

-- the extents so far are drafted, and the others are not
abbrev pub invariant-loop-at : goal.invariant-loop-at
invariant-loop-at l =
    let all = ahead_of l.runs l.fn.walk.run l.fn.walk.at in
    record {
      addresses : singles (drafted l.draft l.done) ++ singles (drop l.at l.runs)
          ≡ singles (drafted l.fn.draft l.fn.done) ++ singles all;
      drafted : (pool : ℕ) → AreDrafted pool l.fn.draft l.fn.done → All (IsExtent pool) all
          → AreDrafted pool l.draft l.done;
      rest : (pool : ℕ) → All (IsExtent pool) all → All (IsExtent pool) (drop l.at l.runs);
      maximal : IsMaximalDraft l.fn.draft l.fn.done → IsMaximalDraft l.draft l.done;
      longer : length l.draft.records + length (drop l.at l.runs)
          ≤ length l.fn.draft.records + length all;
      room : l.draft.room ≡ l.fn.draft.room;
    }
