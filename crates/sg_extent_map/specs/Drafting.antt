-- Drafting the new extents of a range: the draft, and after it the extent that may still grow.
use Rattle.std.specs.Prelude.{◌≡◌, ℕ, ◌<◌, List, [], ◌∷◌, ◌++◌, length}
use Rattle.std.specs.Prelude.{◌+◌, ◌≤◌}
use Rattle.std.specs.List.{All}
use Rattle.sg_table.specs.Draft.{Drafted}
use Rattle.sg_table.specs.declared.run.Run.{Run}
use Rattle.sg_extent_map.specs.Extents.{singles, singles_of, AreMaximal, IsExtent, IsPart}

-- The drafted extents, and the one that may still grow.
abbrev pub drafted : Drafted → Run → List Run
drafted draft done = draft.records ++ done ∷ []

-- Extents, and a part that may have no address.
pub record AreDrafted (pool : ℕ) (draft : Drafted) (done : Run) : Type 0 where
  pub extents : All (IsExtent pool) draft.records
  pub part : IsPart pool done

-- There is room for the extent that may still grow.
abbrev pub HasRoom : Drafted → Run → Type 0
HasRoom draft done = 0 < done.count → length draft.records < draft.room

-- No drafted extent goes on where the one before it ends. If the last one has no address, there are
-- no others.
pub record IsMaximalDraft (draft : Drafted) (done : Run) : Type 0 where
  pub maximal : 0 < done.count → AreMaximal (drafted draft done)
  pub none : done.count ≡ 0 → draft.records ≡ []

-- The addresses of a run are drafted after the others.
pub record Appends (draft draft' : Drafted) (done done' run : Run) : Type 0 where
  pub only : draft' ≡ record draft { records = draft'.records }
  pub addresses : singles (drafted draft' done') ≡ singles (drafted draft done) ++ singles_of run
  pub extents : (pool : ℕ) → AreDrafted pool draft done → IsPart pool run
      → AreDrafted pool draft' done'
  pub maximal : IsMaximalDraft draft done → IsMaximalDraft draft' done'
  pub longer : length draft'.records ≤ length draft.records + 1
