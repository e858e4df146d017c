-- A list of extents, address by address.
use Rattle.std.proofs.Common.{◌≡◌, ℕ, List, Option, Some, None, Bool, true, false}
use Rattle.std.proofs.Common.{refl, sym, ap, ◌∙◌, cond}
use Rattle.sg_wire.specs.declared.extent.Extent.{Extent}
use Rattle.sg_store.specs.Disk.{Contents, Mapping, anchored, block, data_in, lies_in, unmapped}
use Rattle.sg_store.specs.Disk.{zero_block}
use Rattle.sg_store.specs.Disk.Mapping.{Data, Anchored}
use Rattle.sg_store.specs.Laws.{AnchorsEachAddress, AnchorZeroesEachBlock}
use Rattle.sg_store.specs.Laws.{UnmapsEachAddress, UnmapsEachBlock}
use Rattle.sg_store.specs.LbaStatus.{status_at, status_in}
use Rattle.sg_target.specs.Effect.{Effect, with_contents}
use Rattle.sg_target.specs.Laws.{lies_in_any, AnchorsEachExtent}
use Rattle.sg_target.specs.Laws.{UnmapsEachExtent, ZeroesEachExtent}
use Rattle.sg_target.specs.ProvisioningCommands.{Change, anchoring, changed_in_turn, unmapping}
use Rattle.sg_target.specs.State.{State}
use Rattle.sg_target.proofs.InTurnLemmas.{same, seen}

-- an address has what its status and its block say
same-mapping : (o p : Option Mapping) → status_in o ≡ status_in p → data_in o ≡ data_in p → o ≡ p
same-mapping None None s b = refl
same-mapping None (Some (Data y)) s b = let wrong = s in cc
same-mapping None (Some Anchored) s b = let wrong = s in cc
same-mapping (Some (Data x)) None s b = let wrong = s in cc
same-mapping (Some (Data x)) (Some (Data y)) s b = ap (λ z. Some (Data z)) b
same-mapping (Some (Data x)) (Some Anchored) s b = let wrong = s in cc
same-mapping (Some Anchored) None s b = let wrong = s in cc
same-mapping (Some Anchored) (Some (Data y)) s b = let wrong = s in cc
same-mapping (Some Anchored) (Some Anchored) s b = refl

-- and what it is given
pub given-mapping : (lies : Bool) (given before after : Option Mapping)
    → status_in after ≡ cond lies (status_in given) (status_in before)
    → data_in after ≡ cond lies (data_in given) (data_in before)
    → after ≡ cond lies given before
given-mapping true given before after s b = same-mapping after given s b
given-mapping false given before after s b = same-mapping after before s b

-- ---- one extent after the other

module _ (change : Change) (given : Option Mapping)
    (statuses : (m : Contents) (lba count q : ℕ)
    → status_at (change m lba count) q ≡ cond (lies_in lba count q) (status_in given) (status_at m q))
    (blocks : (m : Contents) (lba count q : ℕ)
    → block (change m lba count) q ≡ cond (lies_in lba count q) (data_in given) (block m q))
  where
    abbrev covers : (address : ℕ) → Extent → Bool
    covers address extent = lies_in extent.lba extent.count address

    abbrev one : Contents → Extent → Contents
    one m e = change m e.lba e.count

    zeroes-each : (command : State → List Extent → Effect)
        → ((state : State) (es : List Extent)
        → (command state es).after ≡ with_contents state (changed_in_turn change state.disk.contents es))
        → (blank : data_in given ≡ zero_block) → ZeroesEachExtent command (status_in given)
    zeroes-each command after blank = record {
      statuses = λ state es q. ap (λ (s : State). status_at s.disk.contents q) (after state es)
          ∙ seen covers one (changed_in_turn change) (λ m. refl) (λ m e es. refl)
          status_at (status_in given) (λ m e. statuses m e.lba e.count) state.disk.contents es q;
      blocks = λ state es q. ap (λ (s : State). block s.disk.contents q) (after state es)
          ∙ seen covers one (changed_in_turn change) (λ m. refl) (λ m e es. refl)
          block (data_in given) (λ m e. blocks m e.lba e.count) state.disk.contents es q
          ∙ ap (λ b. cond (lies_in_any es q) b (block state.disk.contents q)) blank;
      any_order = λ state es fs h. after state es
          ∙ ap (with_contents state)
          (same covers one (changed_in_turn change) (λ m. refl) (λ m e es. refl) given
          (λ m e q. given-mapping (covers q e) given _ _
          (statuses m e.lba e.count q) (blocks m e.lba e.count q))
          state.disk.contents es fs h)
          ∙ sym (after state fs);
    }

-- ---- the laws

pub unmaps-each : UnmapsEachAddress → UnmapsEachBlock → UnmapsEachExtent
unmaps-each addresses zeros =
    zeroes-each unmapped None addresses zeros unmapping (λ state es. refl) refl

pub anchors-each : AnchorsEachAddress → AnchorZeroesEachBlock → AnchorsEachExtent
anchors-each addresses zeros =
    zeroes-each anchored (Some Anchored) addresses zeros anchoring (λ state es. refl) refl
