-- What records may leave of a new disk.
use Rattle.std.proofs.Common.{◌≡◌, ◌≤◌, ℕ, zero, suc, Bool, true, false, ◌&&◌, cond, leb, List, [], ◌∷◌}
use Rattle.std.proofs.Common.{length}
use Rattle.std.proofs.Common.{Option, Some, None, refl, sym, subst, arith}
use Rattle.std.proofs.lemmas.Bool.{and_parts, le-leb, leb-true}
use Rattle.std.specs.Prelude.{option_map}
use Rattle.sg_store.specs.Disk.{Disk, max_capacity}
use Rattle.sg_units.specs.PowerOn.{after_power_on, empty_state}
use Rattle.sg_units.specs.Restored.{are_consistent}
use Rattle.sg_units.specs.declared.reservation_state.ReservationState.{ReservationState}
use Rattle.sg_wire.specs.Profile.{limits_of}
use Rattle.sg_changes.specs.Change.{Change, Persistent, anchored, applied, filled, grown, restored}
use Rattle.sg_changes.specs.Change.{unmapped, with_disk, written}
use Rattle.sg_changes.specs.Change.Change.{Write, Fill, Unmap, Anchor, Pages, Reservations, Faults, Grow}
use Rattle.sg_changes.specs.FirstRecord.{NewDiskFields, is_between, is_new_disk, new_disk_kept}
use Rattle.sg_changes.specs.KeptFields.{KeptFields}
use Rattle.sg_changes.specs.Laws.{IsSound, KeptStaysSound}
use Rattle.sg_changes.specs.Replay.{replayed}
use Rattle.sg_changes.proofs.ReplayLemmas.{first_applied, replayed_nil}
use Rattle.sg_kept.specs.Opening.{IsSteady}

-- ---- What each change keeps

record Steady (k : KeptFields) : Type 0 where
  pub least : 1 ≤ k.disk.capacity
  pub pool : is_between 1 k.disk.pool (limits_of k.identity.profile).pool ≡ true
  pub reservations : after_power_on k.reservations ≡ k.reservations

record Same (old new : Disk) : Type 0 where
  pub grows : old.capacity ≤ new.capacity
  pub pool : new.pool ≡ old.pool

same-made : (b c : Bool) (old made new : Disk) → (b ≡ true → old.capacity ≤ made.capacity)
    → made.pool ≡ old.pool → cond b (cond c None (Some made)) None ≡ Some new → Same old new
same-made true true old made new grows pool e = absurd cc
same-made true false old made new grows pool e =
    let is : made ≡ new = cc in
    subst (Same old) is (record { grows = grows refl; pool = pool })
same-made false c old made new grows pool e = absurd cc

steady-with : (k new : KeptFields) (o : Option Disk) → Steady k
    → ((d : Disk) → o ≡ Some d → Same k.disk d) → with_disk k o ≡ Some new → Steady new
steady-with k new None s each e = absurd cc
steady-with k new (Some d) s each e =
    let same = each d refl in
    let is : record k { disk = d } ≡ new = cc in
    subst Steady is (record {
      least = omega (arith, s.least, same.grows);
      pool = subst (λ p. is_between 1 p (limits_of k.identity.profile).pool ≡ true) (sym same.pool) s.pool;
      reservations = s.reservations;
    })

steady-held : (k : KeptFields) (r : ReservationState) → Steady k → after_power_on r ≡ r
    → Steady (record k { reservations = r })
steady-held k r s e = record { least = s.least; pool = s.pool; reservations = e }

steady-restored : (k new : KeptFields) (p : Option Persistent) → Steady k
    → option_map (λ r. record k { reservations = r }) (restored p) ≡ Some new → Steady new
steady-restored k new None s e =
    let is : record k { reservations = empty_state } ≡ new = cc in
    subst Steady is (steady-held k empty_state s refl)
steady-restored k new (Some p) s e = by-test (are_consistent p.registrations p.reservation) e
  where
    by-test : (b : Bool) → option_map (λ r. record k { reservations = r }) (cond b (Some (record {
      registrations = p.registrations;
      reservation = p.reservation;
      generation = 0;
      persists_through_power_loss = true;
    })) None) ≡ Some new → Steady new
    by-test true f =
        let r : ReservationState = record {
          registrations = p.registrations;
          reservation = p.reservation;
          generation = 0;
          persists_through_power_loss = true;
        } in
        let is : record k { reservations = r } ≡ new = cc in
        subst Steady is (steady-held k r s refl)
    by-test false f = absurd cc

steady-applied : (k new : KeptFields) (change : Change) → Steady k → applied k change ≡ Some new → Steady new
steady-applied k new (Write extent blocks) s e =
    steady-with k new (written k.disk extent blocks) s
    (λ d f. same-made _ _ k.disk _ d (λ _. omega arith) refl f) e
steady-applied k new (Fill extent block) s e =
    steady-with k new (filled k.disk extent block) s
    (λ d f. same-made _ _ k.disk _ d (λ _. omega arith) refl f) e
steady-applied k new (Unmap lba count) s e =
    steady-with k new (unmapped k.disk lba count) s
    (λ d f. same-made _ false k.disk _ d (λ _. omega arith) refl f) e
steady-applied k new (Anchor extent) s e =
    steady-with k new (anchored k.disk extent) s
    (λ d f. same-made _ _ k.disk _ d (λ _. omega arith) refl f) e
steady-applied k new (Grow capacity) s e =
    steady-with k new (grown k.disk capacity) s
    (λ d f. same-made (leb k.disk.capacity capacity && leb capacity max_capacity) false k.disk _ d
    (λ yes. leb-true k.disk.capacity capacity
    (and_parts (leb k.disk.capacity capacity) (leb capacity max_capacity) yes).0) refl f) e
steady-applied k new (Reservations p) s e = steady-restored k new p s e
steady-applied k new (Pages saved) s e =
    let is : record k { saved = saved } ≡ new = cc in
    subst Steady is (record { least = s.least; pool = s.pool; reservations = s.reservations })
steady-applied k new (Faults slots) s e =
    let is : record k { faults = slots } ≡ new = cc in
    subst Steady is (record { least = s.least; pool = s.pool; reservations = s.reservations })

-- ---- Records

steady-by : (n : ℕ) (bytes : List ℕ) (k new : KeptFields) → length bytes ≤ n → Steady k
    → replayed bytes k ≡ Some new → Steady new
steady-by n [] k new le s e = subst Steady (cc (replayed_nil k)) s
steady-by zero (x ∷ bytes) k new le s e = absurd (omega arith)
steady-by (suc n) (x ∷ bytes) k new le s e =
    first_applied (x ∷ bytes) k new (omega arith) e (Steady new)
    (λ middle rest change short applies then.
    steady-by n rest middle new (omega arith) (steady-applied k middle change s applies) then)

parts-of : (k : KeptFields) → IsSteady k → Steady k
parts-of k s =
    let a = and_parts (is_between 1 k.disk.capacity max_capacity)
    (is_between 1 k.disk.pool (limits_of k.identity.profile).pool) s.new in
    let b = and_parts (leb 1 k.disk.capacity) (leb k.disk.capacity max_capacity) a.0 in
    record { least = leb-true 1 k.disk.capacity b.0; pool = a.1; reservations = s.reservations }

both : (a b : Bool) → a ≡ true → b ≡ true → (a && b) ≡ true
both true b e f = f
both false b e f = e

whole-of : (k : KeptFields) → Steady k → IsSound k → IsSteady k
whole-of k s sound = record {
  new = both (is_between 1 k.disk.capacity max_capacity)
      (is_between 1 k.disk.pool (limits_of k.identity.profile).pool)
      (both (leb 1 k.disk.capacity) (leb k.disk.capacity max_capacity)
      (le-leb 1 k.disk.capacity s.least) (le-leb k.disk.capacity max_capacity sound.disk.capacity))
      s.pool;
  sound = sound;
  reservations = s.reservations;
}

pub steady-replayed : KeptStaysSound → (bytes : List ℕ) (k new : KeptFields) → IsSteady k
    → replayed bytes k ≡ Some new → IsSteady new
steady-replayed law bytes k new s e =
    whole-of new (steady-by (length bytes) bytes k new (omega arith) (parts-of k s) e)
    (law.after_records bytes k new s.sound e)

pub steady-new : KeptStaysSound → (d : NewDiskFields) → is_new_disk d ≡ true → IsSteady (new_disk_kept d)
steady-new law d new = record { new = new; sound = law.new d new; reservations = refl }
