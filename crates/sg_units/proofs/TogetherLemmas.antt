-- Initiators that are registered together with another, one after the other.
use Rattle.std.proofs.Common.{◌≡◌, ◌<◌, ◌≤◌, ◌+◌, ℕ, zero, suc, List, [], ◌∷◌, length, arith}
use Rattle.std.proofs.Common.{refl, sym, ap, ◌∙◌, subst, take, drop}
use Rattle.std.specs.Prelude.{Option, Some, None, nat_lt, slice_index_or}
use Rattle.std.specs.Prelude.{if◌then◌else◌}
use Rattle.std.specs.List.{fold}
use Rattle.std.proofs.lemmas.Bool.{cond_both}
use Rattle.std.proofs.lemmas.Bool.Decides.{nat_tests}
use Rattle.std.proofs.lemmas.List.{length-append, take_all}
use Rattle.sg_units.specs.Registrations.{is_registered, max_registrations, with_registration}
use Rattle.sg_units.specs.ReserveOut.{registered_together, registered_too, registration_by}
use Rattle.sg_units.specs.declared.registrations.Registration.{Registration}
use Rattle.sg_wire.specs.declared.out_list.OutList.{OutList}

-- no registration is lost
too-more : (list : OutList) (rs : List Registration) (named : Option ℕ)
    → length rs ≤ length (registered_too list rs named)
too-more list rs None = omega arith
too-more list rs (Some i) =
    cond_both (is_registered rs i) rs (with_registration rs (registration_by list i))
    (λ all. length rs ≤ length all) (λ _. omega arith)
    (λ _. omega (arith, length-append rs (registration_by list i ∷ [])))

pub each-more : (list : OutList) (named : List (Option ℕ)) (rs : List Registration)
    → length rs ≤ length (fold (registered_too list) rs named)
each-more list [] rs = omega arith
each-more list (one ∷ named) rs =
    let next = registered_too list rs one in
    omega (arith, too-more list rs one, each-more list named next)

-- too many for the room that there is
too_many : (all : List Registration) → max_registrations + 1 ≤ length all
    → None ≡ (if nat_lt max_registrations (length all) then None else Some all)
too_many all h = grind (arith, nat_tests)

few_enough : (all : List Registration) → length all ≤ max_registrations
    → Some all ≡ (if nat_lt max_registrations (length all) then None else Some all)
few_enough all h = grind (arith, nat_tests)

-- one after those in front of it, and then the others
by_index : (list : OutList) (named : List (Option ℕ)) (rs : List Registration) (index : ℕ)
    → index < length named →
    (let next = registered_too list (fold (registered_too list) rs (take index named))
    (slice_index_or named index None) in
    fold (registered_too list) rs named ≡ fold (registered_too list) next (drop (suc index) named))
by_index list [] rs index h = absurd (omega (arith, h))
by_index list (one ∷ named) rs zero h = refl
by_index list (one ∷ named) rs (suc index) h =
    by_index list named (registered_too list rs one) index (omega (arith, h))

module _ (before : List Registration) (caller : ℕ) (list : OutList) where
  abbrev result : Option (List Registration)
  result =
      let all = registered_together before caller list in
      if nat_lt max_registrations (length all) then None else Some all

  pub no_room_for_caller : length (registered_too list before (Some caller)) ≡ max_registrations + 1
      → None ≡ result
  unfolding registered_together
  no_room_for_caller h =
      too_many _
      (omega (arith, h, each-more list list.others (registered_too list before (Some caller))))

  pub no_room_at : (rs : List Registration) (index : ℕ) → index < length list.others
      → rs ≡ fold (registered_too list) before (Some caller ∷ take index list.others)
      → length (registered_too list rs (slice_index_or list.others index None)) ≡ max_registrations + 1
      → None ≡ result
  unfolding registered_together
  no_room_at rs index within so_far h =
      let first = registered_too list before (Some caller) in
      let whole = by_index list list.others first index within in
      let next = registered_too list (fold (registered_too list) first (take index list.others))
      (slice_index_or list.others index None) in
      let same = ap (λ (all : List Registration).
      length (registered_too list all (slice_index_or list.others index None))) so_far in
      too_many _
      (omega (arith, sym same ∙ h, each-more list (drop (suc index) list.others) next, ap length whole))

  pub all_registered : (rs : List Registration) (index : ℕ) → length list.others ≤ index
      → rs ≡ fold (registered_too list) before (Some caller ∷ take index list.others)
      → length rs ≤ max_registrations → Some rs ≡ result
  unfolding registered_together
  all_registered rs index end so_far within =
      let same = so_far ∙ ap (λ others. fold (registered_too list) before (Some caller ∷ others))
      (take_all index list.others end) in
      ap Some same
      ∙ few_enough _ (subst (λ (all : List Registration). length all ≤ max_registrations) same within)
