-- A COMPARE AND WRITE whose blocks are not as it expects reports the first byte that differs.
use Rattle.std.proofs.Common.{◌≡◌, ◌≢◌, ◌<◌, ℕ, List, length, take, Bool, true, false}
use Rattle.std.proofs.Common.{[], ◌∷◌, not, Option, Some, None, refl, sym, ap, ◌∙◌, arith, eqb-true}
use Rattle.std.proofs.Common.{length-take}
use Rattle.std.specs.List.{zip}
use Rattle.std.specs.Option.{option_map_or}
use Rattle.std.specs.Prelude.{◌==◌}
use Rattle.std.proofs.lemmas.Bool.{eqb-false}
use Rattle.std.proofs.lemmas.List.Quantifiers.{position-Some}
use Rattle.std.proofs.lemmas.Slice.Zip.{get_or-zip, length-zip}
use Rattle.sg_wire.specs.Laws.{CommandsHaveTheirClass}
use Rattle.sg_store.specs.Comparison.{first_difference}
use Rattle.sg_store.proofs.ComparisonLemmas.{none-same}
use Rattle.sg_target.specs.BlockCommands.{blocks_at, bytes_of, exchange_out, exchanging, miscompare}
use Rattle.sg_target.specs.Effect.{Effect, no_space}
use Rattle.sg_target.specs.Refusal.{first_some}
use Rattle.sg_target.specs.State.{State}
use Rattle.sg_target.specs.Step.{executed, refused, with_alert}
use Rattle.sg_target.specs.declared.refusal.Refusal.{Refusal}
use Rattle.sg_fencing.specs.Exchanges.{EndsWithMiscompare, IsFirstDifference}
use Rattle.sg_fencing.specs.Exchanges.{MiscomparesPointToTheFirstDifference}
use Rattle.sg_fencing.proofs.ExchangeLemmas.{length-blocks}
use Rattle.sg_fencing.proofs.FreeExchangeLemmas.{effect-is}
use Rattle.sg_target.proofs.AlertLemmas.{no-alert}

-- the first pair whose bytes differ
not-equal : (b : Bool) → not b ≡ true → b ≡ false
not-equal true h = sym h
not-equal false h = refl

equal : (b : Bool) → not b ≡ false → b ≡ true
equal true h = refl
equal false h = sym h

is-first : (bytes others : List ℕ) (offset : ℕ) → length bytes ≡ length others
    → first_difference bytes others ≡ Some offset → IsFirstDifference offset bytes others
unfolding first_difference
is-first bytes others offset same h =
    let differ = λ (pair : ℕ × ℕ). not (pair.0 == pair.1) in
    let at = position-Some differ (zip bytes others) offset (0, 0) h in
    let inside : offset < length bytes = omega (arith, at.0, length-zip bytes others, same) in
    let pair = λ (k : ℕ) (h : k < length bytes).
    get_or-zip bytes others k (0, 0) h (omega (arith, h, same)) in
    record {
      inside = inside;
      differs = eqb-false _ _ (not-equal _ (ap differ (sym (pair offset inside)) ∙ at.1));
      first = λ k before.
          let within : k < length bytes = omega (arith, before, inside) in
          eqb-true _ _ (equal _ (ap differ (sym (pair k within)) ∙ at.2 k before));
    }

-- what the outcome of an exchange with a difference is
module _ (state : State) (i : ℕ) (its : Effect) (found expected : List ℕ)
    (same : length found ≡ length expected) (other : found ≢ expected) where
  by-difference : (difference : Option ℕ) → first_difference found expected ≡ difference
      → (space : Option Refusal) → its.found ≡ first_some (miscompare difference ∷ space ∷ [])
      → EndsWithMiscompare state
      (with_alert state i (option_map_or (refused state i) its.found (executed its))) found expected
  by-difference None none space e = absurd (other (none-same found expected same none))
  by-difference (Some offset) some space e =
      rw e (record {
        offset = offset;
        is_first = is-first found expected offset same some;
        answer = refl;
        state = no-alert state i state refl;
      })

pub miscompares : CommandsHaveTheirClass → MiscomparesPointToTheFirstDifference
miscompares classes state i cdb data_out named w is free two_halves other =
    let its = exchanging state (exchange_out named data_out) in
    let found = blocks_at state named in
    let expected = take (bytes_of named) data_out in
    let long = length-blocks state.disk.contents state.disk.capacity named.lba named.count w.blocks in
    let same : length found ≡ length expected =
    omega (arith, long, two_halves, length-take (bytes_of named) data_out) in
    rw (effect-is classes state i cdb data_out named is free two_halves)
    (by-difference state i its found expected same other (first_difference found expected) refl
    (no_space its.after.disk) refl)
