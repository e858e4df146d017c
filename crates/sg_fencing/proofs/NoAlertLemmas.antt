-- PERSISTENT RESERVE OUT leaves the blocks, and so tells of no threshold.
use Rattle.std.proofs.Common.{◌≡◌, ℕ, Ok, Err, refl}
use Rattle.std.specs.Result.{result_map_both}
use Rattle.sg_units.specs.ReserveOut.{Outcome}
use Rattle.sg_target.specs.Refusal.{when_sound}
use Rattle.sg_target.specs.ReservationCommands.{changing_reservations, out_refusal}
use Rattle.sg_target.specs.State.{State}
use Rattle.sg_target.specs.Step.{Step, outcome as step_outcome}
use Rattle.sg_target.proofs.AlertLemmas.{refusal-disk}

abbrev pub reserving : State → (j : ℕ) → Outcome → Step
reserving state j o =
    step_outcome state j
    (when_sound (result_map_both (λ change. change) out_refusal o) (changing_reservations state j))

pub reserving-disk : (state : State) (j : ℕ) (o : Outcome)
    → (reserving state j o).state.disk ≡ state.disk
reserving-disk state j (Ok change) = refl
reserving-disk state j (Err fault) = refusal-disk state j (out_refusal fault)
