-- The bytes of armed faults are an exact format.
use Rattle.std.proofs.Common.{◌≡◌, ℕ, List, Some, refl, sym, subst}
use Rattle.sg_faults.specs.Faults.{max_faults}
use Rattle.sg_faults.specs.SenseCode.{each_key, key_code, key_with_code}
use Rattle.sg_faults.specs.declared.outcome.Afterwards.TheVariants as afterwards
use Rattle.sg_faults.specs.declared.outcome.AtMedium.TheVariants as at_medium
use Rattle.sg_faults.specs.declared.outcome.OnArrival.TheVariants as on_arrival
use Rattle.sg_faults.specs.declared.outcome.Outcome.{Outcome}
use Rattle.sg_faults.specs.declared.outcome.Outcome.TheVariants.{OnArrival, AtMedium, Afterwards}
use Rattle.sg_faults.specs.declared.sense_code.SenseKey.{SenseKey}
use Rattle.sg_faults.specs.declared.sense_code.SenseKey.TheVariants.{NoSense, RecoveredError}
use Rattle.sg_faults.specs.declared.sense_code.SenseKey.TheVariants.{NotReady, MediumError}
use Rattle.sg_faults.specs.declared.sense_code.SenseKey.TheVariants.{HardwareError, IllegalRequest}
use Rattle.sg_faults.specs.declared.sense_code.SenseKey.TheVariants.{UnitAttention, DataProtect}
use Rattle.sg_faults.specs.declared.sense_code.SenseKey.TheVariants.{BlankCheck, VendorSpecific}
use Rattle.sg_faults.specs.declared.sense_code.SenseKey.TheVariants.{CopyAborted, AbortedCommand}
use Rattle.sg_faults.specs.declared.sense_code.SenseKey.TheVariants.{VolumeOverflow, Miscompare}
use Rattle.sg_faults.specs.declared.sense_code.SenseKey.TheVariants.{Completed}
use Rattle.sg_wire.specs.Initiator.{initiator_count}
use Rattle.sg_changes.specs.ExtentFormat.{extent}
use Rattle.sg_changes.specs.FaultFormat.{armed_fault, bad_blocks, count, fault, faults, outcome}
use Rattle.sg_changes.specs.FaultFormat.{outcome_bytes, outcome_is_possible, outcome_with_tag}
use Rattle.sg_changes.specs.FaultFormat.{sense_code, sense_key}
use Rattle.sg_changes.specs.Format.{Format, IsExact, number, pair, flag, many, nothing, optional}
use Rattle.sg_changes.proofs.FieldLemmas.{extent_exact, found_code, renamed_exact, table_exact}
use Rattle.sg_changes.proofs.FormatLemmas.{number_exact, pair_exact}
use Rattle.sg_changes.proofs.ManyLemmas.{flag_exact, many_exact, optional_exact}
use Rattle.sg_changes.proofs.TagLemmas.{IsRow, chosen, nothing_exact, tagged_exact}

key-again : (key : SenseKey) → key_with_code (key_code key) ≡ Some key
key-again NoSense = refl
key-again RecoveredError = refl
key-again NotReady = refl
key-again MediumError = refl
key-again HardwareError = refl
key-again IllegalRequest = refl
key-again UnitAttention = refl
key-again DataProtect = refl
key-again BlankCheck = refl
key-again VendorSpecific = refl
key-again CopyAborted = refl
key-again AbortedCommand = refl
key-again VolumeOverflow = refl
key-again Miscompare = refl
key-again Completed = refl

key-exact : IsExact sense_key
unfolding sense_key
key-exact = table_exact key_code key_with_code (λ n x e. found_code key_code n each_key x e) key-again

code-exact : IsExact sense_code
unfolding sense_code
code-exact =
    renamed_exact (λ p. record { key = p.0; asc = p.1.0; ascq = p.1.1 }) (λ c. (c.key, (c.asc, c.ascq)))
    (pair sense_key (pair (number 1) (number 1)))
    (pair_exact sense_key (pair (number 1) (number 1)) key-exact
    (pair_exact (number 1) (number 1) (number_exact 1) (number_exact 1)))
    (λ p. refl) (λ c. refl)

-- ---- What a fault does

abbrev Row : {X : Type 0} → Format X → (X → Outcome) → ℕ → Type 0
Row format make tag = IsRow outcome_bytes outcome_is_possible outcome_with_tag format make tag

busy-row : Row nothing (λ _. OnArrival on_arrival.Busy) 1
unfolding outcome_with_tag
busy-row = record { exact = nothing_exact; spelled = λ x. refl; possible = λ x. refl; read = λ fields. refl }

task_set_full-row : Row nothing (λ _. OnArrival on_arrival.TaskSetFull) 2
unfolding outcome_with_tag
task_set_full-row = record {
  exact = nothing_exact;
  spelled = λ x. refl;
  possible = λ x. refl;
  read = λ
      fields. refl;
}

reservation_conflict-row : Row nothing (λ _. OnArrival on_arrival.ReservationConflict) 3
unfolding outcome_with_tag
reservation_conflict-row = record {
  exact = nothing_exact;
  spelled = λ x. refl;
  possible = λ x. refl;
  read = λ fields. refl;
}

no_reply-row : Row nothing (λ _. OnArrival on_arrival.NoReply) 4
unfolding outcome_with_tag
no_reply-row = record {
  exact = nothing_exact;
  spelled = λ x. refl;
  possible = λ x. refl;
  read = λ
      fields. refl;
}

arrival_check-row : Row sense_code (λ c. OnArrival (on_arrival.CheckCondition c)) 5
unfolding outcome_with_tag
arrival_check-row = record {
  exact = code-exact;
  spelled = λ x. refl;
  possible = λ x. refl;
  read = λ
      fields. refl;
}

deferred-row : Row sense_code (λ c. OnArrival (on_arrival.DeferredError c)) 6
unfolding outcome_with_tag
deferred-row = record { exact = code-exact; spelled = λ x. refl; possible = λ x. refl; read = λ fields. refl }

medium_check-row : Row sense_code (λ c. AtMedium (at_medium.CheckCondition c)) 7
unfolding outcome_with_tag
medium_check-row = record {
  exact = code-exact;
  spelled = λ x. refl;
  possible = λ x. refl;
  read = λ
      fields. refl;
}

moves_only-row : Row (number 4) (λ n. AtMedium (at_medium.MovesOnly n)) 8
unfolding outcome_with_tag
moves_only-row = record {
  exact = number_exact 4;
  spelled = λ x. refl;
  possible = λ x. refl;
  read = λ
      fields. refl;
}

no_status-row : Row nothing (λ _. Afterwards afterwards.NoReply) 9
unfolding outcome_with_tag
no_status-row = record {
  exact = nothing_exact;
  spelled = λ x. refl;
  possible = λ x. refl;
  read = λ
      fields. refl;
}

late_check-row : Row sense_code (λ c. Afterwards (afterwards.CheckCondition c)) 10
unfolding outcome_with_tag
late_check-row = record {
  exact = code-exact;
  spelled = λ x. refl;
  possible = λ x. refl;
  read = λ
      fields. refl;
}

short_data_in-row : Row (number 4) (λ n. Afterwards (afterwards.ShortDataIn n)) 11
unfolding outcome_with_tag
short_data_in-row = record {
  exact = number_exact 4;
  spelled = λ x. refl;
  possible = λ x. refl;
  read = λ
      fields. refl;
}

row-with-tag : (P : Type 0) (tag : ℕ) (fields : List ℕ) (y : Outcome) (rest : List ℕ)
    → outcome_with_tag tag fields ≡ Some (y, rest)
    → ((X : Type 0) (format : Format X) (make : X → Outcome) → Row format make tag → P) → P
unfolding outcome_with_tag
row-with-tag P tag fields y rest e then =
    chosen P tag 1 _ _ (y, rest) e
    (λ same. then _ nothing (λ _. OnArrival on_arrival.Busy)
    (subst (Row nothing (λ _. OnArrival on_arrival.Busy)) (sym same) busy-row)) (λ e2.
    chosen P tag 2 _ _ (y, rest) e2
    (λ same. then _ nothing (λ _. OnArrival on_arrival.TaskSetFull)
    (subst (Row nothing (λ _. OnArrival on_arrival.TaskSetFull)) (sym same) task_set_full-row))
    (λ e3.
    chosen P tag 3 _ _ (y, rest) e3
    (λ same. then _ nothing (λ _. OnArrival on_arrival.ReservationConflict)
    (subst (Row nothing (λ _. OnArrival on_arrival.ReservationConflict)) (sym same)
    reservation_conflict-row)) (λ e4.
    chosen P tag 4 _ _ (y, rest) e4
    (λ same. then _ nothing (λ _. OnArrival on_arrival.NoReply)
    (subst (Row nothing (λ _. OnArrival on_arrival.NoReply)) (sym same) no_reply-row)) (λ e5.
    chosen P tag 5 _ _ (y, rest) e5
    (λ same. then _ sense_code (λ c. OnArrival (on_arrival.CheckCondition c))
    (subst (Row sense_code (λ c. OnArrival (on_arrival.CheckCondition c))) (sym same)
    arrival_check-row)) (λ e6.
    chosen P tag 6 _ _ (y, rest) e6
    (λ same. then _ sense_code (λ c. OnArrival (on_arrival.DeferredError c))
    (subst (Row sense_code (λ c. OnArrival (on_arrival.DeferredError c))) (sym same) deferred-row))
    (λ e7.
    chosen P tag 7 _ _ (y, rest) e7
    (λ same. then _ sense_code (λ c. AtMedium (at_medium.CheckCondition c))
    (subst (Row sense_code (λ c. AtMedium (at_medium.CheckCondition c))) (sym same)
    medium_check-row)) (λ e8.
    chosen P tag 8 _ _ (y, rest) e8
    (λ same. then _ (number 4) (λ n. AtMedium (at_medium.MovesOnly n))
    (subst (Row (number 4) (λ n. AtMedium (at_medium.MovesOnly n))) (sym same) moves_only-row))
    (λ e9.
    chosen P tag 9 _ _ (y, rest) e9
    (λ same. then _ nothing (λ _. Afterwards afterwards.NoReply)
    (subst (Row nothing (λ _. Afterwards afterwards.NoReply)) (sym same) no_status-row)) (λ e10.
    chosen P tag 10 _ _ (y, rest) e10
    (λ same. then _ sense_code (λ c. Afterwards (afterwards.CheckCondition c))
    (subst (Row sense_code (λ c. Afterwards (afterwards.CheckCondition c))) (sym same)
    late_check-row)) (λ e11.
    chosen P tag 11 _ _ (y, rest) e11
    (λ same. then _ (number 4) (λ n. Afterwards (afterwards.ShortDataIn n))
    (subst (Row (number 4) (λ n. Afterwards (afterwards.ShortDataIn n))) (sym same)
    short_data_in-row)) (λ e12.
    absurd cc)))))))))))

row-of : (P : Type 0) (y : Outcome)
    → ((X : Type 0) (format : Format X) (make : X → Outcome) (tag : ℕ) → Row format make tag → (x : X)
    → make x ≡ y → P) → P
row-of P (OnArrival on_arrival.Busy) then = then _ nothing (λ _. OnArrival on_arrival.Busy) 1 busy-row tt refl
row-of P (OnArrival on_arrival.TaskSetFull) then = then _ nothing
    (λ _. OnArrival on_arrival.TaskSetFull) 2 task_set_full-row tt refl
row-of P (OnArrival on_arrival.ReservationConflict) then = then _ nothing
    (λ _. OnArrival on_arrival.ReservationConflict) 3 reservation_conflict-row tt refl
row-of P (OnArrival on_arrival.NoReply) then = then _ nothing (λ _. OnArrival on_arrival.NoReply) 4
    no_reply-row tt refl
row-of P (OnArrival (on_arrival.CheckCondition c)) then = then _ sense_code
    (λ c. OnArrival (on_arrival.CheckCondition c)) 5 arrival_check-row c refl
row-of P (OnArrival (on_arrival.DeferredError c)) then = then _ sense_code
    (λ c. OnArrival (on_arrival.DeferredError c)) 6 deferred-row c refl
row-of P (AtMedium (at_medium.CheckCondition c)) then = then _ sense_code
    (λ c. AtMedium (at_medium.CheckCondition c)) 7 medium_check-row c refl
row-of P (AtMedium (at_medium.MovesOnly c)) then = then _ (number 4)
    (λ n. AtMedium (at_medium.MovesOnly n)) 8 moves_only-row c refl
row-of P (Afterwards afterwards.NoReply) then = then _ nothing (λ _. Afterwards afterwards.NoReply) 9
    no_status-row tt refl
row-of P (Afterwards (afterwards.CheckCondition c)) then = then _ sense_code
    (λ c. Afterwards (afterwards.CheckCondition c)) 10 late_check-row c refl
row-of P (Afterwards (afterwards.ShortDataIn c)) then = then _ (number 4)
    (λ n. Afterwards (afterwards.ShortDataIn n)) 11 short_data_in-row c refl

outcome-exact : IsExact outcome
unfolding outcome
outcome-exact = tagged_exact outcome_bytes outcome_is_possible outcome_with_tag row-with-tag row-of

-- ---- Faults

blocks-exact : IsExact bad_blocks
unfolding bad_blocks
blocks-exact =
    renamed_exact (λ p. record { extent = p.0; healed_by_writes = p.1 }) (λ b. (b.extent, b.healed_by_writes))
    (pair extent flag) (pair_exact extent flag extent_exact flag_exact) (λ p. refl) (λ b. refl)

fault-exact : IsExact fault
unfolding fault
fault-exact =
    renamed_exact
    (λ p. record {
      initiators = p.0;
      code = p.1.0;
      blocks = p.1.1.0;
      skip = p.1.1.1.0;
      times = p.1.1.1.1.0;
      outcome = p.1.1.1.1.1;
    })
    (λ f. (f.initiators, (f.code, (f.blocks, (f.skip, (f.times, f.outcome))))))
    (pair (many initiator_count flag)
    (pair (optional (number 1))
    (pair (optional bad_blocks) (pair (number 2) (pair (optional (number 2)) outcome)))))
    (pair_exact (many initiator_count flag)
    (pair (optional (number 1)) (pair (optional bad_blocks)
    (pair (number 2) (pair (optional (number 2)) outcome))))
    (many_exact flag flag_exact initiator_count)
    (pair_exact (optional (number 1))
    (pair (optional bad_blocks) (pair (number 2) (pair (optional (number 2)) outcome)))
    (optional_exact (number 1) (number_exact 1))
    (pair_exact (optional bad_blocks) (pair (number 2) (pair (optional (number 2)) outcome))
    (optional_exact bad_blocks blocks-exact)
    (pair_exact (number 2) (pair (optional (number 2)) outcome) (number_exact 2)
    (pair_exact (optional (number 2)) outcome (optional_exact (number 2) (number_exact 2)) outcome-exact)))))
    (λ p. refl) (λ f. refl)

count-exact : IsExact count
unfolding count
count-exact =
    renamed_exact (λ p. record { skip = p.0; times = p.1 }) (λ c. (c.skip, c.times))
    (pair (number 2) (optional (number 2)))
    (pair_exact (number 2) (optional (number 2)) (number_exact 2)
    (optional_exact (number 2) (number_exact 2)))
    (λ p. refl) (λ c. refl)

armed-exact : IsExact armed_fault
unfolding armed_fault
armed-exact =
    renamed_exact (λ p. record { fault = p.0; counts = p.1 }) (λ a. (a.fault, a.counts))
    (pair fault (many initiator_count count))
    (pair_exact fault (many initiator_count count) fault-exact (many_exact count count-exact initiator_count))
    (λ p. refl) (λ a. refl)

pub faults_exact : IsExact faults
unfolding faults
faults_exact =
    many_exact (optional armed_fault) (optional_exact armed_fault armed-exact) max_faults
