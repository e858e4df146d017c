-- MODE SENSE returns a list or is refused.
use Rattle.std.proofs.Common.{◌≡◌, ◌≤◌, min, ℕ, zero, suc, List, [], length, Result, Ok, Err}
use Rattle.std.proofs.Common.{refl, sym, ap, subst, ◌∙◌}
use Rattle.std.specs.Prelude.{IfOk, IfErr}
use Rattle.std.specs.Result.{result_map_both}
use Rattle.sg_store.specs.Meter.{no_counts}
use Rattle.sg_store.specs.declared.store.Counts.{Counts}
use Rattle.sg_pages.specs.ModePage.{ModeState}
use Rattle.sg_pages.specs.ModeSense.{RequestFields, mode_sense}
use Rattle.sg_pages.specs.declared.mode_pages.request.ModeSenseFault.{ModeSenseFault}
use Rattle.sg_pages.specs.declared.mode_pages.request.ModeSenseFault.TheVariants.{Page, Subpage}
use Rattle.sg_wire.specs.FirstBytes.{first_bytes, overwritten}
use Rattle.sg_target.proofs.LengthLemmas.{cut-at}
use Rattle.sg_target.specs.Effect.{returning_up_to}
use Rattle.sg_target.specs.ModeCommands.{mode_parameters, sense_refusal}
use Rattle.sg_target.specs.Reply.{Carries}
use Rattle.sg_target.specs.MadeReplies.{executed_reply, refused_reply}
use Rattle.sg_target.specs.State.{State}
use Rattle.sg_target.specs.Step.{executed, refused, sense_format}
use Rattle.sg_target.specs.Charge.{step_before_alert}
use Rattle.sg_target.specs.declared.operation.Operation.TheVariants.{ReturnModes}
use Rattle.sg_target.specs.declared.reply.Reply.{Reply}

-- a list that was sensed
pub record Sensed (P : List ℕ → Type 0) (sensed : Result (List ℕ) ModeSenseFault) : Type 0 where
  pub list : List ℕ
  pub is : sensed ≡ Ok list
  pub has : P list

pub sensed-list : (P : List ℕ → Type 0) (u : Unit {0}) (sensed : Result (List ℕ) ModeSenseFault)
    → result_map_both (λ _. tt) (λ fault. fault) sensed ≡ Ok u → IfOk sensed P → Sensed P sensed
sensed-list P u (Ok list) e p = record { list = list; is = λ d. Ok list; has = p }
sensed-list P u (Err fault) e p = cc

pub sensed-fault : (fault : ModeSenseFault) (sensed : Result (List ℕ) ModeSenseFault)
    → result_map_both {U = Unit {0}} (λ (list : List ℕ). tt) (λ fault. fault) sensed ≡ Err fault
    → sensed ≡ Err fault
sensed-fault fault (Ok list) e = cc
sensed-fault fault (Err other) e = cc

pub if-fault : (P : Type 0) (fault : ModeSenseFault) (sensed : Result (List ℕ) ModeSenseFault)
    → sensed ≡ Err fault → IfErr sensed (λ _. P) → P
if-fault P fault (Ok list) e p = cc
if-fault P fault (Err other) e p = p

same-list : (sensed : Result (List ℕ) ModeSenseFault) (one other : List ℕ) → sensed ≡ Ok one
    → sensed ≡ Ok other → one ≡ other
same-list sensed one other e f = cc

pub if-list : (P : List ℕ → Type 0) (list : List ℕ) (sensed : Result (List ℕ) ModeSenseFault)
    → sensed ≡ Ok list → IfOk sensed P → P list
if-list P list (Ok other) e p = subst P (same-list (Ok other) other list refl e) p
if-list P list (Err fault) e p = cc

pub nothing-put : (limit : ℕ) (buffer : List ℕ)
    → overwritten (first_bytes limit []) buffer ≡ buffer
nothing-put zero buffer = refl
nothing-put (suc limit) buffer = refl

module _ (state : State) (i n : ℕ) (request request' : RequestFields) (modes : ModeState)
    (reply : Reply) (before after : List ℕ) (there : modes ≡ state.modes)
    (asked : request' ≡ request) where
  at-state : (sensed : Result (List ℕ) ModeSenseFault) → mode_sense modes request' ≡ sensed
      → mode_sense state.modes request ≡ sensed
  at-state sensed e =
      sym (ap (λ (m : ModeState). mode_sense m request') there
      ∙ ap (λ (r : RequestFields). mode_sense state.modes r) asked) ∙ e

  returned : (list : List ℕ) → mode_sense state.modes request ≡ Ok list
      → step_before_alert state i (ReturnModes request n) ≡ executed (returning_up_to state n list)
  unfolding mode_parameters
  returned list e = rw e refl

  refused-by : (fault : ModeSenseFault) → mode_sense state.modes request ≡ Err fault
      → step_before_alert state i (ReturnModes request n) ≡ refused state i (sense_refusal fault)
  unfolding mode_parameters
  refused-by fault e = rw e refl

  pub list-carried : (list : List ℕ) (limit most len : ℕ) → limit ≡ min most n → length list ≤ most
      → mode_sense modes request' ≡ Ok list → len ≡ length (first_bytes limit list)
      → after ≡ overwritten (first_bytes limit list) before → reply ≡ executed_reply len no_counts
      → Carries (step_before_alert state i (ReturnModes request n)).answer reply before after
  list-carried list limit most len cut short e size bytes is =
      let same = cut-at limit most n list cut short in
      rw (returned list (at-state (Ok list) e)) (record {
        status = ap (λ (r : Reply). r.status) is;
        sense = ap (λ (r : Reply). r.sense) is;
        size = ap (λ (r : Reply). r.data_in) is ∙ (size ∙ ap length same);
        data_in = bytes ∙ ap (λ put. overwritten put before) same;
      })

  carried : (fault : ModeSenseFault) (counts : Counts) → after ≡ before
      → reply ≡ refused_reply (sense_format state) (sense_refusal fault) counts
      → Carries (refused state i (sense_refusal fault)).answer reply before after
  carried Page counts same is = record {
    status = ap (λ (r : Reply). r.status) is;
    sense = ap (λ (r : Reply). r.sense) is;
    size = ap (λ (r : Reply). r.data_in) is;
    data_in = same;
  }
  carried Subpage counts same is = record {
    status = ap (λ (r : Reply). r.status) is;
    sense = ap (λ (r : Reply). r.sense) is;
    size = ap (λ (r : Reply). r.data_in) is;
    data_in = same;
  }

  pub fault-carried : (fault : ModeSenseFault) (counts : Counts)
      → mode_sense modes request' ≡ Err fault → after ≡ before
      → reply ≡ refused_reply (sense_format state) (sense_refusal fault) counts
      → Carries (step_before_alert state i (ReturnModes request n)).answer reply before after
  fault-carried fault counts e same is =
      rw (refused-by fault (at-state (Err fault) e)) (carried fault counts same is)
