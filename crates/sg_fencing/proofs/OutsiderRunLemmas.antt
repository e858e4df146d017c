-- Lists of commands while a reservation is held: the commands of unregistered initiators.
use Rattle.std.proofs.Common.{◌≡◌, ℕ, zero, suc, Bool, true, false, List}
use Rattle.std.proofs.Common.{[], ◌∷◌, Option, Some, None, refl, sym, ap, ◌∙◌}
use Rattle.std.specs.Prelude.{is_some}
use Rattle.std.specs.List.{list_any}
use Rattle.std.proofs.lemmas.Bool.{eqb-false, or_parts}
use Rattle.sg_wire.specs.Laws.{CommandsHaveTheirClass}
use Rattle.sg_wire.specs.CdbDecoding.{class_of}
use Rattle.sg_wire.specs.declared.command.Class.{Class}
use Rattle.sg_wire.specs.declared.command.Class.TheVariants.{Reads, Writes}
use Rattle.sg_units.specs.Access.{allows}
use Rattle.sg_units.specs.Laws.{OthersAreRefused}
use Rattle.sg_units.specs.declared.reservation.Reservation.{Reservation}
use Rattle.sg_target.specs.Runs.{state_after_all, step_of}
use Rattle.sg_target.specs.State.{IsWithinLimits, State}
use Rattle.sg_target.specs.Step.{Answer}
use Rattle.sg_target.specs.declared.call.Call.{Call}
use Rattle.sg_target.specs.declared.reply.Status.TheVariants.{Good}
use Rattle.sg_target.specs.Laws.{LimitsAreKept}
use Rattle.sg_fencing.specs.Fencing.{IsLeft, View, is_from}
use Rattle.sg_fencing.specs.Registrants.{NoneIsServed, StaysUnregistered, excludes_reading}
use Rattle.sg_fencing.specs.Registrants.{is_registrant, is_reserved}
use Rattle.sg_fencing.proofs.AccessLemmas.{shut-out}
use Rattle.sg_fencing.proofs.OthersLemmas.{nothing-left}
use Rattle.sg_fencing.proofs.OutsiderLemmas.{outsider-keeps, shut}

-- ---- Nothing is written, nor read

-- A class of commands is refused to whoever is not registered, in states that meet a condition.
abbrev pub IsRefusedWhere : (condition : State → Bool) → Class → Type 0
IsRefusedWhere condition class =
    (state : State) (j : ℕ) → condition state ≡ true → is_registrant state j ≡ false
    → allows state.reservations j class ≡ false

pub writes-refused : OthersAreRefused → IsRefusedWhere is_reserved Writes
writes-refused refuses state j held unknown =
    (shut refuses state j (record { held = held; unknown = unknown })).writes

-- a reservation that excludes reading is held
pub held-to-exclude : (held : Option Reservation) → excludes_reading held ≡ true → is_some held ≡ true
held-to-exclude (Some r) h = refl
held-to-exclude None h = h

abbrev pub excludes : State → Bool
excludes state = excludes_reading state.reservations.reservation

pub reads-refused : OthersAreRefused → IsRefusedWhere excludes Reads
reads-refused refuses state j exclusive unknown =
    let held = held-to-exclude state.reservations.reservation exclusive in
    (shut refuses state j (record { held = held; unknown = unknown })).reads exclusive

module _ (condition : State → Bool) (class : Class) (refuses : IsRefusedWhere condition class) where
  pub not-first : (state : State) (i : ℕ) (call : Call)
      → is_registrant state i ≡ false → call.initiator ≡ i → class_of call.cdb.now ≡ Some class
      → condition state ≡ true → (step_of state call).answer.status ≡ Good → ⊥
  not-first state i call unknown from of_class met =
      let here = ap (λ j. is_registrant state j) from ∙ unknown in
      shut-out state call.initiator call.cdb.now call.data_out.now class of_class
      (refuses state call.initiator met here)

  pub not-served : NoneIsServed class condition
  not-served state [] n call answer e f of_class unknown met good = cc
  not-served state (first ∷ calls) zero call answer e f of_class unknown met good =
      let same : first ≡ call = cc in
      let answered : (step_of state first).answer ≡ answer = cc in
      not-first state call.initiator call unknown refl of_class met
      (ap (λ (c : Call). (step_of state c).answer.status) (sym same)
      ∙ (ap (λ (a : Answer). a.status) answered ∙ good))
  not-served state (first ∷ calls) (suc n) call answer e f of_class unknown met good =
      not-served (step_of state first).state calls n call answer e f of_class unknown met good

-- ---- Nothing is changed

pub nothing-changed : LimitsAreKept → OthersAreRefused → CommandsHaveTheirClass
    → (state : State) (i : ℕ) (calls : List Call) → IsWithinLimits state → is_reserved state ≡ true
    → ((j : ℕ) → StaysUnregistered j state calls) → list_any (is_from i) calls ≡ false
    → IsLeft state (state_after_all state calls) i
nothing-changed limits refuses classes state i [] w held stay others = nothing-left state i
nothing-changed limits refuses classes state i (call ∷ calls) w held stay others =
    let j = call.initiator in
    let cdb = call.cdb.now in
    let data_out = call.data_out.now in
    let other = or_parts (is_from i call) (list_any (is_from i) calls) others in
    let kept =
    outsider-keeps refuses classes state i j (eqb-false j i other.0)
    (record { held = held; unknown = (stay j 0 call refl refl).0 }) w cdb data_out
    (stay j 0 call refl refl).1 in
    let rest =
    nothing-changed limits refuses classes (step_of state call).state i calls
    (limits.command state j cdb data_out w)
    (ap (λ (v : View). is_some v.reservation) kept.left.view ∙ held)
    (λ k n next e from. stay k (suc n) next e from) other.1 in
    let stopped = (state_after_all state (call ∷ calls)).stopped in
    record {
      view = rest.view ∙ ap (λ (v : View). record v { stopped = stopped }) kept.left.view;
      not_stopped = λ h. rest.not_stopped (kept.left.not_stopped h);
    }
