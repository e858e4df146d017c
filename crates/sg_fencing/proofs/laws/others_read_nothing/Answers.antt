use Rattle.std.proofs.Common.{◌≡◌, ℕ, zero, suc, true, List, [], ◌∷◌, take, Some}
use Rattle.std.proofs.Common.{sym, ap, ◌∙◌}
use Rattle.std.specs.Prelude.{slice_get}
use Rattle.std.proofs.lemmas.Bool.{or_right}
use Rattle.sg_wire.specs.CdbDecoding.{class_of}
use Rattle.sg_wire.specs.declared.command.Class.TheVariants.{Reads}
use Rattle.sg_units.specs.Laws.{OthersAreRefused}
use Rattle.sg_units.specs.declared.types.ReservationType.TheVariants.{WriteExclusive, ExclusiveAccess}
use Rattle.sg_fencing.specs.Fencing.{holds_type}
use Rattle.sg_target.specs.Runs.{answers, state_after_all, step_of}
use Rattle.sg_target.specs.State.{IsWithinLimits, State}
use Rattle.sg_target.specs.Step.{Answer}
use Rattle.sg_target.specs.declared.call.Call.{Call}
use Rattle.sg_target.specs.declared.reply.Status.TheVariants.{Good}
use Rattle.sg_fencing.proofs.HolderLemmas.{alone, is-exclusive, refuses-others}
use Rattle.sg_target.specs.Laws.{LimitsAreKept}
use Rattle.sg_fencing.proofs.AccessLemmas.{shut-out}
use Rattle.sg_fencing.proofs.laws.others_read_nothing.Goals as goal

not-first : OthersAreRefused → (state : State) (holder : ℕ) (call : Call) → IsWithinLimits state
    → (call.initiator ≡ holder → ⊥) → class_of call.cdb.now ≡ Some Reads
    → holds_type state holder ExclusiveAccess ≡ true
    → (step_of state call).answer.status ≡ Good → ⊥
not-first refuses state holder call w other reads exclusive =
    let held = or_right (holds_type state holder WriteExclusive) _ exclusive in
    let h = alone state holder w held in
    let refused = refuses-others refuses state.reservations holder call.initiator other h in
    shut-out state call.initiator call.cdb.now call.data_out.now Reads reads
    (refused.reads (is-exclusive state holder h exclusive))

not-at : LimitsAreKept → OthersAreRefused → (state : State) (holder : ℕ) (calls : List Call) (n : ℕ)
    (call : Call) (answer : Answer)
    → IsWithinLimits state → slice_get calls n ≡ Some call
    → slice_get (answers state calls) n ≡ Some answer → (call.initiator ≡ holder → ⊥)
    → class_of call.cdb.now ≡ Some Reads
    → holds_type (state_after_all state (take n calls)) holder ExclusiveAccess ≡ true
    → answer.status ≡ Good → ⊥
not-at limits refuses state holder [] n call answer w e f other reads exclusive good = cc
not-at limits refuses state holder (first ∷ calls) zero call answer w e f other reads exclusive good =
    let same : first ≡ call = cc in
    let answered : (step_of state first).answer ≡ answer = cc in
    not-first refuses state holder call w other reads exclusive
    (ap (λ (c : Call). (step_of state c).answer.status) (sym same)
    ∙ (ap (λ (a : Answer). a.status) answered ∙ good))
not-at limits refuses state holder (first ∷ calls) (suc n) call answer w e f other reads exclusive good =
    not-at limits refuses (step_of state first).state holder calls n call answer
    (limits.command state first.initiator first.cdb.now first.data_out.now w) e f other reads exclusive
    good

pub returns : goal.returns
returns c state holder calls n call answer w e f other reads exclusive good =
    not-at c.limits_are_kept.ensures c.others_are_refused.ensures state holder calls n call answer w e f
    other reads exclusive good
