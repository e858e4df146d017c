-- Thresholds: a command that leaves the blocks of the disk crosses none.
use Rattle.std.proofs.Common.{◌≡◌, ◌∙◌, ℕ, Bool, false, if◌then◌else◌, refl, sym, ap, subst}
use Rattle.std.specs.FinMap.{len}
use Rattle.sg_store.specs.Disk.{Disk}
use Rattle.sg_pages.specs.declared.provisioning_pages.MappingResources.{MappingResources}
use Rattle.sg_pages.proofs.ThresholdLemmas.{crosses-same}
use Rattle.sg_target.specs.Alerts.{alerted, has_crossed, with_threshold_reached}
use Rattle.sg_target.specs.State.{State, profile_of, resources_of}
use Rattle.sg_target.specs.Step.{Step, after_refusal, refused, with_alert}
use Rattle.sg_target.specs.declared.refusal.Reason.TheVariants.{UnitAttention as Attention}
use Rattle.sg_target.specs.declared.refusal.Refusal.{Refusal}
use Rattle.sg_target.specs.declared.refusal.Refusal.TheVariants.{CheckCondition}

-- a state with the blocks of the state before the command is not changed
pub no-alert : (before : State) (i : ℕ) (after : State) → after.disk ≡ before.disk
    → alerted (resources_of before) i after ≡ after
no-alert before i after e =
    let pool = resources_of after in
    let same : resources_of before ≡ pool =
    ap (λ (d : Disk). record { capacity = d.capacity; blocks = d.pool; used = len d.contents }) (sym e) in
    let none : has_crossed (resources_of before) after ≡ false =
    ap (λ (r : MappingResources). has_crossed r after) same
    ∙ crosses-same (profile_of after) after.modes.current pool in
    ap
    (λ (b : Bool).
    record after { attentions = if b then with_threshold_reached after i else after.attentions })
    none

-- so what is true of it is true of what it becomes
pub by-no-alert : (P : State → Type 0) (before : State) (i : ℕ) (after : State)
    → after.disk ≡ before.disk → P after → P (alerted (resources_of before) i after)
by-no-alert P before i after e h = subst P (sym (no-alert before i after e)) h

-- and so does its step
pub no-alert-step : (state : State) (i : ℕ) (done : Step) → done.state.disk ≡ state.disk
    → with_alert state i done ≡ done
no-alert-step state i done e =
    ap (λ (s : State). record done { state = s }) (no-alert state i done.state e)

pub by-no-alert-step : (P : Step → Type 0) (state : State) (i : ℕ) (done : Step)
    → done.state.disk ≡ state.disk → P done → P (with_alert state i done)
by-no-alert-step P state i done e h = subst P (sym (no-alert-step state i done e)) h

pub refusal-disk : (state : State) (i : ℕ) (refusal : Refusal)
    → (after_refusal state i refusal).disk ≡ state.disk
refusal-disk state i (CheckCondition (Attention condition)) = refl
refusal-disk state i _ = refl

-- a refused command crosses none
pub refused-no-alert : (state : State) (i : ℕ) (refusal : Refusal)
    → with_alert state i (refused state i refusal) ≡ refused state i refusal
refused-no-alert state i refusal =
    no-alert-step state i (refused state i refusal) (refusal-disk state i refusal)
