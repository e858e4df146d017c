-- Commands in two states that look alike to a group.
use Rattle.std.proofs.Common.{◌≡◌, false, [], ◌∷◌, refl, ap, ◌∙◌, subst}
use Rattle.std.specs.List.{list_any}
use Rattle.std.proofs.lemmas.Bool.{eq-eqb, or_left, or_right}
use Rattle.sg_target.specs.Runs.{step_of}
use Rattle.sg_target.specs.State.{State}
use Rattle.sg_target.specs.Step.{Step, step}
use Rattle.sg_fencing.specs.Fencing.{is_from}
use Rattle.sg_fencing.specs.Group.{EndAlikeForGroup, EqualGroupViewsEndAlike, EqualGroupViewsRunAlike}
use Rattle.sg_fencing.specs.Group.{group_view}
use Rattle.sg_fencing.proofs.AgreeLemmas.{AreSame, steps-agree, with_attentions}
use Rattle.sg_fencing.proofs.AlikeLemmas.{StepsAgree, with_others}

ends-alike : (first second : State) (done done' : Step)
    → StepsAgree AreSame false first.attentions second.attentions done done'
    → EndAlikeForGroup first second done done'
ends-alike first second done done' h = record {
  answer = h.answer refl;
  group =
      (λ d. group_view (with_others done.state done'.state.attentions (h.reservations d)))
      ∙ ap group_view h.rest;
  identity = ap (λ (x : State). x.identity) h.rest;
  attentions = h.queues;
}

pub group-alike : EqualGroupViewsEndAlike
group-alike first second i cdb data_out identity view own =
    let to : with_attentions first second.attentions ≡ second =
    λ d. record {
      identity = identity d;
      disk = (view d).disk;
      modes = (view d).modes;
      attentions = second.attentions;
      stopped = (view d).stopped;
      reservations =
          record {
            registrations = (view d).registrations;
            reservation = (view d).reservation;
            generation = (view d).generation;
            persists_through_power_loss = (view d).persists;
          };
    } in
    subst
    (λ (x : State). EndAlikeForGroup first second (step first i cdb data_out) (step x i cdb data_out))
    to
    (ends-alike first second (step first i cdb data_out)
    (step (with_attentions first second.attentions) i cdb data_out)
    (steps-agree first second.attentions i own cdb data_out))

pub group-runs-alike : EqualGroupViewsRunAlike
group-runs-alike first second [] identity view own = record { answers = refl; group = view }
group-runs-alike first second (call ∷ calls) identity view own =
    let j = call.initiator in
    let sends = or_left (is_from j call) (list_any (is_from j) calls) (eq-eqb j j refl) in
    let one = group-alike first second j call.cdb.now call.data_out.now identity view (own j sends) in
    let rest = group-runs-alike (step_of first call).state (step_of second call).state calls one.identity
    one.group
    (λ k later. one.attentions k
    (own k (or_right (is_from k call) (list_any (is_from k) calls) later))) in
    record { answers = λ d. one.answer d ∷ rest.answers d; group = rest.group }
