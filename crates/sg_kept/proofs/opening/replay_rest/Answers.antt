use Rattle.std.proofs.Common.{◌≡◌, [], ◌∷◌, ◌++◌, List, ℕ, Some, Err, length-append, sym, ap, subst}
use Rattle.std.proofs.Common.{◌∙◌, arith}
use Rattle.sg_changes.specs.Replay.{IsDamagedAt, replayed}
use Rattle.sg_kept.proofs.OpenedLemmas.{filed-push}
use Rattle.sg_kept.proofs.RefusedLemmas.{begins, rest-says}
use Rattle.sg_kept.proofs.SteadyLemmas.{steady-replayed}
use Rattle.sg_kept.proofs.opening.replay_rest.Goals as goal

pub loop-error-preserved : goal.loop-error-preserved
loop-error-preserved g c =
    let s = c.loop-error.invariant.read in
    let bytes = c.next.new.batch.records in
    let replays : replayed bytes c.loop-error.parts ≡ Some c.replay.new.self =
    ap (λ (l : List ℕ). replayed l c.loop-error.parts) (sym c.records.ensures.value)
    ∙ c.in_default.ensures.ok in
    let size = length-append s.batches (bytes ∷ []) in
    record {
      read = record {
        batches = s.batches ++ bytes ∷ [];
        found = c.in-Ok-true.ensures.more c.in-Ok-true.field-0-test s.batches s.found;
        number = omega (arith, size, s.number);
        files = filed-push s.batches bytes c.loop-error.parts c.replay.new.self s.files replays;
      };
      room = omega (arith, c.loop-error.invariant.room, c.in-Ok-true.ensures.less c.in-Ok-true.field-0-test);
      known = c.next.ensures.known ∙ c.loop-error.invariant.known;
      later = omega (arith, c.loop-error.invariant.later, c.next.ensures.honest.later);
      steady = steady-replayed c.kept_stays_sound.ensures bytes c.loop-error.parts c.replay.new.self
          c.loop-error.invariant.steady replays;
      sector = c.next.ensures.batch ∙ c.loop-error.invariant.sector ∙ sym c.next.ensures.sector;
    }

pub returns-in-Err-clause-says : goal.returns-in-Err-clause-says
returns-in-Err-clause-says g c =
    let reader = c.next.new.self in
    c.error_of_file.ensures.says (g.F.Source.taken reader.source) (g.F.Source.left reader.source)
    (λ fault is. c.in-Err.ensures.fault fault (ap Err is))

pub returns-in-Err-replay-clause-says : goal.returns-in-Err-replay-clause-says
returns-in-Err-replay-clause-says g c =
    let s = c.loop-error.invariant.read in
    let reader = c.next.new.self in
    let taken = g.F.Source.taken reader.source in
    let left = g.F.Source.left reader.source in
    let bytes = c.next.new.batch.records in
    let read = c.in-Ok-true.ensures.more c.in-Ok-true.field-0-test s.batches s.found in
    rest-says s.batches bytes taken left c.loop-error.number c.in-Err-replay.damaged.record c.loop-error.parts
    (begins reader.ended taken left reader.sector reader.end (s.batches ++ bytes ∷ []) read.place)
    s.number s.files
    (subst (λ (l : List ℕ). IsDamagedAt l c.loop-error.parts c.in-Err-replay.damaged.record)
    c.records.ensures.value c.in-Err-replay.ensures.damaged)
