use Rattle.std.proofs.Common.{[], ◌∷◌, ℕ, List, sym, subst}
use Rattle.sg_journal.proofs.Openings.{ended_found}
use Rattle.sg_kept.specs.Refused.{IsTrueOf, IsTrueOfFirst}
use Rattle.sg_kept.proofs.RefusedLemmas.{begins, err-and, first-says}
use Rattle.sg_kept.proofs.opening.read_parts.Goals as goal

pub returns-in-Ok-false-clause-says : goal.returns-in-Ok-false-clause-says
returns-in-Ok-false-clause-says g c rest size =
    let reader = c.next.new.self in
    let ended = c.in-Ok-false.ensures.ended c.in-Ok-false.field-0-test [] c.requires.found in
    ended_found reader.ended (g.F.Source.taken reader.source) rest (g.F.Source.left reader.source)
    reader.sector reader.end [] ended.0.valid ended.1 size ended.0.place

pub returns-in_err-parts-clause-says : goal.returns-in_err-parts-clause-says
returns-in_err-parts-clause-says g c =
    let reader = c.next.new.self in
    let taken = g.F.Source.taken reader.source in
    let left = g.F.Source.left reader.source in
    let bytes = c.next.new.batch.records in
    let read = c.in-Ok-true.ensures.more c.in-Ok-true.field-0-test [] c.requires.found in
    let starts = begins reader.ended taken left reader.sector reader.end (bytes ∷ []) read.place in
    err-and c.from_residual.result _ (λ e. IsTrueOf e taken left)
    (λ e is. subst (λ e. IsTrueOf e taken left) (sym is)
    (first-says c.in_err-parts.field-0.0 bytes taken left starts
    (subst (λ (l : List ℕ). IsTrueOfFirst l c.in_err-parts.field-0.0) c.records.ensures.value
    c.in_err-parts.ensures.says)))
    c.from_residual.ensures.1
