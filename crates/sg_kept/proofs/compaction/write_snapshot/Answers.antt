use Rattle.std.proofs.Common.{inl, inr, ⊎_elim, Some, refl, sym, ap, subst, ◌∙◌}
use Rattle.std.proofs.Common.{arith}
use Rattle.sg_changes.specs.Laws.{IsSoundDisk}
use Rattle.sg_target.specs.Armed.{Armed}
use Rattle.sg_target.specs.State.{State}
use Rattle.sg_target.specs.Target.{disk_of}
use Rattle.sg_kept.specs.Compaction.{GoesOn, IsAfresh, IsDraftOf, IsNextPart}
use Rattle.sg_kept.specs.Kept.{kept, restored}
use Rattle.sg_kept.specs.Opened.{IsBeforeOr}
use Rattle.sg_kept.proofs.CompactionLemmas.{draft-begun, found-or, kept-afresh, same-disk, stands-opened}
use Rattle.sg_kept.proofs.CompactionLemmas.{steady-kept, then-leaves}
use Rattle.sg_kept.proofs.MomentsLemmas.{weaker}
use Rattle.sg_kept.proofs.OpenedLemmas.{opened-same}
use Rattle.sg_kept.proofs.compaction.write_snapshot.Goals as goal

pub begin_snapshot-requires-clause-new : goal.begin_snapshot-requires-clause-new
begin_snapshot-requires-clause-new g c =
    (steady-kept g.D.Device.seen g.D.Device.may_leave c.kept_stays_sound.ensures c.args.journal.now
    c.args.batch.now (disk_of c.args.target.now) c.requires.kept).new

pub begin_snapshot-requires-clause-sound : goal.begin_snapshot-requires-clause-sound
begin_snapshot-requires-clause-sound g c =
    (steady-kept g.D.Device.seen g.D.Device.may_leave c.kept_stays_sound.ensures c.args.journal.now
    c.args.batch.now (disk_of c.args.target.now) c.requires.kept).sound.disk

pub returns-in_err-begin_snapshot-clause-any_moment : goal.returns-in_err-begin_snapshot-clause-any_moment
returns-in_err-begin_snapshot-clause-any_moment g c =
    let old = c.args.journal.now.device in
    weaker g.D.Device.moment g.D.Device.left_since old c.begin_snapshot.new.journal.device _
    (IsBeforeOr (g.D.Device.seen old) (disk_of c.args.target.now)) c.begin_snapshot.ensures.any_moment
    (λ file was. inl (opened-same file (g.D.Device.seen old) was))

pub loop-next-init : goal.loop-next-init
loop-next-init g c =
    let begun = c.in_ok-begin_snapshot.ensures in
    record {
      drafts = draft-begun g.D.Device.seen g.D.Device.may_leave g.D.Device.draft
          c.begin_snapshot.new.journal c.begin_snapshot.new.head (disk_of c.args.target.now) begun.drafted
          begun.at_most;
      same = begun.same;
      moments = weaker g.D.Device.moment g.D.Device.left_since c.args.journal.now.device
          c.begin_snapshot.new.journal.device _
          (IsBeforeOr (g.D.Device.seen c.args.journal.now.device) (disk_of c.args.target.now))
          c.begin_snapshot.ensures.any_moment
          (λ file was. inl (opened-same file (g.D.Device.seen c.args.journal.now.device) was));
      failures = c.begin_snapshot.ensures.cause.later;
      state = refl;
      faults = refl;
      scratch = refl;
    }

pub write_part-requires-clause-draft : goal.write_part-requires-clause-draft
write_part-requires-clause-draft g c =
    let i = c.loop-next.invariant in
    subst (λ (d : Armed). IsDraftOf g.D.Device.seen g.D.Device.may_leave g.D.Device.draft
    c.loop-next.journal c.loop-next.batch d c.loop-next.from)
    (sym (same-disk c.loop-next.target c.args.target.now i.state i.faults)) i.drafts

pub write_part-requires-clause-sound : goal.write_part-requires-clause-sound
write_part-requires-clause-sound g c =
    subst (λ (s : State). IsSoundDisk s.disk) (sym c.loop-next.invariant.state)
    (steady-kept g.D.Device.seen g.D.Device.may_leave c.kept_stays_sound.ensures c.args.journal.now
    c.args.batch.now (disk_of c.args.target.now) c.requires.kept).sound.disk

pub returns-in_err-next-clause-any_moment : goal.returns-in_err-next-clause-any_moment
returns-in_err-next-clause-any_moment g c =
    let i = c.loop-next.invariant in
    let old = c.args.journal.now.device in
    let before = g.D.Device.seen old in
    let disk = disk_of c.args.target.now in
    let law = c.power_cycles_leave_what_is_kept.ensures.restored disk in
    let is = same-disk c.loop-next.target c.args.target.now i.state i.faults in
    then-leaves g.D.Device.moment g.D.Device.left_since old c.loop-next.journal.device
    c.write_part.new.journal.device (IsBeforeOr before disk) _ (IsBeforeOr before disk) i.moments
    c.write_part.ensures.any_moment (λ file here. here)
    (λ file here. found-or before disk law file (⊎_elim (λ was. inl (was ∙ i.same))
    (λ now. inr (now ∙ ap (λ (d : Armed). Some (restored (kept d))) is)) here))

pub returns-in_err-next-clause-cause : goal.returns-in_err-next-clause-cause
returns-in_err-next-clause-cause g c =
    let cause = c.write_part.ensures.cause in
    let failed = c.in_err-next.ensures.cause.failed in
    record {
      later = omega (arith, c.loop-next.invariant.failures, cause.later);
      failed = λ _. omega (arith, c.loop-next.invariant.failures, failed refl);
    }

pub returns-in_err-next-clause-state : goal.returns-in_err-next-clause-state
returns-in_err-next-clause-state g c = c.write_part.ensures.state ∙ c.loop-next.invariant.state

pub returns-in_err-next-clause-faults : goal.returns-in_err-next-clause-faults
returns-in_err-next-clause-faults g c = c.write_part.ensures.faults ∙ c.loop-next.invariant.faults

pub loop-next-smaller : goal.loop-next-smaller
loop-next-smaller g c =
    let i = c.loop-next.invariant in
    let part : GoesOn g.D.Device.seen g.D.Device.may_leave g.D.Device.draft c.loop-next.journal
    c.write_part.new.journal c.write_part.new.batch (disk_of c.loop-next.target) c.loop-next.from
    c.in-Some.next =
    subst (IsNextPart g.D.Device.seen g.D.Device.may_leave g.D.Device.draft c.loop-next.journal
    c.write_part.new.journal c.write_part.new.batch (disk_of c.loop-next.target) c.loop-next.from)
    c.in-Some.is c.in_ok-next.ensures.part in
    let same = ap (λ (s : State). s.disk.capacity) i.state in
    omega (arith, part.further, part.drafts.within, same)

pub loop-next-preserved : goal.loop-next-preserved
loop-next-preserved g c =
    let i = c.loop-next.invariant in
    let old = c.args.journal.now.device in
    let before = g.D.Device.seen old in
    let disk = disk_of c.args.target.now in
    let law = c.power_cycles_leave_what_is_kept.ensures.restored disk in
    let is = same-disk c.loop-next.target c.args.target.now i.state i.faults in
    let part : GoesOn g.D.Device.seen g.D.Device.may_leave g.D.Device.draft c.loop-next.journal
    c.write_part.new.journal c.write_part.new.batch (disk_of c.loop-next.target) c.loop-next.from
    c.in-Some.next =
    subst (IsNextPart g.D.Device.seen g.D.Device.may_leave g.D.Device.draft c.loop-next.journal
    c.write_part.new.journal c.write_part.new.batch (disk_of c.loop-next.target) c.loop-next.from)
    c.in-Some.is c.in_ok-next.ensures.part in
    record {
      drafts = subst (λ (d : Armed). IsDraftOf g.D.Device.seen g.D.Device.may_leave g.D.Device.draft
          c.write_part.new.journal c.write_part.new.batch d c.in-Some.next) is part.drafts;
      same = part.same ∙ i.same;
      moments = then-leaves g.D.Device.moment g.D.Device.left_since old c.loop-next.journal.device
          c.write_part.new.journal.device (IsBeforeOr before disk) _ (IsBeforeOr before disk) i.moments
          c.write_part.ensures.any_moment (λ file here. here)
          (λ file here. found-or before disk law file (⊎_elim (λ was. inl (was ∙ i.same))
          (λ now. inr (now ∙ ap (λ (d : Armed). Some (restored (kept d))) is)) here));
      failures = omega (arith, i.failures, c.write_part.ensures.cause.later);
      state = c.write_part.ensures.state ∙ i.state;
      faults = c.write_part.ensures.faults ∙ i.faults;
      scratch = c.write_part.ensures.scratch ∙ i.scratch;
    }

pub returns-clause-kept : goal.returns-clause-kept
returns-clause-kept g c =
    let i = c.loop-next.invariant in
    let is = same-disk c.loop-next.target c.args.target.now i.state i.faults in
    let part : IsAfresh g.D.Device.seen g.D.Device.may_leave c.write_part.new.journal
    c.write_part.new.batch (disk_of c.args.target.now) =
    subst (IsAfresh g.D.Device.seen g.D.Device.may_leave c.write_part.new.journal c.write_part.new.batch) is
    (subst (IsNextPart g.D.Device.seen g.D.Device.may_leave g.D.Device.draft c.loop-next.journal
    c.write_part.new.journal c.write_part.new.batch (disk_of c.loop-next.target) c.loop-next.from)
    c.in_default.is c.in_ok-next.ensures.part) in
    kept-afresh g.D.Device.seen g.D.Device.may_leave c.write_part.new.journal c.write_part.new.batch
    (disk_of c.args.target.now) part.stands part.empty part.sector c.requires.kept.limits

pub returns-clause-compacted : goal.returns-clause-compacted
returns-clause-compacted g c =
    let i = c.loop-next.invariant in
    let is = same-disk c.loop-next.target c.args.target.now i.state i.faults in
    let part : IsAfresh g.D.Device.seen g.D.Device.may_leave c.write_part.new.journal
    c.write_part.new.batch (disk_of c.args.target.now) =
    subst (IsAfresh g.D.Device.seen g.D.Device.may_leave c.write_part.new.journal c.write_part.new.batch) is
    (subst (IsNextPart g.D.Device.seen g.D.Device.may_leave g.D.Device.draft c.loop-next.journal
    c.write_part.new.journal c.write_part.new.batch (disk_of c.loop-next.target) c.loop-next.from)
    c.in_default.is c.in_ok-next.ensures.part) in
    stands-opened g.D.Device.seen g.D.Device.may_leave c.write_part.new.journal
    (kept (disk_of c.args.target.now)) part.stands
    ∙ ap Some (c.power_cycles_leave_what_is_kept.ensures.restored (disk_of c.args.target.now))

pub returns-clause-empty : goal.returns-clause-empty
returns-clause-empty g c =
    let i = c.loop-next.invariant in
    let is = same-disk c.loop-next.target c.args.target.now i.state i.faults in
    let part : IsAfresh g.D.Device.seen g.D.Device.may_leave c.write_part.new.journal
    c.write_part.new.batch (disk_of c.args.target.now) =
    subst (IsAfresh g.D.Device.seen g.D.Device.may_leave c.write_part.new.journal c.write_part.new.batch) is
    (subst (IsNextPart g.D.Device.seen g.D.Device.may_leave g.D.Device.draft c.loop-next.journal
    c.write_part.new.journal c.write_part.new.batch (disk_of c.loop-next.target) c.loop-next.from)
    c.in_default.is c.in_ok-next.ensures.part) in
    part.empty

pub returns-clause-short : goal.returns-clause-short
returns-clause-short g c =
    let i = c.loop-next.invariant in
    let is = same-disk c.loop-next.target c.args.target.now i.state i.faults in
    let part : IsAfresh g.D.Device.seen g.D.Device.may_leave c.write_part.new.journal
    c.write_part.new.batch (disk_of c.args.target.now) =
    subst (IsAfresh g.D.Device.seen g.D.Device.may_leave c.write_part.new.journal c.write_part.new.batch) is
    (subst (IsNextPart g.D.Device.seen g.D.Device.may_leave g.D.Device.draft c.loop-next.journal
    c.write_part.new.journal c.write_part.new.batch (disk_of c.loop-next.target) c.loop-next.from)
    c.in_default.is c.in_ok-next.ensures.part) in
    part.short

pub returns-clause-length : goal.returns-clause-length
returns-clause-length g c =
    let i = c.loop-next.invariant in
    let is = same-disk c.loop-next.target c.args.target.now i.state i.faults in
    let part : IsAfresh g.D.Device.seen g.D.Device.may_leave c.write_part.new.journal
    c.write_part.new.batch (disk_of c.args.target.now) =
    subst (IsAfresh g.D.Device.seen g.D.Device.may_leave c.write_part.new.journal c.write_part.new.batch) is
    (subst (IsNextPart g.D.Device.seen g.D.Device.may_leave g.D.Device.draft c.loop-next.journal
    c.write_part.new.journal c.write_part.new.batch (disk_of c.loop-next.target) c.loop-next.from)
    c.in_default.is c.in_ok-next.ensures.part) in
    part.length

pub returns-clause-any_moment : goal.returns-clause-any_moment
returns-clause-any_moment g c =
    let i = c.loop-next.invariant in
    let old = c.args.journal.now.device in
    let before = g.D.Device.seen old in
    let disk = disk_of c.args.target.now in
    let law = c.power_cycles_leave_what_is_kept.ensures.restored disk in
    let is = same-disk c.loop-next.target c.args.target.now i.state i.faults in
    then-leaves g.D.Device.moment g.D.Device.left_since old c.loop-next.journal.device
    c.write_part.new.journal.device (IsBeforeOr before disk) _ (IsBeforeOr before disk) i.moments
    c.write_part.ensures.any_moment (λ file here. here)
    (λ file here. found-or before disk law file (⊎_elim (λ was. inl (was ∙ i.same))
    (λ now. inr (now ∙ ap (λ (d : Armed). Some (restored (kept d))) is)) here))

pub returns-clause-cause : goal.returns-clause-cause
returns-clause-cause g c = record {
  later = omega (arith, c.loop-next.invariant.failures, c.write_part.ensures.cause.later);
  failed = λ failed. absurd cc;
}

pub returns-clause-state : goal.returns-clause-state
returns-clause-state g c = c.write_part.ensures.state ∙ c.loop-next.invariant.state

pub returns-clause-faults : goal.returns-clause-faults
returns-clause-faults g c = c.write_part.ensures.faults ∙ c.loop-next.invariant.faults
