use Rattle.std.proofs.Common.{◌≡◌, ℕ, ◌+◌, List, [], ◌++◌, length, sym, ◌∙◌, ap, subst, arith}
use Rattle.std.proofs.Common.{length-append}
use Rattle.std.specs.Prelude.{Ok}
use Rattle.sg_journal.specs.Device.{Only}
use Rattle.sg_journal.specs.Journal.{found}
use Rattle.sg_journal.specs.JournalState.{HasTail}
use Rattle.sg_journal.proofs.Openings.{ended_tail, ended_found}
use Rattle.sg_journal.proofs.States.{durable_from}
use Rattle.sg_journal.proofs.reader.Reader.into_journal.Goals as goal

pub returns-in-Ok-clause-batches : goal.returns-in-Ok-clause-batches
returns-in-Ok-clause-batches g c bs h =
    let r = c.args.self in
    let taken = g.F.Source.taken r.source in
    let left = g.F.Source.left r.source in
    let more = c.in-Ok.ensures.taken in
    let size : length more.more ≡ left = more.size ∙ c.left-left.ensures in
    let d = c.into_device.result in
    let file : g.F.Device.Device.seen d ≡ taken ++ more.more = c.into_device.ensures.seen
    ∙ more.is in
    let tail = ended_tail r.ended taken more.more left r.sector r.end bs c.requires.ended size
    h.place in
    let is : found (g.F.Device.Device.seen d) ≡ Ok bs =
    ap found file ∙ ended_found r.ended taken more.more left r.sector r.end bs h.valid
    c.requires.ended size h.place in
    let only : Only (g.F.Device.Device.seen d) (g.F.Device.Device.may_leave d) =
    subst (λ (l : List ℕ). Only l (g.F.Device.Device.may_leave d)) (sym c.into_device.ensures.seen)
    c.into_device.ensures.durable in
    record {
      valid = h.valid;
      crash = λ f now. ap found (only f now) ∙ is;
      found = is;
      tail =
          subst (λ (l : List ℕ). HasTail c.unwrap_or.result r.sector r.end l bs []) (sym file)
          (subst (λ t. HasTail t r.sector r.end (taken ++ more.more) bs [])
          (sym c.unwrap_or.ensures) tail);
      durable =
          durable_from c.unwrap_or.result (r.end + r.sector) (g.F.Device.Device.seen d)
          (g.F.Device.Device.may_leave d) only;
      length =
          omega (arith, ap length file, length-append taken more.more, size, h.total);
    }

pub returns-in-Ok-clause-found : goal.returns-in-Ok-clause-found
returns-in-Ok-clause-found g c bs h =
    let r = c.args.self in
    let taken = g.F.Source.taken r.source in
    let left = g.F.Source.left r.source in
    let more = c.in-Ok.ensures.taken in
    let size : length more.more ≡ left = more.size ∙ c.left-left.ensures in
    ap found (c.into_device.ensures.opening ∙ more.is)
    ∙ ended_found r.ended taken more.more left r.sector r.end bs h.valid c.requires.ended size
    h.place
