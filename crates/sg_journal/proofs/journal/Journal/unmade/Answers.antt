use Rattle.std.proofs.Common.{◌≡◌, List, [], ℕ, length, refl, sym, ◌∙◌, ap, subst}
use Rattle.sg_journal.specs.Device.{Only}
use Rattle.sg_journal.specs.Journal.{found}
use Rattle.sg_journal.proofs.Heads.{found_nothing, new_sector}
use Rattle.sg_journal.proofs.journal.Journal.unmade.Goals as goal

pub returns-clause-batches : goal.returns-clause-batches
returns-clause-batches g c =
    let d = c.into_device.result in
    let seen = c.into_device.ensures.seen in
    let file : g.D.Device.seen d ≡ [] = seen ∙ c.requires.fresh in
    record {
      valid = new_sector;
      crash = λ f left. ap found (c.into_device.ensures.durable f left ∙ c.requires.fresh)
          ∙ found_nothing;
      found = ap found file ∙ found_nothing;
      tail = (record { is = file; nothing = refl; place = refl }, refl);
      durable = subst (λ (l : List ℕ). Only l (g.D.Device.may_leave d)) (sym seen)
          c.into_device.ensures.durable;
      length = sym (ap length file);
    }
