use Rattle.std.proofs.Common.{◌≡◌, ap, ◌∙◌}
use Rattle.sg_pages.specs.Identity.{IdentityFields}
use Rattle.sg_target.specs.Config.{ConfigFields}
use Rattle.sg_target.specs.State.{profile_of}
use Rattle.sg_wire.proofs.PrintingLemmas.{Prints-on}
use Rattle.sgrun.specs.ShownDisk.{facts}
use Rattle.sgrun.proofs.show_disk.put_facts.Goals as goal

pub returns : goal.returns
unfolding facts
returns g c =
    let identity : c.identity.result.now ≡ c.args.target.now.state.identity =
    c.identity.ensures ∙ ap (λ (x : ConfigFields). x.identity) c.config.ensures in
    let profile : c.profile.result ≡ profile_of c.args.target.now.state =
    c.profile.ensures ∙ ap (λ (x : IdentityFields). x.profile)
    (c.identity-2.ensures ∙ ap (λ (x : ConfigFields). x.identity) c.config-2.ensures) in
    Prints-on c.put.ensures (Prints-on c.put_number_line.ensures (Prints-on c.put_number_line-2.ensures
    (Prints-on c.put-2.ensures (Prints-on c.put_sizes.ensures
    (Prints-on (rw identity at c.put_identity.ensures)
    (Prints-on c.put-3.ensures
    (Prints-on (rw (profile, c.saved_pages.ensures) at c.put_pages.ensures)
    (Prints-on c.put-4.ensures (rw c.reservations.ensures at c.put_reservations.ensures)))))))))
