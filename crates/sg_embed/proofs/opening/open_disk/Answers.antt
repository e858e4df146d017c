use Rattle.std.proofs.Common.{◌≡◌, ◌≢◌, ℕ, List, [], rules, refl, sym, subst, ◌∙◌}
use Rattle.sg_target.specs.Target.{disk_of}
use Rattle.sg_embed.specs.FileDisk.{FileDiskFields}
use Rattle.sg_embed.specs.Opening.{IsFound, IsOpened}
use Rattle.sg_embed.proofs.OpeningLemmas.{by-steps, is-empty, of-found, of-made, started-by-steps}
use Rattle.sg_embed.proofs.opening.open_disk.Goals as goal

pub returns-then-is_empty-clause-opened : goal.returns-then-is_empty-clause-opened
returns-then-is_empty-clause-opened c =
    let wanted = c.args.wanted.now in
    let file = c.args.file.now in
    let disk = c.in_ok-disk.disk in
    let said = c.in_ok-disk.ensures in
    let empty : file ≡ [] = is-empty file (sym c.is_empty.ensures ∙ c.if-is_empty.true) in
    let opened : IsOpened wanted file (by-steps disk wanted.device) = record {
      started = started-by-steps disk said.started;
      is = of-made wanted file (disk_of disk.target) empty said.made;
      device = refl;
      by_steps = refl;
      idle = refl;
    } in
    subst (λ (d : FileDiskFields). IsOpened wanted file d) (sym c.new-then-is_empty.ensures) opened

pub returns-clause-opened : goal.returns-clause-opened
returns-clause-opened c =
    let wanted = c.args.wanted.now in
    let file = c.args.file.now in
    let disk = c.in_ok-disk-2.disk in
    let said = c.in_ok-disk-2.ensures in
    let full : file ≢ [] = search rules in
    let found : IsFound wanted file (disk_of disk.target) =
    subst (λ (l : List ℕ). IsFound wanted l (disk_of disk.target)) c.in_ok-source.ensures.bytes said.found in
    let opened : IsOpened wanted file (by-steps disk wanted.device) = record {
      started = started-by-steps disk said.started;
      is = of-found wanted file (disk_of disk.target) full found;
      device = refl;
      by_steps = refl;
      idle = refl;
    } in
    subst (λ (d : FileDiskFields). IsOpened wanted file d) (sym c.new-2.ensures) opened
