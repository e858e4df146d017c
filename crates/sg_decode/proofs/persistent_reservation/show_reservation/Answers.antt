use Rattle.std.proofs.Common.{◌≡◌, Some, true, codes, arith}
use Rattle.std.proofs.lemmas.Bool.Decides.{nat_tests}
use Rattle.sg_decode.specs.Items.{item, is_shown}
use Rattle.sg_decode.proofs.ItemLemmas.{sure_shown}
use Rattle.sg_decode.proofs.persistent_reservation.show_reservation.Goals as goal

pub returns-then-size-eq0 : goal.returns-then-size-eq0
returns-then-size-eq0 g c =
    let there = c.requires.header in
    let showing : is_shown (Some 8) c.args.bytes.now 8 ≡ true = grind (arith, nat_tests) in
    rw c.if-size-eq0.true (sure_shown (Some 8) c.args.bytes.now
    (item 8 8 (λ own. codes "  no reservation\n")) _ _ showing c.put.ensures)
