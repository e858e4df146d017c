use Rattle.std.proofs.Common.{rules, refl}
use Rattle.std.proofs.lemmas.List.{take_rest}
use Rattle.sg_wire.proofs.ReservationLemmas.{reserve_out-refused, reserve_out-fits}
use Rattle.sg_wire.proofs.command.reservation.decode_persistent_reserve_out.Goals as goal

pub returns-in_err-check_masks : goal.returns-in_err-check_masks
returns-in_err-check_masks c =
    let fault = c.in_err-check_masks.field-0.0 in
    let e = reserve_out-refused c.args.profile c.args.cdb.now c.in_ok-action.action fault (search rules)
    (search rules) (search rules) in
    rw e (search rules)

pub returns : goal.returns
returns c =
    let cdb = c.args.cdb.now in
    rw (
      reserve_out-fits c.args.profile cdb c.in_ok-action.action (search rules) (search rules) (search rules),
      c.read_u32.ensures,
      take_rest cdb 5,
    ) refl
