-- Status codes (SAM-5, 5.3.1). An armed fault can leave a command without a reply: FFh is no status
-- there.
use Rattle.std.specs.Prelude.{ℕ}
use Rattle.sg_target.specs.declared.reply.Status.{Status}
use Rattle.sg_target.specs.declared.reply.Status.TheVariants.{Good, CheckCondition, ReservationConflict}
use Rattle.sg_target.specs.declared.reply.Status.TheVariants.{Busy, TaskSetFull, NoReply}

abbrev pub status_code : Status → ℕ
status_code Good = 0x00
status_code CheckCondition = 0x02
status_code ReservationConflict = 0x18
status_code Busy = 0x08
status_code TaskSetFull = 0x28
status_code NoReply = 0xFF
