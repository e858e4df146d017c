-- A number that only proofs read owns nothing, so it may go to another thread.
use denote.Param.Send.{IsSend, owning_send, sendable}
use Rattle.sg_table.specs.contracts.ghost_number.GhostNumber.{the_row, the_type}

pub send : IsSend the_row
send = owning_send the_type (search sendable) (λ d. tt) (λ k x w. tt)
