-- The replies that a target makes. How much data-out the CDB asks for is put into a reply as its
-- command ends.
use Rattle.std.specs.Prelude.{◌≡◌, ℕ, min, List, [], length, Option, Some, None}
use Rattle.sg_wire.specs.FirstBytes.{overwritten}
use Rattle.sg_wire.specs.SenseData.{sense_data}
use Rattle.sg_wire.specs.declared.sense.Format.{Format}
use Rattle.sg_faults.specs.declared.outcome.Afterwards.{Afterwards}
use Rattle.sg_faults.specs.declared.outcome.Afterwards.TheVariants as after
use Rattle.sg_faults.specs.declared.outcome.Struck.{Struck}
use Rattle.sg_store.specs.Meter.{no_counts}
use Rattle.sg_store.specs.declared.store.Counts.{Counts}
use Rattle.sg_target.specs.Refusal.{fault_sense}
use Rattle.sg_target.specs.Step.{refusal_answer}
use Rattle.sg_target.specs.declared.refusal.Refusal.{Refusal}
use Rattle.sg_target.specs.declared.reply.Reply.{Reply}
use Rattle.sg_target.specs.declared.reply.Status.{Status}
use Rattle.sg_target.specs.declared.reply.Status.TheVariants.{Good, CheckCondition, NoReply}

-- The reply to a command that was executed.
abbrev pub executed_reply : (data_in : ℕ) → Counts → Reply
executed_reply data_in counts =
    record { status = Good; sense = []; data_in = data_in; data_out = 0; counts = counts }

-- A reply with only a status.
abbrev pub status_reply : Status → Counts → Reply
status_reply status counts =
    record { status = status; sense = []; data_in = 0; data_out = 0; counts = counts }

-- The reply to a command that was refused.
abbrev pub refused_reply : Format → Refusal → Counts → Reply
refused_reply format refusal counts =
    let answer = refusal_answer format refusal in
    record (status_reply answer.status counts) { sense = answer.sense }

-- The reply to a command that has ended with GOOD, after a fault afterwards.
abbrev pub reply_afterwards : Format → Reply → Afterwards → Reply
reply_afterwards format reply after.NoReply = record reply { status = NoReply }
reply_afterwards format reply (after.CheckCondition code) =
    record reply { status = CheckCondition; sense = sense_data format (fault_sense code) }
reply_afterwards format reply (after.ShortDataIn bytes) =
    record reply { data_in = min bytes reply.data_in }

abbrev pub finished_reply : Format → Reply → Option (Struck Afterwards) → Reply
finished_reply format reply None = reply
finished_reply format reply (Some struck) = reply_afterwards format reply struck.outcome

-- A reply returns bytes as its data-in, and the store did nothing for it.
pub record ReturnsData (data_in : List ℕ) (reply : Reply) (before after : List ℕ) : Type 0 where
  pub reply_is : reply ≡ executed_reply (length data_in) no_counts
  pub data_in_is : after ≡ overwritten data_in before
