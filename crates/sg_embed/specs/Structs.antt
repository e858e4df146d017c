-- The structs of embed/mehdalung.h: the fields in the header's order, each with its width in bytes.
-- A field begins where the fields and the padding before it end.
use Rattle.std.specs.Prelude.{List, ◌++◌}
use mir.Mem.{Cell}
use Rattle.sg_embed.specs.InMemory.{number, bytes, flag, padding}
use Rattle.sg_embed.specs.declared.command.CommandRecord.{CommandRecord}
use Rattle.sg_embed.specs.declared.fault.FaultRecord.{FaultRecord}
use Rattle.sg_embed.specs.declared.file_record.DamageRecord.{DamageRecord}
use Rattle.sg_embed.specs.declared.file_record.FileCallRecord.{FileCallRecord}
use Rattle.sg_embed.specs.declared.file_record.WantedRecord.{WantedRecord}
use Rattle.sg_embed.specs.declared.happening.HappeningRecord.{HappeningRecord}
use Rattle.sg_embed.specs.declared.record.IdentityRecord.{IdentityRecord}
use Rattle.sg_embed.specs.declared.record.ReplyRecord.{ReplyRecord}
use Rattle.sg_embed.specs.declared.record.SenseRecord.{SenseRecord}

abbrev pub mdl_identity : IdentityRecord → List Cell
mdl_identity identity =
    bytes 8 identity.vendor
    ++ bytes 16 identity.product
    ++ bytes 4 identity.revision
    ++ bytes 8 identity.serial
    ++ padding 4
    ++ number 8 identity.local

abbrev pub mdl_reply : ReplyRecord → List Cell
mdl_reply reply =
    number 1 reply.status
    ++ number 1 reply.sense_length
    ++ bytes 20 reply.sense
    ++ padding 2
    ++ number 8 reply.data_in_length
    ++ number 8 reply.data_out_length
    ++ number 8 reply.visits
    ++ number 8 reply.probes
    ++ number 8 reply.links

abbrev pub mdl_sense : SenseRecord → List Cell
mdl_sense sense =
    number 1 sense.key
    ++ number 1 sense.asc
    ++ number 1 sense.ascq
    ++ flag sense.has_information
    ++ flag sense.has_pointer
    ++ flag sense.in_command
    ++ number 2 sense.byte
    ++ number 8 sense.information

abbrev pub mdl_command : CommandRecord → List Cell
mdl_command command =
    bytes 16 command.cdb
    ++ number 1 command.cdb_length
    ++ padding 3
    ++ number 4 command.kind
    ++ number 8 command.data_out_length

abbrev pub mdl_fault : FaultRecord → List Cell
mdl_fault fault =
    number 8 fault.initiators
    ++ number 8 fault.lba
    ++ number 4 fault.count
    ++ number 4 fault.outcome
    ++ number 4 fault.blocks
    ++ number 2 fault.skip
    ++ number 2 fault.times
    ++ number 1 fault.has_code
    ++ number 1 fault.code
    ++ number 1 fault.healed_by_writes
    ++ number 1 fault.key
    ++ number 1 fault.asc
    ++ number 1 fault.ascq
    ++ padding 2

abbrev pub mdl_happening : HappeningRecord → List Cell
mdl_happening happening =
    number 4 happening.kind
    ++ number 4 happening.initiator
    ++ number 8 happening.initiators
    ++ number 8 happening.blocks
    ++ number 1 happening.asc
    ++ number 1 happening.ascq
    ++ number 1 happening.number
    ++ padding 5
    ++ mdl_fault happening.fault

abbrev pub mdl_damage : DamageRecord → List Cell
mdl_damage damage = number 8 damage.batch ++ number 8 damage.offset

-- ---- The structs of embed/mehdalung.c, for disks in files

abbrev pub mdl_wanted : WantedRecord → List Cell
mdl_wanted wanted =
    number 8 wanted.blocks
    ++ number 8 wanted.device
    ++ number 4 wanted.pool
    ++ number 4 wanted.profile
    ++ number 4 wanted.has_identity
    ++ padding 4
    ++ mdl_identity wanted.identity

abbrev pub mdl_call : FileCallRecord → List Cell
mdl_call call =
    number 4 call.kind
    ++ padding 4
    ++ number 8 call.place
    ++ number 8 call.length
    ++ number 8 call.device
