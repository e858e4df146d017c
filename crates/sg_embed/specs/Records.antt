-- The contents of the header's records.
use Rattle.std.specs.Prelude.{◌≡◌, ℕ, Bool, true, false, Option, Some, None, Result, length, replicate}
use Rattle.sg_pages.specs.Identity.{IdentityFields}
use Rattle.sg_pages.specs.NewIdentity.{checked_identity, identity_fields}
use Rattle.sg_pages.specs.declared.identity.IdentityFault.{IdentityFault}
use Rattle.sg_wire.specs.FirstBytes.{overwritten}
use Rattle.sg_wire.specs.SenseData.{SenseFields}
use Rattle.sg_wire.specs.declared.sense.Pointer.{Pointer}
use Rattle.sg_target.specs.Status.{status_code}
use Rattle.sg_target.specs.declared.reply.Reply.{Reply}
use Rattle.sg_embed.specs.declared.record.IdentityRecord.{IdentityRecord}
use Rattle.sg_embed.specs.declared.record.ReplyRecord.{ReplyRecord}
use Rattle.sg_embed.specs.declared.record.SenseRecord.{SenseRecord}

-- The room for sense data in a record, in bytes.
abbrev pub sense_room : ℕ
sense_room = 20

-- A record shows a reply.
pub record Shows (shown : ReplyRecord) (reply : Reply) : Type 0 where
  pub status : shown.status ≡ status_code reply.status
  pub sense_length : shown.sense_length ≡ length reply.sense
  pub sense : shown.sense ≡ overwritten reply.sense (replicate sense_room 0)
  pub data_in : shown.data_in_length ≡ reply.data_in
  pub data_out : shown.data_out_length ≡ reply.data_out
  pub visits : shown.visits ≡ reply.counts.visits
  pub probes : shown.probes ≡ reply.counts.probes
  pub links : shown.links ≡ reply.counts.links

-- The identity that a record describes, or its first fault.
abbrev pub asked_identity : IdentityRecord → Result IdentityFields IdentityFault
asked_identity i = checked_identity (identity_fields i.vendor i.product i.revision i.serial i.local)

-- The record of the names of an identity. It has no place for the profile.
abbrev pub identity_record : IdentityFields → IdentityRecord
identity_record i = record {
  vendor = i.vendor;
  product = i.product;
  revision = i.revision;
  serial = i.serial;
  local = i.local;
}

abbrev is_present : {T : Type 0} → Option T → Bool
is_present (Some value) = true
is_present None = false

abbrev number_or_zero : Option ℕ → ℕ
number_or_zero (Some number) = number
number_or_zero None = 0

abbrev points_into_command : Option Pointer → Bool
points_into_command (Some pointer) = pointer.in_command
points_into_command None = false

abbrev pointed_byte : Option Pointer → ℕ
pointed_byte (Some pointer) = pointer.byte
pointed_byte None = 0

-- The record of the fields of sense data. An absent field is zero.
abbrev pub sense_record : SenseFields → SenseRecord
sense_record fields = record {
  key = fields.key;
  asc = fields.asc;
  ascq = fields.ascq;
  has_information = is_present fields.information;
  has_pointer = is_present fields.pointer;
  in_command = points_into_command fields.pointer;
  byte = pointed_byte fields.pointer;
  information = number_or_zero fields.information;
}
