-- The parameter lists of PERSISTENT RESERVE OUT (SPC-4, 6.16.3), and of its service action REGISTER AND
-- MOVE (SPC-4, 6.16.4).
use Rattle.std.specs.Prelude.{ℕ, ◌-◌, ◌*◌, ◌==◌, nat_le, Bool, false, ◌&&◌, List, [], drop, length}
use Rattle.std.specs.Prelude.{slice_index, if◌then◌else◌}
use Rattle.byteorder.specs.Endian.{big_number}
use Rattle.sg_wire.specs.Bits.{has_bit}
use Rattle.sg_wire.specs.Initiator.{initiator_count}
use Rattle.sg_wire.specs.TransportId.{named_initiators, transport_id_length}
use Rattle.sg_wire.specs.declared.command.out_action.OutAction.{OutAction}
use Rattle.sg_wire.specs.declared.command.out_action.OutAction.TheVariants.{RegisterAndMove}
use Rattle.sg_wire.specs.declared.out_list.OutList.{OutList}

-- The length of its fields in bytes. With SPEC_I_PT more follows.
abbrev pub list_length : ℕ
list_length = 24

-- The places of its fields: the first bytes of the keys, and the byte of the flags.
abbrev pub service_action_key_at : ℕ
service_action_key_at = 8

abbrev pub flags_at : ℕ
flags_at = 20

-- With SPEC_I_PT the places of TRANSPORTID PARAMETER DATA LENGTH, and of the TransportIDs after it.
abbrev pub transport_ids_length_at : ℕ
transport_ids_length_at = 24

abbrev pub transport_ids_at : ℕ
transport_ids_at = 28

-- SPEC_I_PT: TransportIDs follow the fields.
abbrev pub has_transport_ids : List ℕ → Bool
has_transport_ids bytes = has_bit (slice_index bytes flags_at) 0x08

-- TRANSPORTID PARAMETER DATA LENGTH counts the bytes after it. There are no more TransportIDs than
-- initiators.
-- Choice (SPC-4, 6.16.3): a list may name an initiator more than once.
abbrev pub has_whole_ids : List ℕ → Bool
has_whole_ids bytes =
    nat_le transport_ids_at (length bytes)
    && (big_number 4 (drop transport_ids_length_at bytes) == length bytes - transport_ids_at
    && nat_le (length bytes - transport_ids_at) (transport_id_length * initiator_count))

-- The list that bytes contain.
-- Choice (SPC-4, 3.3, reserved): a reserved bit that is set may be refused.
abbrev pub out_list : List ℕ → OutList
out_list bytes = record {
  reservation_key = big_number 8 bytes;
  service_action_key = big_number 8 (drop service_action_key_at bytes);
  spec_i_pt = has_transport_ids bytes;
  all_tg_pt = has_bit (slice_index bytes flags_at) 0x04;
  aptpl = has_bit (slice_index bytes flags_at) 0x01;
  unreg = false;
  port = 0;
  others =
      if has_transport_ids bytes then named_initiators (drop transport_ids_at bytes) else [];
}

-- ---- REGISTER AND MOVE

-- The keys are at the same places. The places of the other fields: the byte of UNREG and APTPL, and the
-- first bytes of RELATIVE TARGET PORT IDENTIFIER, of TRANSPORTID PARAMETER DATA LENGTH and of the
-- TransportID.
abbrev pub move_flags_at : ℕ
move_flags_at = 17

abbrev pub port_at : ℕ
port_at = 18

abbrev pub moved_to_length_at : ℕ
moved_to_length_at = 20

abbrev pub moved_to_at : ℕ
moved_to_at = 24

-- TRANSPORTID PARAMETER DATA LENGTH counts the bytes after it.
abbrev pub has_whole_move : List ℕ → Bool
has_whole_move bytes =
    nat_le moved_to_at (length bytes)
    && big_number 4 (drop moved_to_length_at bytes) == length bytes - moved_to_at

-- The list that bytes contain.
-- Choice (SPC-4, 3.3, reserved): a reserved bit that is set may be refused.
abbrev pub move_list : List ℕ → OutList
move_list bytes = record {
  reservation_key = big_number 8 bytes;
  service_action_key = big_number 8 (drop service_action_key_at bytes);
  spec_i_pt = false;
  all_tg_pt = false;
  aptpl = has_bit (slice_index bytes move_flags_at) 0x01;
  unreg = has_bit (slice_index bytes move_flags_at) 0x02;
  port = big_number 2 (drop port_at bytes);
  others = named_initiators (drop moved_to_at bytes);
}

-- ---- The list of a service action

abbrev pub list_of : OutAction → List ℕ → OutList
list_of RegisterAndMove bytes = move_list bytes
list_of action bytes = out_list bytes
