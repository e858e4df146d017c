-- The bytes of the parameter list of PERSISTENT RESERVE OUT, as they are written (SPC-4, 6.16.3). The list
-- of REGISTER AND MOVE has another format, and is not written.
use Rattle.std.specs.Prelude.{ℕ, ◌+◌, List, ◌∷◌, ◌++◌, replicate, if◌then◌else◌}
use Rattle.byteorder.specs.Endian.{big_bytes}
use Rattle.sg_wire.specs.declared.out_list.OutList.{OutList}

-- SPEC_I_PT, ALL_TG_PT and APTPL in one byte.
abbrev pub flag_byte : OutList → ℕ
flag_byte list =
    (if list.spec_i_pt then 0x08 else 0) + (if list.all_tg_pt then 0x04 else 0)
    + (if list.aptpl then 0x01 else 0)

-- The keys, four bytes of zero, the flags, and three bytes of zero.
abbrev pub list_bytes : (key action_key flags : ℕ) → List ℕ
list_bytes key action_key flags =
    big_bytes 8 key ++ big_bytes 8 action_key ++ replicate 4 0 ++ flags ∷ replicate 3 0

-- The bytes of a list's fields.
abbrev pub out_list_bytes : OutList → List ℕ
out_list_bytes list =
    list_bytes list.reservation_key list.service_action_key (flag_byte list)
