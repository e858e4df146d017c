-- The profiles of a disk: which commands a disk has, and its limits that depend on that.
use Rattle.std.specs.Prelude.{ℕ, Bool, true, false}
use Rattle.sg_wire.specs.Initiator.{initiator_count}
use Rattle.sg_wire.specs.declared.profile.Limits.{Limits}
use Rattle.sg_wire.specs.declared.profile.Rules.{Rules}
use Rattle.sg_wire.specs.declared.profile.Profile.{Profile}
use Rattle.sg_wire.specs.declared.profile.Profile.TheVariants.{Base, Extended}

-- A disk of a profile has what belongs to a profile: what belongs to Base, each disk has.
abbrev pub is_in : (belongs profile : Profile) → Bool
is_in Base profile = true
is_in Extended Base = false
is_in Extended Extended = true

-- ---- Limits, in blocks

-- The most that a READ or a WRITE moves, the most that a WRITE SAME writes, the most that a COMPARE AND
-- WRITE compares and the most that a WRITE ATOMIC writes. The last two are 0 on a base disk, which does
-- not have these commands. The page Block Limits reports all four (SBC-3, vital product data
-- parameters). Then the most that can be mapped or anchored at once (SBC-3, 4.7), and the number of the
-- initiators, which is no number of blocks.
abbrev pub base_limits : Limits
base_limits = record {
  transfer_length = 256;
  write_same_length = 65536;
  compare_and_write_length = 0;
  atomic_transfer_length = 0;
  pool = 65536;
  initiators = 8;
}

-- A disk of the extended profile moves more at once, and can have a larger pool. Its WRITE SAME writes
-- no more than WRITE SAME(10) can name, and its COMPARE AND WRITE compares what its CDB can name. Each
-- WRITE is atomic, so its WRITE ATOMIC writes as many blocks as a WRITE.
abbrev pub extended_limits : Limits
extended_limits = record {
  transfer_length = 2048;
  write_same_length = 65535;
  compare_and_write_length = 255;
  atomic_transfer_length = 2048;
  pool = 4294967295;
  initiators = initiator_count;
}

abbrev pub limits_of : Profile → Limits
limits_of Base = base_limits
limits_of Extended = extended_limits

-- The most that a READ or a WRITE moves on a disk of any profile.
abbrev pub maximum_transfer_length : ℕ
maximum_transfer_length = extended_limits.transfer_length

-- ---- Rules

-- What a disk does otherwise in one profile than in another. The extended profile follows the
-- standards.
-- Departure (SBC-3, 5.26): a count of 0 in SYNCHRONIZE CACHE(10) names no block on a base disk.
-- Departure (SBC-3, 5.28.2): on a base disk, an UNMAP descriptor of no block may be out of range.
-- Departure (SBC-3, 6.4.2): on a base disk, MODE SELECT may not send another number of blocks.
-- Departure (SPC-4, 6.11): on a base disk, MODE SELECT of no list needs PF 1.
-- Departure (SPC-4, sense keys): on a base disk, data-out that is too short is a DATA PHASE ERROR.
-- Departure (SBC-3, 4.12): SWP of a base disk refuses what names no block, too, and is 27h/02h.
-- Departure (SAM-5, 5.3.3): on a base disk, each unit attention comes before a conflict.
-- Departure (SPC-4, 5.13.11.4): on a base disk, PREEMPT of key 0 may be a conflict.
-- Departure (SPC-4, 5.13.11.2): on a base disk, RELEASE of nothing may be refused for its TYPE.
-- Departure (SPC-4, 4.5.2.4.2): on a base disk, MODE SELECT points into a field of several bytes.
-- Choice (SPC-4, 6.15.4): a base disk does not say which commands a reservation allows.
-- Choice (SPC-4, 6.15.4): a base disk supports neither SPEC_I_PT nor ALL_TG_PT.
-- Choice (SPC-4, 5.13, registering): a base disk has room for six registrations only.
abbrev pub rules_of : Profile → Rules
rules_of Base = record {
  zero_reaches_last = false;
  unmap_ignores_empty_extents = false;
  ignores_number_of_blocks = false;
  select_of_nothing_ignores_page_format = false;
  short_data_out_is_illegal = false;
  write_same_takes_exact_length = false;
  protects_only_writes = false;
  only_resets_outrank_conflicts = false;
  preempt_needs_a_key = false;
  release_of_nothing_ignores_type = false;
  points_at_fields = false;
  specifies_ports = false;
  allow_commands = 0;
  has_room_for_all_registrations = false;
}
rules_of Extended = record {
  zero_reaches_last = true;
  unmap_ignores_empty_extents = true;
  ignores_number_of_blocks = true;
  select_of_nothing_ignores_page_format = true;
  short_data_out_is_illegal = true;
  write_same_takes_exact_length = true;
  protects_only_writes = true;
  only_resets_outrank_conflicts = true;
  preempt_needs_a_key = true;
  release_of_nothing_ignores_type = true;
  points_at_fields = true;
  specifies_ports = true;
  allow_commands = 3;
  has_room_for_all_registrations = true;
}
