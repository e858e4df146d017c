-- A walk over the provisioning statuses of a disk: GET LBA STATUS after GET LBA STATUS, while no
-- other command changes the disk (SBC-3, 5.4).
use Rattle.std.specs.Prelude.{◌≡◌, ℕ, ◌-◌, ◌^◌, ◌<◌, ◌≤◌, nat_lt, Bool, if◌then◌else◌, Option, Some, None}
use Rattle.std.specs.Prelude.{List, [], ◌∷◌, ◌++◌, All, length, map, take, count_by, option_and_then}
use Rattle.std.specs.Prelude.{Ok}
use Rattle.std.specs.List.{flat_map, last_or}
use Rattle.std.specs.Option.{option_map_or}
use Rattle.sg_wire.specs.FirstBytes.{first_bytes}
use Rattle.sg_wire.specs.CdbDecoding.{command_of}
use Rattle.sg_wire.specs.declared.command.Command.TheVariants as command
use Rattle.sg_wire.specs.declared.command.provisioning.GetLbaStatus.{GetLbaStatus}
use Rattle.sg_store.specs.Disk.{Disk, lies_in}
use Rattle.sg_wire.specs.LbaStatus.{code_of, status_data}
use Rattle.sg_store.specs.LbaStatus.{descriptors_from, lba_status, max_descriptors}
use Rattle.sg_wire.specs.declared.lba_status.StatusDescriptor.{StatusDescriptor}
use Rattle.sg_target.specs.State.{State}
use Rattle.sg_target.specs.Step.{Step, step}
use Rattle.sg_target.specs.declared.reply.Status.TheVariants.{Good}
use Rattle.sg_decode.specs.LbaStatus.{Descriptor, next_start, whole_descriptors}

-- ---- All descriptors

-- All descriptors from an address on, in any number of answers. Each covers at least one address,
-- so there are at most as many as addresses are left.
abbrev pub every_descriptor : Disk → (start : ℕ) → List StatusDescriptor
every_descriptor disk start =
    descriptors_from disk.contents disk.capacity start (disk.capacity - start)

-- An answer has the first descriptors.
abbrev pub AnswersHaveTheFirst : Type 0
AnswersHaveTheFirst =
    (disk : Disk) (start : ℕ)
    → lba_status disk start ≡ take max_descriptors (every_descriptor disk start)

-- The fields of a descriptor, as a reader reads them.
abbrev pub fields_of : StatusDescriptor → Descriptor
fields_of d = record { lba = d.lba; count = d.count; status = code_of d.status }

abbrev pub every_read : Disk → (start : ℕ) → List Descriptor
every_read disk start = map fields_of (every_descriptor disk start)

-- ---- Walks

-- The answer from an address on, cut at an allocation length.
abbrev pub status_answer : Disk → (start allocation_length : ℕ) → List ℕ
status_answer disk start n = first_bytes n (status_data (lba_status disk start))

-- The answers of a walk, at most one for each allocation length. The first is the answer from an
-- address on, and each next one begins at the end of the last whole descriptor of the one before.
-- The walk ends at the end of the disk, or after an answer without a whole descriptor.
unfoldable pub walk : Disk → (allocation_lengths : List ℕ) → (start : ℕ) → List (List ℕ)
walk disk [] start = []
walk disk (n ∷ lengths) start =
    if nat_lt start disk.capacity
    then status_answer disk start n
    ∷ option_map_or (walk disk lengths) (next_start (status_answer disk start n)) []
    else []

-- The whole descriptors of the answers, joined.
abbrev pub named_by : List (List ℕ) → List Descriptor
named_by answers = flat_map whole_descriptors answers

-- ---- The laws

-- A walk's answers are the disk's. If GET LBA STATUS ends with GOOD, it returns the answer from its
-- address on, cut at its allocation length. It leaves the disk as it was.
pub record IsAnswerOfAWalk (state : State) (fields : GetLbaStatus) (done : Step) : Type 0 where
  pub data_in : done.answer.data_in
      ≡ status_answer state.disk fields.start fields.allocation_length
  pub disk : done.state.disk ≡ state.disk

abbrev pub AnswersAreOfAWalk : Type 0
AnswersAreOfAWalk =
    (state : State) (initiator : ℕ) (cdb data_out : List ℕ) (fields : GetLbaStatus)
    → command_of cdb ≡ Ok (command.GetLbaStatus fields)
    → (step state initiator cdb data_out).answer.status ≡ Good
    → IsAnswerOfAWalk state fields (step state initiator cdb data_out)

-- Whether a descriptor covers an address.
abbrev pub names : (address : ℕ) → Descriptor → Bool
names address d = lies_in d.lba d.count address

-- The first address that the next answer would have.
abbrev pub end_of : List (List ℕ) → Option ℕ
end_of answers = option_and_then next_start (last_or None answers)

-- A walk that has reached the end of the disk. It has named all descriptors, and so each address
-- from its start on once, and no other. It goes no further.
pub record ReachesTheEnd (disk : Disk) (start : ℕ) (lengths : List ℕ) : Type 0 where
  pub all : named_by (walk disk lengths start) ≡ every_read disk start
  pub once : (address : ℕ) → count_by (names address) (named_by (walk disk lengths start))
      ≡ (if lies_in start (disk.capacity - start) address then 1 else 0)
  pub end : end_of (walk disk lengths start) ≡ Some disk.capacity
  pub no_further : (more : List ℕ) → walk disk (lengths ++ more) start ≡ walk disk lengths start

-- The descriptors of a walk are the first of all: there is no gap, no overlap and no descriptor
-- that is split between them. Each answer adds one or more, so as many answers as there are
-- descriptors reach the end of the disk.
pub record IsInOrder (disk : Disk) (start : ℕ) (lengths : List ℕ) : Type 0 where
  pub first : named_by (walk disk lengths start)
      ≡ take (length (named_by (walk disk lengths start))) (every_read disk start)
  pub each_adds : All (λ answer. 0 < length (whole_descriptors answer)) (walk disk lengths start)
  pub reaches : length (every_descriptor disk start) ≤ length lengths
      → ReachesTheEnd disk start lengths

-- This holds for every disk, from each of its addresses on, if each allocation length has room for
-- one descriptor. An address has 64 bits.
abbrev pub room_for_one : ℕ
room_for_one = 24

abbrev pub WalksInOrder : Type 0
WalksInOrder =
    (disk : Disk) (start : ℕ) (lengths : List ℕ)
    → disk.capacity < 2 ^ 64 → start < disk.capacity → All (λ n. room_for_one ≤ n) lengths
    → IsInOrder disk start lengths
