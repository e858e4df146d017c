-- The whole descriptors of an answer to GET LBA STATUS that is cut.
use Rattle.std.proofs.Common.{◌≡◌, ℕ, ◌+◌, ◌-◌, ◌*◌, ◌/◌, ◌^◌, ◌<◌, ◌≤◌, zero, suc, min, List, []}
use Rattle.std.proofs.Common.{◌∷◌, ◌++◌, length, take, drop, map, get_or, arith, refl, sym, ap, ◌∙◌}
use Rattle.std.proofs.Common.{length-take, get_or-take}
use Rattle.std.specs.Prelude.{All}
use Rattle.std.specs.List.{flat_map}
use Rattle.std.proofs.lemmas.List.{drop_more, drop-drop, drop-take, get_or-map, length-map}
use Rattle.std.proofs.lemmas.List.FromFn.{fill_by_all}
use Rattle.std.proofs.lemmas.Nat.{and_mask}
use Rattle.std.proofs.Math.Nat.{mod-eq_of_lt}
use Rattle.std.proofs.Math.Seq.{take-append-add}
use Rattle.byteorder.specs.Endian.{big_bytes}
use Rattle.byteorder.specs.Numbers.{big_from-take, big_number-reads_back}
use Rattle.sg_wire.specs.FirstBytes.{first_bytes}
use Rattle.sg_wire.specs.LbaStatus.{code_of, descriptor_bytes, status_data}
use Rattle.sg_wire.specs.declared.lba_status.ProvisioningStatus.{ProvisioningStatus}
use Rattle.sg_wire.specs.declared.lba_status.ProvisioningStatus.TheVariants.{Mapped, Deallocated, Anchored}
use Rattle.sg_wire.specs.declared.lba_status.StatusDescriptor.{StatusDescriptor}
use Rattle.sg_decode.specs.LbaStatus.{descriptor, descriptor_of, reported_end, whole_count}
use Rattle.sg_decode.specs.LbaStatus.{whole_descriptors}
use Rattle.sg_wire.specs.Bits.{bits_of}
use Rattle.sg_run.specs.Walk.{fields_of}

-- ---- The whole answer

no_descriptor : StatusDescriptor
no_descriptor = record { lba = 0; count = 0; status = Mapped }

abbrev all_bytes : List StatusDescriptor → List ℕ
all_bytes ds = flat_map descriptor_bytes ds

bytes-long : (ds : List StatusDescriptor) → length (all_bytes ds) ≡ 16 * length ds
bytes-long [] = refl
bytes-long (d ∷ ds) = let rest = bytes-long ds in omega (arith, rest)

data-long : (ds : List StatusDescriptor) → length (status_data ds) ≡ 8 + 16 * length ds
unfolding status_data
data-long ds = let rest = bytes-long ds in omega (arith, rest)

bytes-past : (ds : List StatusDescriptor) (k : ℕ) → k ≤ length ds
    → drop (16 * k) (all_bytes ds) ≡ all_bytes (drop k ds)
bytes-past ds zero few = refl
bytes-past [] (suc k) few = absurd (omega arith)
bytes-past (d ∷ ds) (suc k) few =
    let next : 16 * suc k ≡ 16 + 16 * k = omega arith in
    ap (λ n. drop n (all_bytes (d ∷ ds))) next ∙ sym (drop-drop (16 * k) 16 (all_bytes (d ∷ ds)))
    ∙ bytes-past ds k (omega arith)

-- the bytes of the answer from a descriptor on
from-descriptor : (ds : List StatusDescriptor) (k : ℕ) → k < length ds → drop (8 + 16 * k) (status_data ds)
    ≡ descriptor_bytes (get_or ds k no_descriptor) ++ all_bytes (drop (k + 1) ds)
unfolding status_data
from-descriptor ds k within =
    sym (drop-drop (16 * k) 8 (status_data ds)) ∙ bytes-past ds k (omega arith)
    ∙ ap all_bytes (drop_more ds k no_descriptor within)

-- ---- A descriptor is read again

code-small : (status : ProvisioningStatus) → code_of status < 16
code-small Mapped = omega arith
code-small Deallocated = omega arith
code-small Anchored = omega arith

low-bits : (x : ℕ) → x < 16 → bits_of x 3 0 ≡ x
low-bits x small = and_mask x 4 ∙ mod-eq_of_lt small

-- its fields fit
pub record HasRoom (d : StatusDescriptor) : Type 0 where
  pub lba : d.lba < 2 ^ 64
  pub count : d.count < 2 ^ 32

descriptor-read : (d : StatusDescriptor) (rest : List ℕ) → HasRoom d
    → descriptor_of (descriptor_bytes d ++ rest) ≡ fields_of d
descriptor-read d rest room =
    let last = code_of d.status ∷ 0 ∷ 0 ∷ 0 ∷ rest in
    let lba = big_number-reads_back 8 d.lba (big_bytes 4 d.count ++ last) room.lba in
    let count = big_number-reads_back 4 d.count last room.count in
    let status = low-bits (code_of d.status) (code-small d.status) in
    λ i. record { lba = lba i; count = count i; status = status i }

-- ---- The answer is cut

module _ (ds : List StatusDescriptor) (n : ℕ) (few : length ds ≤ 512) (enough : 24 ≤ n)
    (room : All HasRoom ds) where
  abbrev cut : List ℕ
  cut = first_bytes n (status_data ds)

  end-is : reported_end cut ≡ 8 + 16 * length ds
  unfolding status_data
  end-is =
      let size = 4 + 16 * length ds in
      let read = big_from-take 0 4 n (status_data ds) (omega arith)
      ∙ big_number-reads_back 4 size (0 ∷ 0 ∷ 0 ∷ 0 ∷ all_bytes ds) (omega arith) in
      omega (arith, read)

  count-is : whole_count cut ≡ min ((n - 8) / 16) (length ds)
  unfolding whole_count
  count-is = omega (arith, end-is, length-take n (status_data ds), data-long ds)

  -- the bytes that are left of the answer from a whole descriptor on
  own-is : (k : ℕ) → k < length ds → 24 + 16 * k ≤ n → drop (8 + 16 * k) cut
      ≡ descriptor_bytes (get_or ds k no_descriptor)
      ++ take (n - (24 + 16 * k)) (all_bytes (drop (k + 1) ds))
  own-is k within whole =
      let d = get_or ds k no_descriptor in
      let at = 8 + 16 * k in
      let left = n - (24 + 16 * k) in
      let all : n ≡ at + (16 + left) = omega arith in
      ap (λ m. drop at (take m (status_data ds))) all ∙ drop-take at (16 + left) (status_data ds)
      ∙ ap (take (16 + left)) (from-descriptor ds k within)
      ∙ take-append-add (descriptor_bytes d) (all_bytes (drop (k + 1) ds)) left

  descriptor-is : (k : ℕ) → k < length ds → 24 + 16 * k ≤ n
      → descriptor cut k ≡ fields_of (get_or ds k no_descriptor)
  unfolding descriptor
  descriptor-is k within whole =
      ap descriptor_of (own-is k within whole)
      ∙ descriptor-read (get_or ds k no_descriptor)
      (take (n - (24 + 16 * k)) (all_bytes (drop (k + 1) ds))) (room k no_descriptor within)

  -- The whole descriptors are the first descriptors.
  pub whole-are : whole_descriptors cut ≡ map fields_of (take ((n - 8) / 16) ds)
  whole-are =
      let k = whole_count cut in
      let firsts = take ((n - 8) / 16) ds in
      let same : length firsts ≡ k = omega (arith, length-take ((n - 8) / 16) ds, count-is) in
      sym (fill_by_all (descriptor cut) (map fields_of firsts) k (fields_of no_descriptor)
      (length-map firsts fields_of ∙ same)
      (λ i below.
      let here : i < length ds = omega (arith, count-is, below) in
      let whole : 24 + 16 * i ≤ n = omega (arith, count-is, below) in
      get_or-map fields_of firsts i no_descriptor (fields_of no_descriptor) (omega arith)
      ∙ ap fields_of (get_or-take ((n - 8) / 16) ds i no_descriptor (omega (arith, count-is, below)))
      ∙ sym (descriptor-is i here whole)))
