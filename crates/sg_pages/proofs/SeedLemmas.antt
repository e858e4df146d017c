-- The names that seeds make.
use Rattle.std.proofs.Common.{◌≡◌, ◌<◌, ℕ, zero, suc, ◌+◌, ◌*◌, ◌^◌, ◌/◌, ◌%◌, arith, refl, sym, ap, ◌∙◌}
use Rattle.std.proofs.Common.{List, drop, [], ◌∷◌, slice_index, true, Ok}
use Rattle.std.proofs.Math.Nat.{mod-lt}
use Rattle.std.proofs.lemmas.Bool.{and_from, lt-ltb}
use Rattle.std.proofs.lemmas.List.{append-nil}
use Rattle.std.proofs.lemmas.List.Elements.{All-get_or}
use Rattle.std.proofs.lemmas.List.Sums.{AllPass-from_list_all}
use Rattle.std.specs.List.{list_all}
use Rattle.byteorder.specs.Endian.{big_bytes, big_number}
use Rattle.byteorder.specs.Numbers.{big_number-reads_back}
use Rattle.hex.specs.Hex.{IsBytes, encode_lower, encode_with, lower_digits}
use Rattle.hex.proofs.HexLemmas.{decode_of-encode_lower, decode_of-same}
use Rattle.sg_wire.specs.Ascii.{is_printable}
use Rattle.sg_pages.specs.NewIdentity.{are_texts, identity_of_seed, seeded_identity, serial_of_seed}
use Rattle.sg_pages.specs.VitalProductData.{locally_assigned, naa_designator}
use Rattle.sg_pages.specs.VitalProductData.{registered_extended}
use Rattle.sg_wire.specs.declared.profile.Profile.{Profile}
use Rattle.sg_wire.specs.declared.profile.Profile.TheVariants.{Base, Extended}

are-bytes : (n x : ℕ) → IsBytes (big_bytes n x)
are-bytes zero x i = omega arith
are-bytes (suc zero) x zero = mod-lt x (omega arith)
are-bytes (suc (suc n)) x zero = mod-lt (x / 256 ^ suc n) (omega arith)
are-bytes (suc n) x (suc i) = are-bytes n x i

-- ---- Texts

digit-printable : (value : ℕ) → value < 16 → is_printable (slice_index lower_digits value) ≡ true
digit-printable value small =
    All-get_or (λ digit. is_printable digit ≡ true) lower_digits value 0 small
    (AllPass-from_list_all is_printable lower_digits refl)

hexadecimal-printable : (bytes : List ℕ) → IsBytes bytes
    → list_all is_printable (encode_lower bytes) ≡ true
unfolding encode_with
hexadecimal-printable [] are = refl
hexadecimal-printable (byte ∷ bytes) are =
    let fits : byte < 256 = are 0 in
    and_from _ _ (digit-printable (byte / 16) (omega arith))
    (and_from _ _ (digit-printable (byte % 16) (omega arith))
    (hexadecimal-printable bytes (λ i. are (suc i))))

serial-printable : (seed : ℕ) → list_all is_printable (serial_of_seed seed) ≡ true
serial-printable seed = hexadecimal-printable (big_bytes 4 seed) (are-bytes 4 seed)

texts-printable : (seed : ℕ) → are_texts (seeded_identity seed) ≡ true
texts-printable seed = and_from _ _ refl (serial-printable seed)

pub makes-identity : (seed : ℕ) → seed < 2 ^ 60 → identity_of_seed seed ≡ Ok (seeded_identity seed)
makes-identity seed small =
    let printable = texts-printable seed in
    let short = lt-ltb seed (2 ^ 60) small in
    rw (printable, short) refl

-- ---- Names that belong to one seed

-- A number that fits into its bytes is read back from them.
number-of-bytes : (n x : ℕ) → x < 256 ^ n → big_number n (big_bytes n x) ≡ x
number-of-bytes n x fits =
    ap (big_number n) (sym (append-nil (big_bytes n x))) ∙ big_number-reads_back n x [] fits

bytes-of-one : (n x y : ℕ) → x < 256 ^ n → y < 256 ^ n → big_bytes n x ≡ big_bytes n y → x ≡ y
bytes-of-one n x y small also same =
    sym (number-of-bytes n x small) ∙ (ap (big_number n) same ∙ number-of-bytes n y also)

pub designator-of-one : (profile : Profile) (x y : ℕ) → x < 2 ^ 60 → y < 2 ^ 60
    → naa_designator profile x ≡ naa_designator profile y → x ≡ y
unfolding locally_assigned registered_extended
designator-of-one Base x y small also same =
    let equal = bytes-of-one 8 (3 * 2 ^ 60 + x) (3 * 2 ^ 60 + y) (omega arith) (omega arith) same in
    omega (arith, equal)
designator-of-one Extended x y small also same =
    bytes-of-one 8 x y (omega arith) (omega arith) (ap (drop 8) same)

pub serial-of-one : (x y : ℕ) → x < 2 ^ 32 → y < 2 ^ 32
    → serial_of_seed x ≡ serial_of_seed y → x ≡ y
serial-of-one x y small also same =
    let left = decode_of-encode_lower (big_bytes 4 x) (are-bytes 4 x) in
    let right = decode_of-encode_lower (big_bytes 4 y) (are-bytes 4 y) in
    let bytes = decode_of-same (serial_of_seed y) (big_bytes 4 x) (big_bytes 4 y) (rw same at left) right in
    bytes-of-one 4 x y small also bytes
