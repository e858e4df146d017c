-- The first record is an exact format.
use Rattle.std.proofs.Common.{◌≡◌, ℕ, zero, suc, List, Some, Bool, true, false, refl, sym, subst, ap}
use Rattle.sg_pages.specs.declared.physical_block.PhysicalBlock.{PhysicalBlock}
use Rattle.sg_pages.specs.declared.physical_block.PhysicalBlock.TheVariants.{Of512, Of4096}
use Rattle.sg_wire.specs.declared.profile.Profile.{Profile}
use Rattle.sg_wire.specs.declared.profile.Profile.TheVariants.{Base, Extended}
use Rattle.sg_changes.specs.FirstRecord.{NewDiskFields, disk_with_tag, first_record, first_record_of}
use Rattle.sg_changes.specs.FirstRecord.{identity, is_identity, is_new_disk, new_disk, profile, profile_code}
use Rattle.sg_changes.specs.FirstRecord.{kind, kind_code, kind_of, profile_of}
use Rattle.sg_changes.specs.Format.{Format, IsExact, number, pair, plain}
use Rattle.sg_changes.proofs.FieldLemmas.{renamed_exact, table_exact}
use Rattle.sg_changes.proofs.FormatLemmas.{number_exact, pair_exact, plain_exact}
use Rattle.sg_changes.proofs.ManyLemmas.{only_exact}
use Rattle.sg_changes.proofs.TagLemmas.{IsRow, chosen, tagged_exact}

profile-found : (n : ℕ) (p : Profile) → profile_of n ≡ Some p → profile_code p ≡ n
profile-found zero Base e = refl
profile-found zero Extended e = absurd cc
profile-found (suc zero) Base e = absurd cc
profile-found (suc zero) Extended e = refl
profile-found (suc (suc n)) p e = absurd cc

profile-again : (p : Profile) → profile_of (profile_code p) ≡ Some p
profile-again Base = refl
profile-again Extended = refl

profile-exact : IsExact profile
unfolding profile
profile-exact = table_exact profile_code profile_of profile-found profile-again

kind-found : (n : ℕ) (k : Bool × PhysicalBlock) → kind_of n ≡ Some k → kind_code k.0 k.1 ≡ n
kind-found zero k e =
    let same : (false, Of512) ≡ k = cc in
    ap (λ k. kind_code k.0 k.1) (sym same)
kind-found (suc zero) k e =
    let same : (true, Of512) ≡ k = cc in
    ap (λ k. kind_code k.0 k.1) (sym same)
kind-found (suc (suc zero)) k e =
    let same : (false, Of4096) ≡ k = cc in
    ap (λ k. kind_code k.0 k.1) (sym same)
kind-found (suc (suc (suc zero))) k e =
    let same : (true, Of4096) ≡ k = cc in
    ap (λ k. kind_code k.0 k.1) (sym same)
kind-found (suc (suc (suc (suc n)))) k e = absurd cc

kind-again : (k : Bool × PhysicalBlock) → kind_of (kind_code k.0 k.1) ≡ Some k
kind-again (false, Of512) = refl
kind-again (true, Of512) = refl
kind-again (false, Of4096) = refl
kind-again (true, Of4096) = refl

kind-exact : IsExact kind
unfolding kind
kind-exact = table_exact (λ k. kind_code k.0 k.1) kind_of kind-found kind-again

-- the fields of an identity, each with its format
identity-exact : IsExact identity
unfolding identity
identity-exact =
    only_exact is_identity _
    (renamed_exact
    (λ p. record {
      vendor = p.0;
      product = p.1.0;
      revision = p.1.1.0;
      serial = p.1.1.1.0;
      local = p.1.1.1.1.0;
      profile = p.1.1.1.1.1.0;
      takes_short_data_out = p.1.1.1.1.1.1.0;
      physical_block = p.1.1.1.1.1.1.1;
    })
    (λ i. (
      i.vendor,
      (
        i.product,
        (
          i.revision,
          (
            i.serial,
            (
              i.local,
              (i.profile, (i.takes_short_data_out, i.physical_block)),
            ),
          ),
        ),
      ),
    ))
    (pair (plain 8) (pair (plain 16) (pair (plain 4) (pair (plain 8) (pair (number 8) (pair profile kind))))))
    (pair_exact (plain 8) (pair (plain 16) (pair (plain 4)
    (pair (plain 8) (pair (number 8) (pair profile kind)))))
    (plain_exact 8)
    (pair_exact (plain 16) (pair (plain 4) (pair (plain 8) (pair (number 8) (pair profile kind))))
    (plain_exact 16)
    (pair_exact (plain 4) (pair (plain 8) (pair (number 8) (pair profile kind))) (plain_exact 4)
    (pair_exact (plain 8) (pair (number 8) (pair profile kind)) (plain_exact 8)
    (pair_exact (number 8) (pair profile kind) (number_exact 8)
    (pair_exact profile kind profile-exact kind-exact))))))
    (λ p. refl) (λ i. refl))

disk-exact : IsExact new_disk
unfolding new_disk
disk-exact =
    only_exact is_new_disk _
    (renamed_exact (λ p. record { capacity = p.0; pool = p.1.0; identity = p.1.1 })
    (λ d. (d.capacity, (d.pool, d.identity))) (pair (number 8) (pair (number 4) identity))
    (pair_exact (number 8) (pair (number 4) identity) (number_exact 8)
    (pair_exact (number 4) identity (number_exact 4) identity-exact))
    (λ p. refl) (λ d. refl))

abbrev Row : {X : Type 0} → Format X → (X → NewDiskFields) → ℕ → Type 0
Row format make tag = IsRow first_record_of new_disk.is_possible disk_with_tag format make tag

disk-row : Row new_disk (λ disk. disk) 9
unfolding disk_with_tag
disk-row = record { exact = disk-exact; spelled = λ x. refl; possible = λ x. refl; read = λ fields. refl }

row-with-tag : (P : Type 0) (tag : ℕ) (fields : List ℕ) (y : NewDiskFields) (rest : List ℕ)
    → disk_with_tag tag fields ≡ Some (y, rest)
    → ((X : Type 0) (format : Format X) (make : X → NewDiskFields) → Row format make tag → P) → P
unfolding disk_with_tag
row-with-tag P tag fields y rest e then =
    chosen P tag 9 _ _ (y, rest) e
    (λ same. then _ new_disk (λ disk. disk) (subst (Row new_disk (λ disk. disk)) (sym same) disk-row))
    (λ other. absurd cc)

row-of : (P : Type 0) (y : NewDiskFields)
    → ((X : Type 0) (format : Format X) (make : X → NewDiskFields) (tag : ℕ) → Row format make tag → (x : X)
    → make x ≡ y → P) → P
row-of P y then = then _ new_disk (λ disk. disk) 9 disk-row y refl

pub first_record_exact : IsExact first_record
first_record_exact = tagged_exact first_record_of new_disk.is_possible disk_with_tag row-with-tag row-of
