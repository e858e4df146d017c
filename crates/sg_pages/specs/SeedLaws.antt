-- Laws of seeds: two disks whose seeds differ have two names.
use Rattle.std.specs.Prelude.{◌≡◌, ℕ, ◌<◌, ◌^◌, Ok}
use Rattle.sg_pages.specs.NewIdentity.{identity_of_seed, seeded_identity, serial_of_seed}
use Rattle.sg_pages.specs.NewIdentity.{standard_identity}
use Rattle.sg_pages.specs.VitalProductData.{naa_designator}
use Rattle.sg_wire.specs.declared.profile.Profile.{Profile}

-- Each seed of at most 60 bits makes an identity.
abbrev pub SeedsMakeIdentities : Type 0
SeedsMakeIdentities =
    (seed : ℕ) → seed < 2 ^ 60 → identity_of_seed seed ≡ Ok (seeded_identity seed)

-- Seed 1 makes the default identity.
abbrev pub SeedOneIsStandard : Type 0
SeedOneIsStandard = identity_of_seed 1 ≡ Ok standard_identity

-- The NAA designator, in page 83h, belongs to one seed.
abbrev pub SeedsHaveDesignators : Type 0
SeedsHaveDesignators =
    (profile : Profile) (first second : ℕ) → first < 2 ^ 60 → second < 2 ^ 60
    → naa_designator profile first ≡ naa_designator profile second → first ≡ second

-- The serial number, in pages 80h and 83h, belongs to one seed of at most 32 bits.
abbrev pub SeedsHaveSerials : Type 0
SeedsHaveSerials =
    (first second : ℕ) → first < 2 ^ 32 → second < 2 ^ 32
    → serial_of_seed first ≡ serial_of_seed second → first ≡ second
