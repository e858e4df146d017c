-- The record of the identity of a seed.
use Rattle.std.proofs.Common.{◌≡◌, ℕ, Bool, true, false, Ok, Err, refl}
use Rattle.std.specs.Prelude.{not, nat_lt, ◌^◌, if◌then◌else◌}
use Rattle.sg_pages.specs.Identity.{IdentityFields}
use Rattle.sg_pages.specs.NewIdentity.{are_texts, checked_identity, identity_of_seed, seeded_identity}
use Rattle.sg_pages.specs.declared.identity.IdentityFault.TheVariants.{Local, Text}
use Rattle.sg_embed.specs.Records.{asked_identity, identity_record}

either : (are short : Bool) (i made : IdentityFields)
    → (if not are then Err Text else (if short then Ok i else Err Local)) ≡ Ok made → made ≡ i
either true true i made is = cc
either true false i made is = absurd cc
either false short i made is = absurd cc

-- An identity that is accepted is the one that was checked.
accepted : (i made : IdentityFields) → checked_identity i ≡ Ok made → made ≡ i
accepted i made is = either (are_texts i) (nat_lt i.local (2 ^ 60)) i made is

pub reads_back : (seed : ℕ) (made : IdentityFields) → identity_of_seed seed ≡ Ok made
    → asked_identity (identity_record made) ≡ identity_of_seed seed
reads_back seed made is =
    let same = accepted (seeded_identity seed) made is in
    rw same refl
