-- The mask of initiators is made from its highest bit down.
use Rattle.std.proofs.Common.{◌≡◌, ◌≢◌, ◌<◌, ◌≤◌, ◌+◌, ◌*◌, ◌-◌, ◌^◌, ◌/◌, ℕ, zero, suc, Bool, true, false}
use Rattle.std.proofs.Common.{Some, None, refl, sym, ap, ◌∙◌, arith, length}
use Rattle.std.specs.Prelude.{◌==◌, if◌then◌else◌, nat_le}
use Rattle.std.specs.Int.{bit_at}
use mir.Val.{bool_byte}
use Rattle.std.proofs.Math.Nat.{pow-suc}
use Rattle.std.proofs.Math.Pow.{pow_mono}
use Rattle.std.proofs.lemmas.Bool.Decides.{nat_tests}
use Rattle.std.proofs.lemmas.List.FromFn.{fill_by_all}
use Rattle.std.proofs.lemmas.Nat.Bits.{bit_at_lowest, bit_at-suc}
use Rattle.sg_wire.specs.Initiator.{initiator_count}
use Rattle.sg_units.specs.Initiators.{Members, is_in_mask, is_member, members_of_mask}
use Rattle.sg_units.specs.Initiators.{no_initiators}
use Rattle.sg_embed.specs.Fault.{mask_of_all, named_initiators, own_initiators}

-- the mask's bits are the members from a number on
pub record HasBits (members : Members) (number mask : ℕ) : Type 0 where
  pub within : number ≤ initiator_count
  pub below : mask < 2 ^ (initiator_count - number)
  pub bits : (k : ℕ) → k < initiator_count - number → is_member members (number + k) ≡ is_in_mask mask k

pub no-bits : (members : Members) → HasBits members initiator_count 0
no-bits members = record {
  within = omega arith;
  below = omega arith;
  bits = λ k h. absurd (omega (arith, h));
}

-- a member's bit
abbrev pub bit : Bool → ℕ
bit = bool_byte

lowest : (mask : ℕ) (b : Bool) → is_in_mask (2 * mask + bit b) 0 ≡ b
lowest mask true = rw (bit_at_lowest (2 * mask + 1)) (grind (arith, nat_tests))
lowest mask false = rw (bit_at_lowest (2 * mask + 0)) (grind (arith, nat_tests))

half : (mask : ℕ) (b : Bool) → (2 * mask + bit b) / 2 ≡ mask
half mask true = omega arith
half mask false = omega arith

higher : (mask k : ℕ) (b : Bool) → is_in_mask (2 * mask + bit b) (suc k) ≡ is_in_mask mask k
higher mask k b =
    ap (λ n. n == 1)
    (bit_at-suc (2 * mask + bit b) k ∙ ap (λ n. bit_at n k) (half mask b))

bit-small : (b : Bool) → bit b ≤ 1
bit-small true = omega arith
bit-small false = omega arith

one-more : (members : Members) (number mask : ℕ) (b : Bool) → number < initiator_count
    → b ≡ is_member members number → HasBits members (suc number) mask
    → (k : ℕ) → k < initiator_count - number
    → is_member members (number + k) ≡ is_in_mask (2 * mask + bit b) k
one-more members number mask b h is i zero few =
    ap (is_member members) (omega arith) ∙ (sym is ∙ sym (lowest mask b))
one-more members number mask b h is i (suc k) few =
    ap (is_member members) (omega arith)
    ∙ (i.bits k (omega (arith, few)) ∙ sym (higher mask k b))

pub next-bit : (members : Members) (number mask : ℕ) (b : Bool) → number < initiator_count
    → b ≡ is_member members number
    → HasBits members (suc number) mask → HasBits members number (2 * mask + bit b)
next-bit members number mask b h is i =
    let twice : 2 ^ (initiator_count - number) ≡ 2 ^ (initiator_count - suc number) * 2 =
    ap (λ n. 2 ^ n) (omega arith) ∙ pow-suc 2 (initiator_count - suc number) in
    record {
      within = omega arith;
      below = omega (arith, twice, i.below, bit-small b);
      bits = one-more members number mask b h is i;
    }

-- a mask with each bit is the members'
members-of : (members : Members) (mask : ℕ) → length members ≡ initiator_count → HasBits members 0 mask
    → members_of_mask mask ≡ members
unfolding members_of_mask
members-of members mask size i =
    sym (fill_by_all (is_in_mask mask) members initiator_count false size
    (λ k h. ap (is_member members) (omega arith) ∙ i.bits k (omega (arith, h))))

-- a disk with all initiators has those of each mask
of-all : (mask : ℕ) (all few : Bool) → (mask == mask_of_all initiator_count) ≡ all
    → nat_le mask (mask_of_all initiator_count) ≡ few → mask < 2 ^ initiator_count
    → (if all then Some (members_of_mask (mask_of_all initiator_count))
    else (if few then Some (members_of_mask mask) else None)) ≡ Some (members_of_mask mask)
of-all mask true few e f below =
    let same : mask_of_all initiator_count ≡ mask = grind (arith, nat_tests) in
    ap (λ m. Some (members_of_mask m)) same
of-all mask false true e f below = refl
of-all mask false false e f below = absurd (grind (arith, nat_tests))

pub each-bit : (members : Members) (mask : ℕ) → length members ≡ initiator_count → HasBits members 0 mask
    → own_initiators initiator_count mask ≡ Some members
each-bit members mask size i =
    of-all mask (mask == mask_of_all initiator_count) (nat_le mask (mask_of_all initiator_count)) refl refl
    i.below
    ∙ ap Some (members-of members mask size i)

-- the mask of some initiators is not 0
pub named : (members : Members) (mask : ℕ) → own_initiators initiator_count mask ≡ Some members
    → members ≢ no_initiators → named_initiators initiator_count mask ≡ Some members
unfolding members_of_mask
named members zero is some = absurd (some cc)
named members (suc mask) is some =
    let positive : (suc mask == 0) ≡ false = grind (arith, nat_tests) in
    rw positive is

-- a number of 64 bits has room for one bit more
pub has-room : (members : Members) (number mask : ℕ) → HasBits members number mask → 0 < number
    → mask < 2 ^ (initiator_count - 1)
has-room members number mask i some =
    let bound : 2 ^ (initiator_count - number) ≤ 2 ^ (initiator_count - 1) =
    pow_mono {i = initiator_count - number} {j = initiator_count - 1} (omega (arith, some)) in
    omega (arith, bound, i.below)
