-- Thresholds: only a larger number of used blocks crosses one.
use Rattle.std.proofs.Common.{◌≡◌, ◌≤◌, ◌<◌, ◌⊎◌, inl, inr, ℕ, ◌-◌, ◌/◌, ◌^◌, Bool, true, false, ◌&&◌, ◌||◌}
use Rattle.std.proofs.Common.{refl, sym, ap₂, ◌∙◌, subst, arith}
use Rattle.std.proofs.Math.Nat.{div-mul-le_self}
use Rattle.std.proofs.lemmas.Bool.{cases_lt, false≢true, leb-true, ltb-true}
use Rattle.std.proofs.lemmas.Nat.{le-div, pow_pos}
use Rattle.std.specs.Prelude.{nat_le, nat_lt, slice_index}
use Rattle.sg_wire.specs.Bits.{has_bit}
use Rattle.sg_wire.specs.declared.profile.Profile.{Profile}
use Rattle.sg_pages.specs.ModePage.{has_page, lbpere}
use Rattle.sg_pages.specs.ProvisioningPages.{available_sets, threshold_exponent, threshold_sets, used_sets}
use Rattle.sg_pages.specs.ThresholdLaws.{EqualCountsCrossNothing, OnlyMoreUsedBlocksCross}
use Rattle.sg_pages.specs.Thresholds.{crosses, falls_to, rises_to, threshold_at}
use Rattle.sg_pages.specs.declared.mode_pages.mode_page.ModePage.TheVariants.{LogicalBlockProvisioning}
use Rattle.sg_pages.specs.declared.mode_pages.mode_page.PageValues.{PageValues}
use Rattle.sg_pages.specs.declared.provisioning_pages.MappingResources.{MappingResources}

-- the whole sets of more blocks are no fewer
sets-mono : (profile : Profile) (capacity a b : ℕ) → a ≤ b
    → threshold_sets profile capacity a ≤ threshold_sets profile capacity b
unfolding threshold_sets
sets-mono profile capacity a b h =
    let size = 2 ^ threshold_exponent profile capacity in
    le-div (a / size) b size (pow_pos (threshold_exponent profile capacity))
    (omega (arith, div-mul-le_self a size, h))

no-fall : (count before after : ℕ) → before ≤ after → falls_to count before after ≡ false
no-fall count before after h = by (nat_lt count before) (nat_le after count) refl refl
  where
    by : (b d : Bool) → nat_lt count before ≡ b → nat_le after count ≡ d → (b && d) ≡ false
    by false d e f = refl
    by true false e f = refl
    by true true e f = absurd (omega (arith, h, ltb-true count before e, leb-true after count f))

no-rise : (count before after : ℕ) → after ≤ before → rises_to count before after ≡ false
no-rise count before after h = by (nat_lt before count) (nat_le count after) refl refl
  where
    by : (b d : Bool) → nat_lt before count ≡ b → nat_le count after ≡ d → (b && d) ≡ false
    by false d e f = refl
    by true false e f = refl
    by true true e f = absurd (omega (arith, h, ltb-true before count e, leb-true count after f))

idle : (a b c d : Bool) → (a && (b && (c && false || d && false))) ≡ false
idle false b c d = refl
idle true false c d = refl
idle true true false false = refl
idle true true false true = refl
idle true true true false = refl
idle true true true true = refl

crosses-none : (profile : Profile) (values : PageValues) (before after : MappingResources)
    → available_sets profile before ≤ available_sets profile after
    → used_sets profile after ≤ used_sets profile before → crosses profile values before after ≡ false
crosses-none profile values before after left used_fewer =
    let available = threshold_at 16 values in
    let used = threshold_at 24 values in
    ap₂
    (λ (f g : Bool). has_page profile LogicalBlockProvisioning
    && (has_bit (slice_index values.error_recovery 5) lbpere
    && (available.enabled && f || used.enabled && g)))
    (no-fall available.count (available_sets profile before) (available_sets profile after) left)
    (no-rise used.count (used_sets profile before) (used_sets profile after) used_fewer)
    ∙ idle (has_page profile LogicalBlockProvisioning)
    (has_bit (slice_index values.error_recovery 5) lbpere) available.enabled used.enabled

pub crosses-same : EqualCountsCrossNothing
crosses-same profile values pool = crosses-none profile values pool pool (omega arith) (omega arith)

pub more-used : OnlyMoreUsedBlocksCross
more-used profile values before after e capacity blocks =
    by (cases_lt before.used after.used)
  where
    left : after.used ≤ before.used → available_sets profile before ≤ available_sets profile after
    left fewer =
        let x = before.blocks - before.used in
        let y = after.blocks - after.used in
        subst (λ c. threshold_sets profile before.capacity x ≤ threshold_sets profile c y) (sym capacity)
        (sets-mono profile before.capacity x y (omega (arith, fewer, blocks)))

    used_fewer : after.used ≤ before.used → used_sets profile after ≤ used_sets profile before
    used_fewer fewer =
        subst
        (λ c. threshold_sets profile c after.used ≤ threshold_sets profile before.capacity before.used)
        (sym capacity)
        (sets-mono profile before.capacity after.used before.used fewer)

    by : (before.used < after.used) ⊎ (after.used ≤ before.used) → before.used < after.used
    by (inl more) = more
    by (inr fewer) =
        absurd (false≢true
        (sym (crosses-none profile values before after (left fewer) (used_fewer fewer)) ∙ e))
