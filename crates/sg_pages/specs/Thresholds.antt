-- The thresholds of a thin provisioned disk: whether a command's use of the pool crosses one (SBC-3, 4.7
-- and 6.4).
use Rattle.std.specs.Prelude.{ℕ, ◌-◌, List, drop, slice_index, Bool, ◌&&◌, ◌||◌, nat_le, nat_lt}
use Rattle.byteorder.specs.Endian.{big_number}
use Rattle.sg_wire.specs.Bits.{has_bit}
use Rattle.sg_wire.specs.declared.profile.Profile.{Profile}
use Rattle.sg_pages.specs.ModePage.{enabled, has_page, lbpere, situa}
use Rattle.sg_pages.specs.ProvisioningPages.{available_sets, used_sets}
use Rattle.sg_pages.specs.declared.mode_pages.mode_page.ModePage.TheVariants.{LogicalBlockProvisioning}
use Rattle.sg_pages.specs.declared.mode_pages.mode_page.PageValues.{PageValues}
use Rattle.sg_pages.specs.declared.mode_pages.thresholds.Threshold.{Threshold}
use Rattle.sg_pages.specs.declared.provisioning_pages.MappingResources.{MappingResources}

-- ENABLED and THRESHOLD COUNT of a threshold descriptor that begins at a byte of page 1Ch/02h. The values of
-- the page begin at byte 4.
abbrev threshold_in : (descriptor : List ℕ) → Threshold
threshold_in descriptor = record {
  enabled = has_bit (slice_index descriptor 0) enabled;
  count = big_number 4 (drop 4 descriptor);
}

abbrev pub threshold_at : (byte : ℕ) → PageValues → Threshold
threshold_at byte values = threshold_in (drop (byte - 4) values.provisioning)

-- A number of threshold sets falls to THRESHOLD COUNT, from above (THRESHOLD ARMING 0), or it rises to it,
-- from below (THRESHOLD ARMING 1).
-- Choice (SBC-3, 4.7): a number that goes up and down around its threshold may be reported less often.
abbrev pub falls_to : (count before after : ℕ) → Bool
falls_to count before after = nat_lt count before && nat_le after count

abbrev pub rises_to : (count before after : ℕ) → Bool
rises_to count before after = nat_lt before count && nat_le count after

-- On an extended disk with LBPERE 1 in page 01h a command crosses a threshold that is enabled: what is left
-- of the pool falls to the first one, or what is used rises to the second one.
abbrev pub crosses : Profile → PageValues → (before after : MappingResources) → Bool
crosses profile values before after =
    let available = threshold_at 16 values in
    let used = threshold_at 24 values in
    has_page profile LogicalBlockProvisioning
    && (has_bit (slice_index values.error_recovery 5) lbpere
    && (available.enabled
    && falls_to available.count (available_sets profile before) (available_sets profile after)
    || used.enabled && rises_to used.count (used_sets profile before) (used_sets profile after)))

-- SITUA: only the initiator whose command crosses a threshold gets the unit attention.
abbrev pub alerts_only_sender : PageValues → Bool
alerts_only_sender values = has_bit (slice_index values.provisioning 0) situa
