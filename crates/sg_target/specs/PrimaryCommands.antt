-- The effects of the primary commands (SPC-4, 6).
use Rattle.std.specs.Prelude.{ℕ, List, Bool, true, false, Option, Some, None}
use Rattle.std.specs.Prelude.{option_map, ◌==◌, if◌then◌else◌}
use Rattle.sg_wire.specs.SenseData.{sense_data}
use Rattle.sg_wire.specs.declared.profile.Profile.{Profile}
use Rattle.sg_wire.specs.declared.sense.Format.{Format}
use Rattle.sg_wire.specs.declared.sense.Format.TheVariants.{Fixed, Descriptor}
use Rattle.sg_pages.specs.Identity.{IdentityFields}
use Rattle.sg_pages.specs.InquiryData.{standard_inquiry}
use Rattle.sg_pages.specs.VitalProductData.{page_data, page_with_code}
use Rattle.sg_pages.specs.Reports.{report_data}
use Rattle.sg_pages.specs.declared.reports.Report.TheVariants.{LogicalUnits}
use Rattle.sg_units.specs.Attentions.{oldest, without_condition}
use Rattle.sg_units.specs.declared.unit_attention.UnitAttention.TheVariants.{ReportedLunsDataChanged}
use Rattle.sg_target.specs.Effect.{Effect, returning_up_to, without_attention}
use Rattle.sg_target.specs.Refusal.{pending_sense}
use Rattle.sg_target.specs.State.{State, profile_of, resources_of}
use Rattle.sg_target.specs.declared.primary.InquiryPage.{InquiryPage}
use Rattle.sg_target.specs.declared.primary.InquiryPage.TheVariants.{Standard, VitalProductData}

-- REQUEST SENSE returns the oldest unit attention as sense data, in the format that DESC asks for,
-- and clears it, whatever its allocation length. Without one, it reports whether the unit is stopped.
abbrev pub format_of : (desc : Bool) → Format
format_of desc = if desc then Descriptor else Fixed

-- Choice (SPC-4, 6.39): an allocation length of 0 may clear nothing.
abbrev pub returning_sense : State → (initiator : ℕ) → Format → (allocation_length : ℕ) → Effect
returning_sense state initiator format n =
    let pending = oldest state.attentions initiator in
    let sense = sense_data format (pending_sense state.stopped pending) in
    record (returning_up_to state n sense) { after = without_attention state initiator }

-- INQUIRY returns a page of vital product data with EVPD, if a disk of the profile has it. Without
-- EVPD it returns the standard INQUIRY data, if PAGE CODE is zero.
abbrev pub inquiry_page : Profile → (evpd : Bool) (page_code : ℕ) → Option InquiryPage
inquiry_page profile true page_code = option_map VitalProductData (page_with_code profile page_code)
inquiry_page profile false page_code = if page_code == 0 then Some Standard else None

abbrev pub inquiry_data : IdentityFields → (capacity : ℕ) → InquiryPage → List ℕ
inquiry_data identity capacity Standard = standard_inquiry identity
inquiry_data identity capacity (VitalProductData page) = page_data page identity capacity

abbrev pub returning_page : State → InquiryPage → (allocation_length : ℕ) → Effect
returning_page state page n =
    returning_up_to state n (inquiry_data state.identity state.disk.capacity page)

-- REPORT LUNS returns the list of logical units, and so clears the pending condition that the list has
-- changed (SAM-5, 5.14).
abbrev pub returning_luns : State → (initiator : ℕ) → (listed : Bool) → (allocation_length : ℕ) → Effect
returning_luns state initiator listed n =
    let luns = report_data (profile_of state) (resources_of state) (LogicalUnits listed) in
    record (returning_up_to state n luns) {
      after = record state {
        attentions = without_condition state.attentions initiator ReportedLunsDataChanged;
      };
    }
