-- The lengths of the data that the disk reports about itself, in bytes.
use Rattle.std.specs.Prelude.{ℕ, ◌+◌, ◌*◌, sum_by}
use Rattle.sg_wire.specs.declared.profile.Profile.{Profile}
use Rattle.sg_wire.specs.declared.profile.Profile.TheVariants.{Base, Extended}
use Rattle.sg_pages.specs.ModePage.{each_page, page_header_length, page_length}

-- READ CAPACITY parameter data (SBC-3, 5.15.2 and 5.16.2).
abbrev pub capacity_10_length : ℕ
capacity_10_length = 8

abbrev pub capacity_16_length : ℕ
capacity_16_length = 32

-- The standard INQUIRY data of a disk of a profile, and of any disk at most.
abbrev pub standard_inquiry_length : Profile → ℕ
standard_inquiry_length Base = 36
standard_inquiry_length Extended = 74

abbrev pub longest_standard_inquiry : ℕ
longest_standard_inquiry = standard_inquiry_length Extended

-- The designators of the logical unit of a disk of a profile, with four bytes before each.
abbrev pub unit_length : Profile → ℕ
unit_length Base = (4 + 32) + (4 + 8)
unit_length Extended = (4 + 32) + (4 + 16)

-- The longest page of vital product data, Device Identification of a disk of the extended profile: the
-- header of the page, the designators of the logical unit, and those of the target port.
abbrev pub longest_page : ℕ
longest_page = 4 + unit_length Extended + 2 * (4 + 4)

-- The longest mode parameter list: the header of MODE SENSE(10), the long block descriptor, and all
-- pages.
abbrev pub longest_list : ℕ
longest_list = 8 + 16 + sum_by (λ page. page_header_length page + page_length page) each_page
