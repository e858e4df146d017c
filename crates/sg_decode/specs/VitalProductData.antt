-- The texts of pages of vital product data, VPD (SPC-4, 7.8).
use Rattle.std.specs.Prelude.{ℕ, ◌+◌, List, [], ◌∷◌, ◌++◌, drop, codes, slice_index, ◌==◌}
use Rattle.std.specs.Prelude.{if◌then◌else◌}
use Rattle.byteorder.specs.Endian.{big_number}
use Rattle.sg_decode.specs.HexText.{hex_lines}
use Rattle.sg_decode.specs.Values.{bracketed}
use Rattle.sg_decode.specs.Lines.{Line, part}
use Rattle.sg_decode.specs.Items.{Decoder, Item, line_items, as_present, entries_from}
use Rattle.sg_decode.specs.Entries.{entry_of}
use Rattle.sg_decode.specs.Inquiry.{peripheral}
use Rattle.sg_decode.specs.declared.entry.EntryKind.TheVariants.{SupportedPages, Designators}
use Rattle.sg_decode.specs.declared.entry.EntryKind.TheVariants.{ModePagePolicies, ScsiPorts}
use Rattle.sg_decode.specs.declared.value.Value.TheVariants.{Bits, Code, Number}

abbrev pub page_header : List Line
page_header =
    peripheral
    ∷ (part (codes "  page: ") (Code 1 7 0) ∷ [])
    ∷ (part (codes "  page length: ") (Number 2 2) ∷ [])
    ∷ []

-- Unit Serial Number: the bytes of the serial number that are present.
abbrev pub serial_line : List ℕ → List ℕ
serial_line serial = codes "  serial: " ++ (bracketed serial ++ codes "\n")

-- Block Limits (SBC-3, vital product data parameters).
abbrev wsnz : Line
wsnz = part (codes "  WSNZ: ") (Bits 4 0 0) ∷ []

abbrev block_numbers : List Line
block_numbers =
    (part (codes "  transfer granularity: ") (Number 6 2) ∷ [])
    ∷ (part (codes "  maximum transfer: ") (Number 8 4) ∷ [])
    ∷ (part (codes "  maximum unmap count: ") (Number 20 4) ∷ [])
    ∷ (part (codes "  maximum unmap descriptors: ") (Number 24 4) ∷ [])
    ∷ (part (codes "  unmap granularity: ") (Number 28 4) ∷ [])
    ∷ (part (codes "  maximum write same: ") (Number 36 8) ∷ [])
    ∷ []

abbrev pub block_limits : List Line
block_limits = wsnz ∷ block_numbers

-- Logical Block Provisioning (SBC-3, vital product data parameters).
abbrev provisioning_flags : Line
provisioning_flags =
    part (codes "  LBPU: ") (Bits 5 7 7)
    ∷ part (codes ", LBPWS: ") (Bits 5 6 6)
    ∷ part (codes ", LBPWS10: ") (Bits 5 5 5)
    ∷ part (codes ", LBPRZ: ") (Bits 5 2 2)
    ∷ part (codes ", ANC_SUP: ") (Bits 5 1 1)
    ∷ part (codes ", DP: ") (Bits 5 0 0)
    ∷ []

abbrev pub logical_block_provisioning : List Line
logical_block_provisioning =
    (part (codes "  threshold exponent: ") (Number 4 1) ∷ [])
    ∷ provisioning_flags
    ∷ (part (codes "  provisioning type: ") (Bits 6 2 0) ∷ [])
    ∷ []

-- The items after the header, by PAGE CODE. Other pages are shown in hexadecimal.
abbrev pub page_body : (code : ℕ) → (bytes : List ℕ) → (end : ℕ) → List Item
page_body code bytes end =
    if code == 0x00 then entries_from (entry_of SupportedPages) 4 bytes
    else (if code == 0x80 then as_present 4 end serial_line bytes
    else (if code == 0x83 then entries_from (entry_of Designators) 4 bytes
    else (if code == 0xB0 then line_items block_limits
    else (if code == 0xB2 then line_items logical_block_provisioning
    else as_present 4 end hex_lines bytes))))

-- PAGE LENGTH counts the bytes after it.
abbrev pub vital_product_data : Decoder
vital_product_data = record {
  header = line_items page_header;
  reported_end = λ bytes. 4 + big_number 2 (drop 2 bytes);
  body = λ bytes end. page_body (slice_index bytes 1) bytes end;
}

-- ---- Pages that only the extended profile knows, and the page that has more there

-- Extended INQUIRY Data (SPC-4, 7.8.7).
abbrev protection_flags : Line
protection_flags =
    part (codes "  activate microcode: ") (Bits 4 7 6)
    ∷ part (codes ", SPT: ") (Bits 4 5 3)
    ∷ part (codes ", GRD_CHK: ") (Bits 4 2 2)
    ∷ part (codes ", APP_CHK: ") (Bits 4 1 1)
    ∷ part (codes ", REF_CHK: ") (Bits 4 0 0)
    ∷ []

abbrev task_flags : Line
task_flags =
    part (codes "  UASK_SUP: ") (Bits 5 5 5)
    ∷ part (codes ", GROUP_SUP: ") (Bits 5 4 4)
    ∷ part (codes ", PRIOR_SUP: ") (Bits 5 3 3)
    ∷ part (codes ", HEADSUP: ") (Bits 5 2 2)
    ∷ part (codes ", ORDSUP: ") (Bits 5 1 1)
    ∷ part (codes ", SIMPSUP: ") (Bits 5 0 0)
    ∷ []

abbrev medium_flags : Line
medium_flags =
    part (codes "  WU_SUP: ") (Bits 6 3 3)
    ∷ part (codes ", CRD_SUP: ") (Bits 6 2 2)
    ∷ part (codes ", NV_SUP: ") (Bits 6 1 1)
    ∷ part (codes ", V_SUP: ") (Bits 6 0 0)
    ∷ []

abbrev download_attention_flags : Line
download_attention_flags =
    part (codes "  POA_SUP: ") (Bits 12 7 7)
    ∷ part (codes ", HRA_SUP: ") (Bits 12 6 6)
    ∷ part (codes ", VSA_SUP: ") (Bits 12 5 5)
    ∷ []

abbrev pub extended_inquiry_data : List Line
extended_inquiry_data =
    protection_flags
    ∷ task_flags
    ∷ medium_flags
    ∷ (part (codes "  P_I_I_SUP: ") (Bits 7 4 4) ∷ part (codes ", LUICLR: ") (Bits 7 0 0) ∷ [])
    ∷ (part (codes "  R_SUP: ") (Bits 8 4 4) ∷ part (codes ", CBCS: ") (Bits 8 0 0) ∷ [])
    ∷ (part (codes "  multi I_T nexus microcode download: ") (Bits 9 3 0) ∷ [])
    ∷ (part (codes "  extended self-test completion minutes: ") (Number 10 2) ∷ [])
    ∷ download_attention_flags
    ∷ (part (codes "  maximum supported sense data length: ") (Number 13 1) ∷ [])
    ∷ []

-- Block Limits, with the limits of commands that a base disk does not have. MAXIMUM ATOMIC TRANSFER LENGTH
-- is a field of SBC-4.
abbrev compare_and_write_length : Line
compare_and_write_length = part (codes "  maximum compare and write: ") (Number 5 1) ∷ []

abbrev atomic_transfer_length : Line
atomic_transfer_length = part (codes "  maximum atomic transfer: ") (Number 44 4) ∷ []

abbrev pub extended_block_limits : List Line
extended_block_limits =
    wsnz ∷ compare_and_write_length ∷ (block_numbers ++ (atomic_transfer_length ∷ []))

-- Block Device Characteristics (SBC-3, vital product data parameters).
abbrev form_factor : Line
form_factor =
    part (codes "  WABEREQ: ") (Bits 7 7 6)
    ∷ part (codes ", WACEREQ: ") (Bits 7 5 4)
    ∷ part (codes ", nominal form factor: ") (Bits 7 3 0)
    ∷ []

abbrev pub block_device_characteristics : List Line
block_device_characteristics =
    (part (codes "  medium rotation rate: ") (Number 4 2) ∷ [])
    ∷ (part (codes "  product type: ") (Code 6 7 0) ∷ [])
    ∷ form_factor
    ∷ (part (codes "  FUAB: ") (Bits 8 1 1) ∷ part (codes ", VBULS: ") (Bits 8 0 0) ∷ [])
    ∷ []

abbrev pub extended_page_body : (code : ℕ) → (bytes : List ℕ) → (end : ℕ) → List Item
extended_page_body code bytes end =
    if code == 0x86 then line_items extended_inquiry_data
    else (if code == 0x87 then entries_from (entry_of ModePagePolicies) 4 bytes
    else (if code == 0x88 then entries_from (entry_of ScsiPorts) 4 bytes
    else (if code == 0xB0 then line_items extended_block_limits
    else (if code == 0xB1 then line_items block_device_characteristics
    else page_body code bytes end))))

-- A page, as an extended disk's script shows it.
abbrev pub extended_vital_product_data : Decoder
extended_vital_product_data = record {
  header = line_items page_header;
  reported_end = λ bytes. 4 + big_number 2 (drop 2 bytes);
  body = λ bytes end. extended_page_body (slice_index bytes 1) bytes end;
}
