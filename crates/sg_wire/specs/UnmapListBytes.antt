-- The bytes of the parameter list of UNMAP, as they are written (SBC-3, 5.28.2).
use Rattle.std.specs.Prelude.{ℕ, ◌-◌, ◌*◌, List, ◌++◌, length, replicate}
use Rattle.std.specs.List.{flat_map}
use Rattle.byteorder.specs.Endian.{big_bytes}
use Rattle.sg_wire.specs.declared.extent.Extent.{Extent}
use Rattle.sg_wire.specs.UnmapList.{unmap_descriptor_length, unmap_list_length}

-- UNMAP DATA LENGTH is in bytes 0 and 1, and counts what follows it. UNMAP BLOCK DESCRIPTOR DATA
-- LENGTH is in bytes 2 and 3. Four reserved bytes follow.
abbrev pub unmap_header : (descriptors : ℕ) → List ℕ
unmap_header descriptors =
    let data_length = unmap_list_length descriptors - 2 in
    let descriptor_data_length = unmap_descriptor_length * descriptors in
    (big_bytes 2 data_length ++ big_bytes 2 descriptor_data_length) ++ replicate 4 0

-- UNMAP LOGICAL BLOCK ADDRESS in bytes 0 to 7, NUMBER OF LOGICAL BLOCKS in bytes 8 to 11, and four
-- reserved bytes.
abbrev pub unmap_descriptor : Extent → List ℕ
unmap_descriptor extent = (big_bytes 8 extent.lba ++ big_bytes 4 extent.count) ++ replicate 4 0

unfoldable pub unmap_list_bytes : List Extent → List ℕ
unmap_list_bytes extents = unmap_header (length extents) ++ flat_map unmap_descriptor extents
