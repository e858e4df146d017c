-- The length of a physical block (SBC-3, 4.6).
use Rattle.std.specs.Prelude.{ℕ, ◌^◌}
use Rattle.sg_pages.specs.declared.physical_block.PhysicalBlock.{PhysicalBlock}
use Rattle.sg_pages.specs.declared.physical_block.PhysicalBlock.TheVariants.{Of512, Of4096}

-- A physical block has 2 ^ exponent logical blocks of 512 bytes each.
abbrev pub exponent_of : PhysicalBlock → ℕ
exponent_of Of512 = 0
exponent_of Of4096 = 3

abbrev pub blocks_in : PhysicalBlock → ℕ
blocks_in physical = 2 ^ exponent_of physical
