-- The bytes of an extent of blocks.
use Rattle.std.specs.Prelude.{Some}
use Rattle.sg_wire.specs.declared.extent.Extent.{Extent}
use Rattle.sg_changes.specs.Format.{Format, number, pair, coded}

-- LBA 8, COUNT 4.
unfoldable pub extent : Format Extent
extent =
    coded (λ p. Some (record { lba = p.0; count = p.1 })) (λ (e : Extent). Some (e.lba, e.count))
    (pair (number 8) (number 4))
