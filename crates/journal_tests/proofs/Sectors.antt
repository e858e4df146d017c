-- The lengths of sectors and bodies.
use Rattle.std.proofs.Common.{◌≡◌, ℕ, ◌+◌, ◌≤◌, ◌<◌, Bool, true, ◌&&◌, leb, arith}
use Rattle.std.proofs.lemmas.Bool.{and_parts, leb-true}
use Rattle.std.specs.Int.{is_power_of_two}
use Rattle.sg_journal.specs.Layout.{body_size, is_sector_length}

pub sector_most : (n : ℕ) → is_sector_length n ≡ true → (512 ≤ n) × (n ≤ 65536)
unfolding is_sector_length
sector_most n e =
    let both = and_parts (leb 512 n && leb n 65536) (is_power_of_two n) e in
    let parts = and_parts (leb 512 n) (leb n 65536) both.0 in
    (leb-true 512 n parts.0, leb-true n 65536 parts.1)

pub body_below : (sector count : ℕ) → 0 < sector → body_size sector count < count + 16 + sector
unfolding body_size
body_below sector count some = omega arith
