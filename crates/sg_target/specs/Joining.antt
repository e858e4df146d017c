-- Ranges of addresses that are joined.
use Rattle.std.specs.Prelude.{◌≡◌, ℕ, ◌+◌, ◌-◌, ◌≤◌, min, max, Bool, true, false, ◌||◌, nat_lt}
use Rattle.std.specs.Prelude.{if◌then◌else◌, List, [], ◌∷◌, length, Option, Some, None}
use Rattle.std.specs.List.{list_any}
use Rattle.sg_store.specs.Disk.{lies_in}
use Rattle.sg_target.specs.declared.joining.AddressRange.{AddressRange}
use Rattle.sg_wire.specs.declared.extent.Extent.{Extent}

abbrev pub range_of : Extent → AddressRange
range_of extent = record { lba = extent.lba; count = extent.count }

abbrev pub end_of : AddressRange → ℕ
end_of range = range.lba + range.count

-- An address lies in a range, or in one of several.
abbrev pub covers : (address : ℕ) → AddressRange → Bool
covers address range = lies_in range.lba range.count address

abbrev pub lies_in_some : List AddressRange → (address : ℕ) → Bool
lies_in_some ranges address = list_any (covers address) ranges

abbrev pub AreWithin : (capacity : ℕ) → List AddressRange → Type 0
AreWithin capacity [] = Unit {0}
AreWithin capacity (range ∷ ranges) = (end_of range ≤ capacity) × AreWithin capacity ranges

-- No address lies in two of the ranges.
abbrev pub AreDisjoint : List AddressRange → Type 0
AreDisjoint [] = Unit {0}
AreDisjoint (range ∷ ranges) =
    ((address : ℕ) → covers address range ≡ true → lies_in_some ranges address ≡ false)
    × AreDisjoint ranges

-- A cost of ranges, by their first address and their count. Two ranges that overlap or touch cost
-- no more together if they are joined.
abbrev pub Cost : Type 0
Cost = ℕ → ℕ → ℕ

abbrev pub IsSubadditive : Cost → Type 0
IsSubadditive cost = (lba count offset more : ℕ) → offset ≤ count
    → cost lba (max count (offset + more)) ≤ cost lba count + cost (lba + offset) more

abbrev pub cost_of : Cost → List AddressRange → ℕ
cost_of cost [] = 0
cost_of cost (range ∷ ranges) = cost range.lba range.count + cost_of cost ranges

-- Two ranges as one, unless there is an address between them.
abbrev pub both : AddressRange → AddressRange → AddressRange
both range other = let lba = min range.lba other.lba in
    record { lba = lba; count = max (end_of range) (end_of other) - lba }

abbrev pub joined_if_near : AddressRange → AddressRange → Option AddressRange
joined_if_near range other =
    if nat_lt (end_of range) other.lba || nat_lt (end_of other) range.lba
    then None else Some (both range other)

-- The same addresses, each in only one range. No cost of that kind has risen.
pub record AreJoined (ranges joined : List AddressRange) : Type 0 where
  pub same : (address : ℕ) → lies_in_some joined address ≡ lies_in_some ranges address
  pub disjoint : AreDisjoint joined
  pub cheaper : (cost : Cost) → IsSubadditive cost → cost_of cost joined ≤ cost_of cost ranges
  pub within : (capacity : ℕ) → AreWithin capacity ranges → AreWithin capacity joined
  pub count : length joined ≤ length ranges
