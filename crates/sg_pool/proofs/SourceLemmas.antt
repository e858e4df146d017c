-- Blocks that are joined.
use Rattle.std.proofs.Common.{◌≡◌, ℕ, ◌+◌, ◌*◌, ◌≤◌, ◌<◌, List, length, drop, arith, length-take, length-drop}
use Rattle.sg_store.specs.Disk.{block_at}

-- a block that is whole ends within the bytes
pub block-within : (bytes : List ℕ) (index : ℕ) → length (block_at bytes index) ≡ 512
    → 512 * index + 512 ≤ length bytes
block-within bytes index e = omega
    (arith, length-take 512 (drop (512 * index) bytes), length-drop (512 * index) bytes)

-- the blocks of bytes of this length are whole
pub blocks-whole : (bytes : List ℕ) (count : ℕ) → length bytes ≡ 512 * count → (index : ℕ)
    → index < count → length (block_at bytes index) ≡ 512
blocks-whole bytes count e index lt =
    omega (arith, length-take 512 (drop (512 * index) bytes), length-drop (512 * index) bytes)
