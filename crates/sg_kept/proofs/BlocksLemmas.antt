-- Blocks that are remapped and written anew, and what that takes of the pool.
use Rattle.std.proofs.Common.{◌≡◌, ◌≤◌, ◌<◌, ℕ, ◌+◌, ◌-◌, ◌*◌, zero, suc, List, [], ◌∷◌}
use Rattle.std.proofs.Common.{take, Some, cond, sym, ap, ap₂, ◌∙◌, arith}
use Rattle.std.specs.FinMap.{get, insert, len}
use Rattle.sg_store.specs.Disk.{Contents, IsWellFormed, Mapping, anchored, block, block_at, blocks}
use Rattle.sg_store.specs.Disk.{data_in, remapped, replaced, written}
use Rattle.sg_store.specs.Disk.Mapping.{Anchored, Data}
use Rattle.sg_store.proofs.DiskLemmas.{inside, remapped-more, remapped-none}
use Rattle.sg_store.proofs.NeedLemmas.{len-needed}
use Rattle.sg_store.proofs.WriteLemmas.{get-remapped}
use Rattle.sg_target.specs.ProvisioningCommands.{changed_in_turn}
use Rattle.sg_target.proofs.CommandLemmas.{first-block}
use Rattle.sg_wire.specs.declared.extent.Extent.{Extent}
use Rattle.sg_changes.proofs.SnapshotLemmas.{block_at-blocks}

-- ---- Remapping

-- only the mappings for the indexes of a range matter
pub remapped-same : (m : Contents) (a k : ℕ) (f g : ℕ → Mapping)
    → ((i : ℕ) → i < k → f i ≡ g i) → remapped m a k f ≡ remapped m a k g
remapped-same m a zero f g h = remapped-none m a f ∙ sym (remapped-none m a g)
remapped-same m a (suc k) f g h =
    let e : suc k ≡ k + 1 = omega arith in
    let rest = remapped-same m a k f g (λ i lt. h i (omega arith)) in
    let last = h k (omega arith) in
    ap (λ n. remapped m a n f) e ∙ remapped-more m a k f
    ∙ ap₂ (λ (c : Contents) (x : Mapping). insert c (a + k) x) rest last
    ∙ sym (remapped-more m a k g) ∙ sym (ap (λ n. remapped m a n g) e)

-- the first bytes, as many as the blocks have, are the same blocks
pub written-first : (m : Contents) (a k : ℕ) (bytes : List ℕ)
    → written m a k (take (512 * k) bytes) ≡ written m a k bytes
written-first m a k bytes =
    remapped-same m a k (λ i. Data (block_at (take (512 * k) bytes) i)) (λ i. Data (block_at bytes i))
    (λ i lt. ap Data (first-block bytes k i lt))

-- after ranges are anchored, no fewer blocks of the pool are used
pub anchored-le : (m : Contents) (extents : List Extent)
    → len m ≤ len (changed_in_turn anchored m extents)
anchored-le m [] = omega arith
anchored-le m (extent ∷ rest) =
    let one = len-needed m extent.lba extent.count (λ i. Anchored) in
    let more = anchored-le (anchored m extent.lba extent.count) rest in
    omega (arith, one, more)

-- ---- Blocks that are written anew

-- the block that a replacement leaves at an index
block-replaced : (m : Contents) (a k : ℕ) (f : ℕ → List ℕ) (i : ℕ) → i < k
    → block (replaced m a k f) (a + i) ≡ f i
block-replaced m a k f i lt =
    let here : a + i - a ≡ i = omega arith in
    ap data_in (get-remapped m a k (λ j. Data (f j)) (a + i)
    ∙ ap (λ b. cond b (Some (Data (f (a + i - a)))) (get m (a + i)))
    (inside a k (a + i) (omega arith) (omega arith)))
    ∙ ap f here

-- blocks are written anew with what they are after a replacement
pub written-replaced : (capacity : ℕ) (m : Contents) (a k : ℕ) (f : ℕ → List ℕ)
    → IsWellFormed capacity (replaced m a k f)
    → written m a k (blocks (replaced m a k f) a k) ≡ replaced m a k f
written-replaced capacity m a k f well =
    let after = replaced m a k f in
    remapped-same m a k (λ i. Data (block_at (blocks after a k) i)) (λ i. Data (f i))
    (λ i lt. ap Data (block_at-blocks capacity after well a k i lt ∙ block-replaced m a k f i lt))
