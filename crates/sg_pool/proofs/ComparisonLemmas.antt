-- Bytes beside other bytes, and blocks beside those of a source.
use Rattle.std.proofs.Common.{◌≡◌, ℕ, ◌+◌, ◌-◌, ◌*◌, ◌<◌, ◌++◌, ◌∷◌, [], zero, suc, List, length, take}
use Rattle.std.proofs.Common.{Bool, true, false, cond, not, ◌==◌, ap, ap₂, sym, refl, ◌∙◌, arith}
use Rattle.std.proofs.Common.{Bor, length-append, replicate}
use Rattle.std.specs.Prelude.{Option, Some, None, option_map, Ok, Err}
use Rattle.std.specs.List.{concat, flat_map, position_from, range_with_len, zip}
use Rattle.std.proofs.lemmas.Bool.Decides.{Decides-eqb}
use Rattle.std.proofs.lemmas.Iterator.Adapters.{position_from-zero}
use Rattle.std.proofs.lemmas.List.{append-nil, flat_map_more, replicate_more, take_all}
use Rattle.std.proofs.lemmas.List.Folds.{concat-append}
use Rattle.std.proofs.Math.Seq.{take-add}
use Rattle.sg_store.specs.Comparison.{compared, compared_by, first_difference, repeated}
use Rattle.sg_store.specs.Disk.{Contents, block, block_at, blocks}
use Rattle.sg_store.specs.declared.store.Miscompare.{Miscompare}
use Rattle.sg_store.proofs.ComparisonLemmas.{equal, from, is-from, none-same, same-none}
use Rattle.sg_store.proofs.DiskLemmas.{blocks-more, range-more}
use Rattle.sg_pool.specs.Comparison.{compared_at}
use Rattle.sg_pool.specs.Source.{HasBlocks, block_of, joined_blocks}
use Rattle.sg_pool.specs.declared.source.Source.{Source}
use Rattle.sg_pool.specs.declared.source.Source.TheVariants.{Joined, Repeated}

-- ---- The first difference

from-after : (zs xs ys : List ℕ) (i : ℕ) → from i (zs ++ xs) (zs ++ ys) ≡ from (i + length zs) xs ys
from-after [] xs ys i = let e : i ≡ i + 0 = omega arith in ap (λ j. from j xs ys) e
from-after (z ∷ zs) xs ys i =
    let e : i + 1 + length zs ≡ i + length (z ∷ zs) = omega arith in
    ap (λ b. cond (not b) (Some i) (from (i + 1) (zs ++ xs) (zs ++ ys))) (equal z)
    ∙ from-after zs xs ys (i + 1) ∙ ap (λ j. from j xs ys) e

shift_step : (b : Bool) (n m : Option ℕ) (i j : ℕ) → n ≡ option_map (λ o. j + o) m
    → cond b (Some (j + i)) n ≡ option_map (λ o. j + o) (cond b (Some i) m)
shift_step true n m i j e = refl
shift_step false n m i j e = e

from-shift : (xs ys : List ℕ) (i j : ℕ) → from (j + i) xs ys ≡ option_map (λ o. j + o) (from i xs ys)
from-shift [] ys i j = refl
from-shift (x ∷ xs) [] i j = refl
from-shift (x ∷ xs) (y ∷ ys) i j =
    let e : j + i + 1 ≡ j + (i + 1) = omega arith in
    shift_step (not (x == y)) (from (j + i + 1) xs ys) (from (i + 1) xs ys) i j
    (ap (λ k. from k xs ys) e ∙ from-shift xs ys (i + 1) j)

some_step : (b : Bool) (m n : Option ℕ) (i o : ℕ) → (m ≡ Some o → n ≡ Some o)
    → cond b (Some i) m ≡ Some o → cond b (Some i) n ≡ Some o
some_step true m n i o h e = e
some_step false m n i o h e = h e

from-some : (xs ys us vs : List ℕ) (i o : ℕ) → from i xs ys ≡ Some o
    → from i (xs ++ us) (ys ++ vs) ≡ Some o
from-some [] ys us vs i o e = cc
from-some (x ∷ xs) [] us vs i o e = cc
from-some (x ∷ xs) (y ∷ ys) us vs i o e =
    some_step (not (x == y)) (from (i + 1) xs ys) (from (i + 1) (xs ++ us) (ys ++ vs)) i o
    (from-some xs ys us vs (i + 1) o) e

-- the difference comes after bytes that are the same
after-same : (zs xs ys : List ℕ) → first_difference (zs ++ xs) (zs ++ ys)
    ≡ option_map (λ o. length zs + o) (first_difference xs ys)
after-same zs xs ys =
    let e : 0 + length zs ≡ length zs + 0 = omega arith in
    is-from (zs ++ xs) (zs ++ ys) ∙ from-after zs xs ys 0 ∙ ap (λ j. from j xs ys) e
    ∙ from-shift xs ys 0 (length zs) ∙ ap (option_map (λ o. length zs + o)) (sym (is-from xs ys))

-- later bytes change nothing
err_step : (m n : Option ℕ) (e : Miscompare) → ((o : ℕ) → m ≡ Some o → n ≡ Some o)
    → compared_by m ≡ Err e → compared_by n ≡ Err e
err_step None n e h is = cc
err_step (Some o) n e h is = ap compared_by (h o refl) ∙ is

err-append : (xs ys us vs : List ℕ) (e : Miscompare) → compared xs ys ≡ Err e
    → compared (xs ++ us) (ys ++ vs) ≡ Err e
err-append xs ys us vs e is =
    err_step (first_difference xs ys) (first_difference (xs ++ us) (ys ++ vs)) e
    (λ o some. is-from (xs ++ us) (ys ++ vs)
    ∙ from-some xs ys us vs 0 o (sym (is-from xs ys) ∙ some)) is

-- ---- The blocks of a source

pub joined-none : (source : Source) → joined_blocks source 0 ≡ []
unfolding joined_blocks
joined-none source = refl

pub joined-more : (source : Source) (k : ℕ)
    → joined_blocks source (k + 1) ≡ joined_blocks source k ++ block_of source k
unfolding joined_blocks
joined-more source k =
    let e : 0 + k ≡ k = omega arith in
    ap (flat_map (block_of source)) (range-more 0 k)
    ∙ sym (flat_map_more (block_of source) [] (range_with_len 0 k) (0 + k))
    ∙ ap (λ j. flat_map (block_of source) (range_with_len 0 k) ++ block_of source j) e

length-joined : (source : Source) (k : ℕ) → HasBlocks source k
    → length (joined_blocks source k) ≡ 512 * k
length-joined source zero h = ap length (joined-none source)
length-joined source (suc k) h =
    let e : suc k ≡ k + 1 = omega arith in
    rw e (ap length (joined-more source k)
    ∙ length-append (joined_blocks source k) (block_of source k)
    ∙ omega (arith, length-joined source k (λ j lt. h j (omega arith)), h k (omega arith)))

-- ---- Comparing blocks in turn

-- blocks that are the same have no difference
pub compared-same : (xs ys : List ℕ) → xs ≡ ys → Ok tt ≡ compared xs ys
compared-same xs ys e = ap compared_by (sym (same-none xs)) ∙ ap (compared xs) e

-- the blocks up to an address are the same, and the block there differs: this decides
err-here : (contents : Contents) (source : Source) (lba i : ℕ) (e : Miscompare)
    → HasBlocks source i → blocks contents lba i ≡ joined_blocks source i
    → compared_at source i (block contents (lba + i)) ≡ Err e
    → compared (blocks contents lba (i + 1)) (joined_blocks source (i + 1)) ≡ Err e
err-here contents source lba i e h same is =
    let zs = joined_blocks source i in
    let b = block contents (lba + i) in
    let c = block_of source i in
    ap₂ (λ xs ys. compared xs ys)
    (blocks-more contents lba i ∙ ap (λ xs. xs ++ b) same) (joined-more source i)
    ∙ ap compared_by (after-same zs b c)
    ∙ ap (λ n. compared_by (option_map (λ o. n + o) (first_difference b c))) (length-joined source i h)
    ∙ is

err-later : (contents : Contents) (source : Source) (lba i d : ℕ) (e : Miscompare)
    → compared (blocks contents lba i) (joined_blocks source i) ≡ Err e
    → compared (blocks contents lba (i + d)) (joined_blocks source (i + d)) ≡ Err e
err-later contents source lba i zero e is = let n : i + 0 ≡ i = omega arith in rw n is
err-later contents source lba i (suc d) e is =
    let n : i + suc d ≡ i + d + 1 = omega arith in
    let k = i + d in
    rw n (ap₂ (λ xs ys. compared xs ys) (blocks-more contents lba k) (joined-more source k)
    ∙ err-append (blocks contents lba k) (joined_blocks source k) (block contents (lba + k))
    (block_of source k) e (err-later contents source lba i d e is))

pub compared-differs : (contents : Contents) (source : Source) (lba i count : ℕ) (e : Miscompare)
    → i < count → HasBlocks source count → blocks contents lba i ≡ joined_blocks source i
    → compared_at source i (block contents (lba + i)) ≡ Err e
    → Err e ≡ compared (blocks contents lba count) (joined_blocks source count)
compared-differs contents source lba i count e lt h same is =
    let n : count ≡ i + 1 + (count - (i + 1)) = omega arith in
    rw n (sym (err-later contents source lba (i + 1) (count - (i + 1)) e
    (err-here contents source lba i e (λ j less. h j (omega arith)) same is)))

-- one block more is the same
pub same-more : (contents : Contents) (source : Source) (lba i : ℕ)
    → blocks contents lba i ≡ joined_blocks source i → block contents (lba + i) ≡ block_of source i
    → blocks contents lba (i + 1) ≡ joined_blocks source (i + 1)
same-more contents source lba i same e =
    blocks-more contents lba i ∙ ap₂ (λ xs ys. xs ++ ys) same e ∙ sym (joined-more source i)

-- ---- The two sources

-- blocks that are joined are the bytes
at-joined : (bytes : List ℕ) (k : ℕ) → flat_map (block_at bytes) (range_with_len 0 k) ≡ take (512 * k) bytes
at-joined bytes zero = refl
at-joined bytes (suc k) =
    let n : suc k ≡ k + 1 = omega arith in
    let e : 0 + k ≡ k = omega arith in
    let m : 512 * k + 512 ≡ 512 * suc k = omega arith in
    ap (λ j. flat_map (block_at bytes) (range_with_len 0 j)) n
    ∙ (ap (flat_map (block_at bytes)) (range-more 0 k)
    ∙ sym (flat_map_more (block_at bytes) [] (range_with_len 0 k) (0 + k))
    ∙ ap₂ (λ xs j. xs ++ block_at bytes j) (at-joined bytes k) e
    ∙ sym (take-add (512 * k) 512 bytes)) ∙ ap (λ j. take j bytes) m

-- one block is joined again and again
one-joined : (given : List ℕ) (k : ℕ)
    → flat_map (λ (index : ℕ). given) (range_with_len 0 k) ≡ concat (replicate k given)
one-joined given zero = refl
one-joined given (suc k) =
    let n : suc k ≡ k + 1 = omega arith in
    ap (λ j. flat_map (λ (index : ℕ). given) (range_with_len 0 j)) n
    ∙ (ap (flat_map (λ (index : ℕ). given)) (range-more 0 k)
    ∙ sym (flat_map_more (λ (index : ℕ). given) [] (range_with_len 0 k) (0 + k))
    ∙ ap (λ xs. xs ++ given) (one-joined given k)
    ∙ sym (ap concat (sym (replicate_more k given)) ∙ concat-append (replicate k given) (given ∷ [])
    ∙ ap (λ xs. concat (replicate k given) ++ xs) (append-nil given)))
    ∙ ap (λ j. concat (replicate j given)) (sym n)

pub joined-bytes : (bytes : Bor (List ℕ)) (count : ℕ) → length bytes.now ≡ 512 * count
    → joined_blocks (Joined bytes) count ≡ bytes.now
unfolding joined_blocks
joined-bytes bytes count e = at-joined bytes.now count ∙ take_all (512 * count) bytes.now (omega (arith, e))

pub joined-repeated : (given : Bor (List ℕ)) (count : ℕ)
    → joined_blocks (Repeated given) count ≡ repeated count given.now
unfolding joined_blocks repeated
joined-repeated given count = one-joined given.now count
