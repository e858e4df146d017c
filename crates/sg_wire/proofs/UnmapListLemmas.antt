-- The parameter list of UNMAP reads back as it was written.
use Rattle.std.proofs.Common.{◌≡◌, ◌≤◌, ◌<◌, ◌+◌, ◌*◌, ◌^◌, ℕ, zero, suc, List, [], ◌∷◌, ◌++◌}
use Rattle.std.proofs.Common.{length, drop, take, get_or, false, Ok, refl, ap, sym, ◌∙◌, arith}
use Rattle.std.specs.Prelude.{nat_lt, ◌==◌}
use Rattle.std.specs.List.{flat_map}
use Rattle.std.proofs.lemmas.List.{drop_more, drop-drop, take_more, take_all, flat_map_more}
use Rattle.std.proofs.lemmas.List.FromFn.{fill_by_all}
use Rattle.std.proofs.lemmas.Bool.Decides.{nat_tests}
use Rattle.byteorder.specs.Endian.{big_bytes, big_number}
use Rattle.byteorder.specs.Numbers.{big_number-reads_back}
use Rattle.sg_wire.specs.CutAnswer.{CutAnswer, put}
use Rattle.sg_wire.specs.UnmapList.{descriptor_at, descriptor_count, unmap_list}
use Rattle.sg_wire.specs.UnmapListBytes.{unmap_descriptor, unmap_header, unmap_list_bytes}
use Rattle.sg_wire.specs.declared.extent.Extent.{Extent}
use Rattle.sg_wire.proofs.CutLemmas.{put-put}

-- ---- The descriptors that are put in turn

-- an extent whose fields fit into their bytes
pub record Fits (extent : Extent) : Type 0 where
  pub lba : extent.lba < 2 ^ 64
  pub count : extent.count < 2 ^ 32

abbrev pub AllFit : List Extent → Type 0
AllFit [] = Unit {0}
AllFit (extent ∷ rest) = Fits extent × AllFit rest

fit-more : (extents : List Extent) (last : Extent) → AllFit extents → Fits last
    → AllFit (extents ++ last ∷ [])
fit-more [] last all fits = (fits, tt)
fit-more (first ∷ rest) last all fits = (all.0, fit-more rest last all.1 fits)

fits-at : (extents : List Extent) (k : ℕ) (d : Extent) → AllFit extents → k < length extents
    → Fits (get_or extents k d)
fits-at [] k d all within = absurd (omega arith)
fits-at (first ∷ rest) zero d all within = all.0
fits-at (first ∷ rest) (suc k) d all within = fits-at rest k d all.1 (omega arith)

pub fit-next : (extents : List Extent) (k : ℕ) (d : Extent) → k < length extents
    → AllFit (take k extents) → Fits (get_or extents k d) → AllFit (take (k + 1) extents)
fit-next extents k d within all fits =
    rw (take_more extents k d within) (fit-more (take k extents) (get_or extents k d) all fits)

pub all-fit : (extents : List Extent) (k : ℕ) → length extents ≤ k → AllFit (take k extents)
    → AllFit extents
all-fit extents k le fit = rw (take_all k extents le) at fit

-- one descriptor more is put
pub descriptor-put : (old before after : CutAnswer) (header bytes : List ℕ) (extents : List Extent)
    (k : ℕ) (d : Extent) → before ≡ put old (header ++ flat_map unmap_descriptor (take k extents))
    → after ≡ put before bytes → bytes ≡ unmap_descriptor (get_or extents k d) → k < length extents
    → after ≡ put old (header ++ flat_map unmap_descriptor (take (k + 1) extents))
descriptor-put old before after header bytes extents k d so_far now is within =
    let all = header ++ flat_map unmap_descriptor (take k extents) in
    now ∙ ap (λ b. put b bytes) so_far ∙ put-put old all bytes ∙ ap (λ b. put old (all ++ b)) is
    ∙ ap (put old) (flat_map_more unmap_descriptor header (take k extents) (get_or extents k d)
    ∙ ap (λ xs. header ++ flat_map unmap_descriptor xs) (sym (take_more extents k d within)))

pub all-put : (old after : CutAnswer) (extents : List Extent) (k : ℕ)
    → after ≡ put old (unmap_header (length extents) ++ flat_map unmap_descriptor (take k extents))
    → length extents ≤ k → after ≡ put old (unmap_list_bytes extents)
unfolding unmap_list_bytes
all-put old after extents k so_far le = so_far
    ∙ ap (λ xs. put old (unmap_header (length extents) ++ flat_map unmap_descriptor xs))
    (take_all k extents le)

-- ---- The descriptors that are read

abbrev each : List Extent → List ℕ
each extents = flat_map unmap_descriptor extents

past : (extents : List Extent) (k : ℕ) → k ≤ length extents
    → drop (16 * k) (each extents) ≡ each (drop k extents)
past extents zero few = refl
past [] (suc k) few = absurd (omega arith)
past (extent ∷ extents) (suc k) few =
    let next : 16 * suc k ≡ 16 + 16 * k = omega arith in
    ap (λ n. drop n (each (extent ∷ extents))) next
    ∙ sym (drop-drop (16 * k) 16 (each (extent ∷ extents))) ∙ past extents k (omega arith)

each_long : (extents : List Extent) → length (each extents) ≡ 16 * length extents
each_long [] = refl
each_long (extent ∷ extents) = let rest = each_long extents in omega (arith, rest)

pub bytes-long : (extents : List Extent) → length (unmap_list_bytes extents) ≡ 8 + 16 * length extents
unfolding unmap_list_bytes
bytes-long extents = let rest = each_long extents in omega (arith, rest)

module _ (extents : List Extent) (k : ℕ) (d : Extent) (within : k < length extents) where
  abbrev here : Extent
  here = get_or extents k d

  from_here : drop (8 + 16 * k) (unmap_list_bytes extents)
      ≡ unmap_descriptor here ++ each (drop (k + 1) extents)
  unfolding unmap_list_bytes
  from_here =
      sym (drop-drop (16 * k) 8 (unmap_list_bytes extents)) ∙ past extents k (omega arith)
      ∙ ap each (drop_more extents k d within)

  lba-at : here.lba < 2 ^ 64 → big_number 8 (drop (8 + 16 * k) (unmap_list_bytes extents)) ≡ here.lba
  lba-at small =
      ap (big_number 8) from_here
      ∙ big_number-reads_back 8 here.lba (big_bytes 4 here.count ++ 0 ∷ 0 ∷ 0 ∷ 0 ∷ each
      (drop (k + 1) extents)) small

  count-at : here.count < 2 ^ 32
      → big_number 4 (drop (8 + 16 * k + 8) (unmap_list_bytes extents)) ≡ here.count
  count-at small =
      ap (big_number 4) (sym (drop-drop 8 (8 + 16 * k) (unmap_list_bytes extents))
      ∙ ap (drop 8) from_here)
      ∙ big_number-reads_back 4 here.count (0 ∷ 0 ∷ 0 ∷ 0 ∷ each (drop (k + 1) extents)) small

  reads-at : Fits here → descriptor_at (unmap_list_bytes extents) k ≡ here
  unfolding descriptor_at
  reads-at fits = rw (lba-at fits.lba, count-at fits.count) refl

counted : (extents : List Extent) → length extents ≤ 64
    → descriptor_count (unmap_list_bytes extents) ≡ length extents
unfolding descriptor_count unmap_list_bytes
counted extents few =
    let n = length extents in
    let counted_bytes : big_number 2 (drop 2 (unmap_list_bytes extents)) ≡ 16 * n =
    big_number-reads_back 2 (16 * n) (0 ∷ 0 ∷ 0 ∷ 0 ∷ each extents) (omega arith) in
    let all = bytes-long extents in
    rw (counted_bytes, all) (omega arith)

pub reads_back-unmap_list : (extents : List Extent) → length extents ≤ 64 → AllFit extents
    → unmap_list (unmap_list_bytes extents) ≡ Ok extents
unfolding unmap_list
reads_back-unmap_list extents few all =
    let n = length extents in
    let bytes = unmap_list_bytes extents in
    let whole = bytes-long extents in
    let some : (length bytes == 0) ≡ false = grind (arith, nat_tests) in
    let header : nat_lt (length bytes) 8 ≡ false = grind (arith, nat_tests) in
    let count = counted extents few in
    let within : nat_lt 64 n ≡ false = grind (arith, nat_tests) in
    rw (some, header, count, within)
    (ap (λ read. Ok read)
    (sym (fill_by_all (descriptor_at bytes) extents n (descriptor_at bytes 0) refl
    (λ k inside. sym (reads-at extents k (descriptor_at bytes 0) inside
    (fits-at extents k (descriptor_at bytes 0) all inside))))))
