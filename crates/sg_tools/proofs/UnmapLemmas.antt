-- Extents of addresses and counts.
use Rattle.std.proofs.Common.{◌≡◌, ◌≤◌, ◌<◌, ◌+◌, ◌-◌, ◌^◌, ℕ, zero, suc, List, [], ◌∷◌, ◌++◌}
use Rattle.std.proofs.Common.{length, take, get_or, Bool, true, false, cond, Option, Some, None}
use Rattle.std.proofs.Common.{codes, nat_le, refl, sym, ap, ◌∙◌, arith}
use Rattle.std.specs.Prelude.{◌==◌}
use Rattle.std.proofs.lemmas.List.{take_all}
use Rattle.clap.specs.Words.{Row}
use Rattle.sg_tools.specs.GivenOptions.{is_set, text_of}
use Rattle.sg_tools.specs.NumberList.{ReadsList}
use Rattle.sg_tools.specs.declared.number_list.NumberList.{NumberList}
use Rattle.std.proofs.lemmas.Grind.{common_steps}
use Rattle.std.proofs.lemmas.Bool.Decides.{nat_tests}
use Rattle.sg_tools.specs.Requests.{paired, sg_unmap, unmap}
use Rattle.sg_tools.specs.Number.{at_most, number_of, number_up_to}
use Rattle.sg_tools.specs.OptionTexts.{all_values, prepend, entries, numbers_up_to, value_or}
use Rattle.sg_wire.specs.declared.extent.Extent.{Extent}

-- one more extent
pub paired_more : (xs ys : List ℕ) (k : ℕ) → k < length xs → k < length ys
    → paired (take (k + 1) xs) (take (k + 1) ys) ≡ paired (take k xs) (take k ys)
    ++ (record { lba = get_or xs k 0; count = get_or ys k 0 } ∷ [])
paired_more [] ys k more also = absurd (omega arith)
paired_more (x ∷ xs) [] k more also = absurd (omega arith)
paired_more (x ∷ xs) (y ∷ ys) zero more also = refl
paired_more (x ∷ xs) (y ∷ ys) (suc k) more also =
    let next : suc k + 1 ≡ suc (k + 1) = omega arith in
    rw next (ap (λ t. record { lba = x; count = y } ∷ t) (paired_more xs ys k (omega arith)
    (omega arith)))

-- ---- the numbers of a list are within its bound

by_test : (most n m : ℕ) (b : Bool) → nat_le m most ≡ b
    → cond {A = Option ℕ} b (Some m) None ≡ Some n → n ≤ most
by_test most n m true test e =
    let same : m ≡ n = cc in
    let within : m ≤ most = grind (arith, nat_tests) in
    omega arith
by_test most n m false test e = absurd cc

at_most-within : (most n : ℕ) (r : Option ℕ) → at_most most r ≡ Some n → n ≤ most
at_most-within most n None e = absurd cc
at_most-within most n (Some m) e = by_test most n m (nat_le m most) refl e

prepend-within : (most : ℕ) (r : Option ℕ) (rs : Option (List ℕ)) (ns : List ℕ) (k : ℕ)
    → ((n : ℕ) → r ≡ Some n → n ≤ most) → ((ms : List ℕ) (j : ℕ) → rs ≡ Some ms
    → get_or ms j 0 ≤ most)
    → prepend r rs ≡ Some ns → get_or ns k 0 ≤ most
prepend-within most None rs ns k first rest e = absurd cc
prepend-within most (Some n) None ns k first rest e = absurd cc
prepend-within most (Some n) (Some ms) [] k first rest e = absurd cc
prepend-within most (Some n) (Some ms) (x ∷ xs) zero first rest e =
    let same : n ≡ x = cc in
    rw (← same) (first n refl)
prepend-within most (Some n) (Some ms) (x ∷ xs) (suc k) first rest e =
    let same : ms ≡ xs = cc in
    rw (← same) (rest ms k refl)

all_within : (most : ℕ) (texts : List (List ℕ)) (ns : List ℕ) (k : ℕ)
    → all_values (number_up_to most) texts ≡ Some ns → get_or ns k 0 ≤ most
all_within most [] [] k e = omega arith
all_within most [] (n ∷ ns) k e = absurd cc
all_within most (text ∷ texts) ns k e =
    prepend-within most (number_up_to most text) (all_values (number_up_to most) texts) ns k
    (λ n f. at_most-within most n (number_of text) f) (λ ms j f. all_within most texts ms j f) e

pub list_within : (most : ℕ) (text ns : List ℕ) (k : ℕ) → numbers_up_to most text ≡ Some ns
    → get_or ns k 0 ≤ most
unfolding numbers_up_to
list_within most text ns k e = all_within most (entries text) ns k e

pub pushed : (old new : List Extent) (e : Extent) → new ≡ old ++ (e ∷ [])
    → length new ≡ length old + 1
pushed old new e same = ap length same ∙ grind (arith, common_steps)

-- ---- two lists that are read

read_some : (r : Option (List ℕ)) (n : NumberList) → ReadsList r (Some n) → n.count ≤ 64
    → (r ≡ Some n.first.items) × (length n.first.items ≡ n.count)
read_some None n h few = absurd h
read_some (Some all) n h few =
    let short : length all ≤ 64 = let count = h.count in omega arith in
    let whole : n.first.items ≡ all = h.first ∙ take_all 64 all short in
    (ap (λ (xs : List ℕ). Some xs) (sym whole), ap length whole ∙ sym h.count)

pub record BothRead (a b : Option (List ℕ)) (lbas counts : List ℕ) : Type 0 where
  pub lbas_are : a ≡ Some lbas
  pub counts_are : b ≡ Some counts
  pub equal : length lbas ≡ length counts
  pub most : length lbas ≤ 64

pub both_read : (a b : Option (List ℕ)) (r q : Option NumberList) (m n : NumberList) → ReadsList a r
    → ReadsList b q → r ≡ Some m → q ≡ Some n → m.count ≡ n.count → m.count ≤ 64
    → BothRead a b m.first.items n.first.items
both_read a b r q m n h k e f same few =
    let x = read_some a m (rw e at h) few in
    let y = read_some b n (rw f at k) (omega arith) in
    record {
      lbas_are = x.0;
      counts_are = y.0;
      equal = x.1 ∙ same ∙ sym y.1;
      most =
          omega (arith, x.1);
    }

pub unmap_is : (rows : List Row) (lba num : List ℕ) (lbas counts : List ℕ) (group : ℕ)
    → text_of (codes "lba") rows ≡ Some lba → text_of (codes "num") rows ≡ Some num
    → BothRead (numbers_up_to (2 ^ 64 - 1) lba) (numbers_up_to (2 ^ 32 - 1) num) lbas counts
    → value_or 0 (number_up_to 31) (text_of (codes "grpnum") rows) ≡ Some group → sg_unmap rows
    ≡ unmap (is_set (codes "anchor") rows) group (paired lbas counts)
unmap_is rows lba num lbas counts group at_lba at_num both at_group =
    let same : (length lbas == length counts) ≡ true = let e = both.equal in grind
    (arith, nat_tests) in
    let few : nat_le (length lbas) 64 ≡ true = let e = both.most in grind (arith, nat_tests) in
    rw (at_lba, at_num, both.lbas_are, both.counts_are, at_group, same, few) refl
