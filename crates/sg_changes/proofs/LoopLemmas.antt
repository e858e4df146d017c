-- Values that a loop reads, one after another.
use Rattle.std.proofs.Common.{◌≡◌, ℕ, suc, ◌+◌, ◌-◌, ◌<◌, ◌≤◌, List, [], ◌∷◌, ◌++◌, Option, Some, None}
use Rattle.std.proofs.Common.{refl, sym, ap, ◌∙◌, arith, append_assoc}
use Rattle.std.proofs.lemmas.List.{append-nil}
use Rattle.sg_changes.specs.Format.{Format, ◌>>=◌, many_at}

-- what was read before, and what is still read
abbrev pub with_front : {X : Type 0} → List X → Option (List X × List ℕ) → Option (List X × List ℕ)
with_front front read = read >>= λ x. Some (front ++ x.0, x.1)

module _ {X : Type 0} (format : Format X) where
  regroup : (front : List X) (x : X) (read : Option (List X × List ℕ))
      → with_front front (read >>= λ xs. Some (x ∷ xs.0, xs.1)) ≡ with_front (front ++ x ∷ []) read
  regroup front x None = refl
  regroup front x (Some xs) =
      ap (λ (ys : List X). Some (ys, xs.1)) (sym (append_assoc front (x ∷ []) xs.0))

  pub goes_on : (front : List X) (n i : ℕ) (bytes : List ℕ) (x : X) (after : List ℕ)
      (total : Option (List X × List ℕ)) → i < n → format.at bytes ≡ Some (x, after)
      → with_front front (many_at format (n - i) bytes) ≡ total
      → with_front (front ++ x ∷ []) (many_at format (n - (i + 1)) after) ≡ total
  unfolding many_at
  goes_on front n i bytes x after total lt read so_far =
      let k : n - i ≡ suc (n - (i + 1)) = omega arith in
      let one : with_front front (many_at format (n - i) bytes)
      ≡ with_front (front ++ x ∷ []) (many_at format (n - (i + 1)) after) =
      rw (k, read) (regroup front x (many_at format (n - (i + 1)) after)) in
      sym one ∙ so_far

  pub ends : (front : List X) (n i : ℕ) (bytes : List ℕ) (total : Option (List X × List ℕ)) → i < n
      → format.at bytes ≡ None → with_front front (many_at format (n - i) bytes) ≡ total → total ≡ None
  unfolding many_at
  ends front n i bytes total lt read so_far =
      let k : n - i ≡ suc (n - (i + 1)) = omega arith in
      let one : with_front front (many_at format (n - i) bytes) ≡ None = rw (k, read) refl in
      sym so_far ∙ one

  pub is_done : (front : List X) (n i : ℕ) (bytes : List ℕ) (total : Option (List X × List ℕ)) → n ≤ i
      → with_front front (many_at format (n - i) bytes) ≡ total → total ≡ Some (front, bytes)
  unfolding many_at
  is_done front n i bytes total le so_far =
      let k : n - i ≡ 0 = omega arith in
      let one : with_front front (many_at format (n - i) bytes) ≡ Some (front, bytes) =
      rw k (ap (λ (xs : List X). Some (xs, bytes)) (append-nil front)) in
      sym so_far ∙ one
