-- The records of changes are an exact format.
use Rattle.std.proofs.Common.{◌≡◌, ℕ, ◌<◌, ◌*◌, List, length, Some, refl, sym, subst}
use Rattle.sg_store.specs.Disk.{block_length}
use Rattle.sg_changes.specs.Change.{Change}
use Rattle.sg_changes.specs.Change.Change.{Write, Fill, Unmap, Anchor, Pages, Reservations, Faults, Grow}
use Rattle.sg_changes.specs.ExtentFormat.{extent}
use Rattle.sg_changes.specs.FaultFormat.{faults}
use Rattle.sg_changes.specs.Format.{Format, IsExact, number, pair, plain}
use Rattle.sg_changes.specs.Records.{capacity, change, change_at, fields_at, fill, is_possible, pages, range}
use Rattle.sg_changes.specs.Records.{record_of, write}
use Rattle.sg_changes.specs.ReservationFormat.{reservations}
use Rattle.sg_changes.proofs.FaultLemmas.{faults_exact}
use Rattle.sg_changes.proofs.FieldLemmas.{extent_exact, renamed_exact, reservations_exact}
use Rattle.sg_changes.proofs.FormatLemmas.{before_exact, number_exact, pair_exact, plain_exact}
use Rattle.sg_changes.proofs.TagLemmas.{IsRow, chosen, tagged_exact, tagged_shorter}

write-exact : IsExact write
unfolding write
write-exact =
    before_exact extent (λ e. plain (block_length * e.count)) extent_exact
    (λ e. plain_exact (block_length * e.count))

fill-exact : IsExact fill
unfolding fill
fill-exact = pair_exact extent (plain block_length) extent_exact (plain_exact block_length)

range-exact : IsExact range
unfolding range
range-exact = pair_exact (number 8) (number 8) (number_exact 8) (number_exact 8)

pages-exact : IsExact pages
unfolding pages
pages-exact =
    renamed_exact
    (λ p. record {
      error_recovery = p.0;
      caching = p.1.0;
      control = p.1.1.0;
      exceptions_control = p.1.1.1.0;
      provisioning = p.1.1.1.1;
    })
    (λ v. (v.error_recovery, (v.caching, (v.control, (v.exceptions_control, v.provisioning)))))
    (pair (plain 10) (pair (plain 18) (pair (plain 10) (pair (plain 10) (plain 28)))))
    (pair_exact (plain 10) (pair (plain 18) (pair (plain 10) (pair (plain 10) (plain 28))))
    (plain_exact 10)
    (pair_exact (plain 18) (pair (plain 10) (pair (plain 10) (plain 28))) (plain_exact 18)
    (pair_exact (plain 10) (pair (plain 10) (plain 28)) (plain_exact 10)
    (pair_exact (plain 10) (plain 28) (plain_exact 10) (plain_exact 28)))))
    (λ p. refl) (λ v. refl)

abbrev Row : {X : Type 0} → Format X → (X → Change) → ℕ → Type 0
Row format make tag = IsRow record_of is_possible fields_at format make tag

write-row : Row write (λ f. Write f.0 f.1) 1
unfolding fields_at
write-row = record { exact = write-exact; spelled = λ x. refl; possible = λ x. refl; read = λ fields. refl }

fill-row : Row fill (λ f. Fill f.0 f.1) 2
unfolding fields_at
fill-row = record { exact = fill-exact; spelled = λ x. refl; possible = λ x. refl; read = λ fields. refl }

unmap-row : Row range (λ f. Unmap f.0 f.1) 3
unfolding fields_at
unmap-row = record { exact = range-exact; spelled = λ x. refl; possible = λ x. refl; read = λ fields. refl }

anchor-row : Row extent (Anchor) 4
unfolding fields_at
anchor-row = record { exact = extent_exact; spelled = λ x. refl; possible = λ x. refl; read = λ fields. refl }

pages-row : Row pages (Pages) 5
unfolding fields_at
pages-row = record { exact = pages-exact; spelled = λ x. refl; possible = λ x. refl; read = λ fields. refl }

reservations-row : Row reservations (Reservations) 6
unfolding fields_at
reservations-row = record {
  exact = reservations_exact;
  spelled = λ x. refl;
  possible = λ x. refl;
  read
      = λ fields. refl;
}

faults-row : Row faults (Faults) 7
unfolding fields_at
faults-row = record { exact = faults_exact; spelled = λ x. refl; possible = λ x. refl; read = λ fields. refl }

grow-row : Row capacity (Grow) 8
unfolding fields_at
grow-row = record { exact = number_exact 8; spelled = λ x. refl; possible = λ x. refl; read = λ fields. refl }

row-with-tag : (P : Type 0) (tag : ℕ) (fields : List ℕ) (y : Change) (rest : List ℕ)
    → fields_at tag fields ≡ Some (y, rest)
    → ((X : Type 0) (format : Format X) (make : X → Change) → Row format make tag → P) → P
unfolding fields_at
row-with-tag P tag fields y rest e then =
    chosen P tag 1 _ _ (y, rest) e
    (λ same. then _ write (λ f. Write f.0 f.1)
    (subst (Row write (λ f. Write f.0 f.1)) (sym same) write-row)) (λ e2.
    chosen P tag 2 _ _ (y, rest) e2
    (λ same. then _ fill (λ f. Fill f.0 f.1) (subst (Row fill (λ f. Fill f.0 f.1)) (sym same) fill-row))
    (λ e3.
    chosen P tag 3 _ _ (y, rest) e3
    (λ same. then _ range (λ f. Unmap f.0 f.1)
    (subst (Row range (λ f. Unmap f.0 f.1)) (sym same) unmap-row)) (λ e4.
    chosen P tag 4 _ _ (y, rest) e4
    (λ same. then _ extent (Anchor) (subst (Row extent (Anchor)) (sym same) anchor-row)) (λ e5.
    chosen P tag 5 _ _ (y, rest) e5
    (λ same. then _ pages (Pages) (subst (Row pages (Pages)) (sym same) pages-row)) (λ e6.
    chosen P tag 6 _ _ (y, rest) e6
    (λ same. then _ reservations (Reservations)
    (subst (Row reservations (Reservations)) (sym same) reservations-row)) (λ e7.
    chosen P tag 7 _ _ (y, rest) e7
    (λ same. then _ faults (Faults) (subst (Row faults (Faults)) (sym same) faults-row)) (λ e8.
    chosen P tag 8 _ _ (y, rest) e8
    (λ same. then _ capacity (Grow) (subst (Row capacity (Grow)) (sym same) grow-row)) (λ e9.
    absurd cc))))))))

row-of : (P : Type 0) (y : Change)
    → ((X : Type 0) (format : Format X) (make : X → Change) (tag : ℕ) → Row format make tag → (x : X)
    → make x ≡ y → P) → P
row-of P (Write e blocks) then = then _ write (λ f. Write f.0 f.1) 1 write-row (e, blocks) refl
row-of P (Fill e block) then = then _ fill (λ f. Fill f.0 f.1) 2 fill-row (e, block) refl
row-of P (Unmap lba count) then = then _ range (λ f. Unmap f.0 f.1) 3 unmap-row (lba, count) refl
row-of P (Anchor e) then = then _ extent (Anchor) 4 anchor-row e refl
row-of P (Pages saved) then = then _ pages (Pages) 5 pages-row saved refl
row-of P (Reservations persistent) then = then _ reservations (Reservations) 6 reservations-row
    persistent refl
row-of P (Faults slots) then = then _ faults (Faults) 7 faults-row slots refl
row-of P (Grow blocks) then = then _ capacity (Grow) 8 grow-row blocks refl

pub change_exact : IsExact change
change_exact = tagged_exact record_of is_possible fields_at row-with-tag row-of

pub change_shorter : (bytes : List ℕ) (y : Change) (rest : List ℕ) → change_at bytes ≡ Some (y, rest)
    → length rest < length bytes
change_shorter = tagged_shorter record_of is_possible fields_at row-with-tag row-of
