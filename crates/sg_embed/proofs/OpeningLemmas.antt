-- The file that a disk was read from, and what an error says of it.
use Rattle.std.proofs.Common.{◌≡◌, ◌≢◌, ℕ, List, [], ◌∷◌, ◌++◌, length, sym, ap}
use Rattle.std.proofs.Common.{subst, ◌∙◌, arith, length-append, Ok, Err, inr}
use Rattle.std.specs.Prelude.{◌==◌, true, false, None}
use Rattle.std.proofs.lemmas.Bool.Decides.{nat_tests}
use Rattle.std.proofs.lemmas.List.{append-nil}
use Rattle.sg_journal.specs.Journal.{Found, after, found}
use Rattle.sg_journal.specs.Reading.{WasRead}
use Rattle.sg_kept.specs.Refused.{IsTrueOf}
use Rattle.sg_kept.specs.declared.opening.OpenDiskError.{OpenDiskError}
use Rattle.sg_kept.specs.declared.opening.OpenDiskError.TheVariants.{Memory, Device, File, Unmade}
use Rattle.sg_kept.specs.declared.opening.OpenDiskError.TheVariants.{Damaged, TooLong}
use Rattle.sg_queue.specs.Contents.{ContentsFields}
use Rattle.sg_target.specs.Armed.{Armed}
use Rattle.sg_embed.specs.Opening.{IsDiskOf, IsFound, IsMade, IsNotFound, IsNotMadeBy, IsNotOpened}
use Rattle.sg_embed.specs.Opening.{IsTrueOfFile}
use Rattle.sg_kept.specs.Opening.{HasStarted}
use Rattle.sg_embed.specs.FileDisk.{FileDiskFields, QueuedDisk, may_leave, seen}
use Rattle.sg_embed.specs.declared.opening.OpenFault.{OpenFault}
use Rattle.sg_embed.specs.declared.opening.OpenFault.TheVariants.{NotRead, Refused}
use Rattle.sg_embed.specs.declared.wanted.Wanted.{Wanted}

nothing : (xs : List ℕ) → length xs ≡ 0 → xs ≡ []
nothing [] is = cc
nothing (x ∷ xs) is = absurd (omega (arith, is))

append-nothing : (xs rest : List ℕ) → length rest ≡ 0 → xs ++ rest ≡ xs
append-nothing xs [] is = append-nil xs
append-nothing xs (r ∷ rest) is = absurd (omega (arith, is))

-- What is true of what was read and whatever is left is true of the whole file.
whole : (taken rest : List ℕ) (P : List ℕ → Type 0)
    → ((others : List ℕ) → length others ≡ length rest → P (taken ++ others))
    → (others : List ℕ) → length others ≡ 0 → P ((taken ++ rest) ++ others)
whole taken rest P says others none =
    subst P (sym (append-nothing (taken ++ rest) others none)) (says rest cc)

pub true-of-file : (error : OpenDiskError) (taken rest : List ℕ) → error ≢ Device
    → IsTrueOf error taken (length rest) → IsTrueOfFile error (taken ++ rest)
true-of-file Memory taken rest other says = tt
true-of-file Device taken rest other says = other cc
true-of-file (File fault) taken rest other says =
    whole taken rest (λ file. found file ≡ Err fault) says
true-of-file Unmade taken rest other says = whole taken rest (λ file. found file ≡ Ok []) says
true-of-file (Damaged index offset) taken rest other says = record {
  before = says.before;
  batch = says.batch;
  begins = whole taken rest
      (λ file. (others : Found) × (found file ≡ after (says.before ++ says.batch ∷ []) others)) says.begins;
  place = says.place;
  damaged = says.damaged;
}
true-of-file TooLong taken rest other says = omega (arith, says, length-append taken rest)

-- The file that was read to its end is the file that there was.
pub was-read : (source : ContentsFields) (file : List ℕ) → source.taken ≡ []
    → WasRead (λ s. s.taken ++ s.rest) (λ s. s.taken) (λ s. length s.rest) source file → file ≡ source.rest
was-read source file fresh read =
    let all : read.read.rest ≡ [] = nothing read.read.rest read.all in
    let same : read.read.taken ++ read.read.rest ≡ source.taken ++ source.rest = read.same in
    read.is ∙ (sym (append-nothing read.read.taken read.read.rest read.all)
    ∙ (same ∙ ap (λ (l : List ℕ). l ++ source.rest) fresh))

-- ---- An empty file, and another one

pub is-empty : (file : List ℕ) → (length file == 0) ≡ true → file ≡ []
is-empty [] is = cc
is-empty (byte ∷ bytes) is =
    let other : (length (byte ∷ bytes) == 0) ≡ false = grind (arith, nat_tests) in absurd cc

pub of-found : (wanted : Wanted) (file : List ℕ) (disk : Armed) → file ≢ [] → IsFound wanted file disk
    → IsDiskOf wanted file disk
of-found wanted [] disk full is = absurd (full cc)
of-found wanted (byte ∷ bytes) disk full is = is

pub of-made : (wanted : Wanted) (file : List ℕ) (disk : Armed) → file ≡ [] → IsMade wanted disk
    → IsDiskOf wanted file disk
of-made wanted [] disk is made = made
of-made wanted (byte ∷ bytes) disk is made = absurd cc

pub not-made : (wanted : Wanted) (file : List ℕ) (fault : OpenFault) → file ≡ []
    → IsNotMadeBy wanted fault → IsNotOpened wanted file fault
not-made wanted [] (Refused outcome) is says = inr says
not-made wanted [] (NotRead error) is says = absurd says
not-made wanted (byte ∷ bytes) fault is says = absurd cc

pub not-found : (wanted : Wanted) (file : List ℕ) (fault : OpenFault) → file ≢ []
    → IsNotFound wanted file fault → IsNotOpened wanted file fault
not-found wanted [] fault full says = absurd (full cc)
not-found wanted (byte ∷ bytes) (Refused outcome) full says = inr says
not-found wanted (byte ∷ bytes) (NotRead error) full says = says

-- ---- A disk whose file is written afresh step by step

abbrev pub by-steps : QueuedDisk → (device : ℕ) → FileDiskFields
by-steps disk device = record {
  kept = record disk { compacts = false };
  device = device;
  next = None;
}

pub started-by-steps : (disk : QueuedDisk) → HasStarted seen may_leave disk
    → HasStarted seen may_leave (record disk { compacts = false })
started-by-steps disk s = record {
  alive = s.alive;
  usable = record { kept = s.usable.kept; room = s.usable.room; scratch = s.usable.scratch };
  opened = s.opened;
  powered = s.powered;
}
