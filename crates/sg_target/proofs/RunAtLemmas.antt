-- The first LBA status descriptor in a buffer that has room for one.
use Rattle.std.proofs.Common.{◌≡◌, ℕ, ◌+◌, ◌<◌, ◌^◌, List, [], ◌∷◌, ◌++◌, length, take, drop}
use Rattle.std.proofs.Common.{refl, sym, ap, ◌∙◌, arith}
use Rattle.std.proofs.lemmas.List.{drop_all}
use Rattle.sg_store.specs.Disk.{Contents, Disk}
use Rattle.sg_store.specs.LbaStatus.{count_alike, descriptor_at, descriptors_from, lba_status}
use Rattle.sg_store.proofs.DescriptorLemmas.{alike-within, descriptors-more}
use Rattle.sg_wire.specs.FirstBytes.{overwritten}
use Rattle.sg_wire.specs.LbaStatus.{descriptor_bytes, status_data, status_header}
use Rattle.sg_wire.specs.declared.lba_status.StatusDescriptor.{StatusDescriptor}

header-and-run : (d : StatusDescriptor) (rest : List StatusDescriptor)
    → take 24 (status_data (d ∷ rest)) ++ [] ≡ status_header (length (d ∷ rest)) ++ descriptor_bytes d
unfolding status_data
header-and-run d rest = refl

run-length : (d : StatusDescriptor) (rest : List StatusDescriptor)
    → length (take 24 (status_data (d ∷ rest))) ≡ 24
unfolding status_data
run-length d rest = refl

pub first-run : (disk read : Disk) (lba : ℕ) (before after : List ℕ) → read ≡ disk
    → lba < disk.capacity → length before ≡ 24
    → after ≡ overwritten (take 24 (status_data (lba_status read lba))) before
    → after ≡ status_header (length (lba_status disk lba))
    ++ descriptor_bytes (descriptor_at disk.contents disk.capacity lba)
first-run disk read lba before after same lt size is =
    let d : StatusDescriptor = descriptor_at disk.contents disk.capacity lba in
    let rest = descriptors_from disk.contents disk.capacity (lba + d.count) 511 in
    let first = descriptors-more disk.contents disk.capacity lba 512 lt (omega arith) in
    let nothing : drop (length (take 24 (status_data (d ∷ rest)))) before ≡ [] =
    ap (λ n. drop n before) (run-length d rest) ∙ drop_all 24 before (omega (arith, size)) in
    is ∙ ap (λ (x : Disk). overwritten (take 24 (status_data (lba_status x lba))) before) same
    ∙ ap (λ ds. overwritten (take 24 (status_data ds)) before) first
    ∙ ap (λ (l : List ℕ). take 24 (status_data (d ∷ rest)) ++ l) nothing
    ∙ header-and-run d rest
    ∙ ap (λ (ds : List StatusDescriptor). status_header (length ds) ++ descriptor_bytes d) (sym first)

pub run-fits : (m : Contents) (capacity lba : ℕ) → count_alike m capacity lba < 2 ^ 32
run-fits m capacity lba = let most = alike-within m capacity lba in omega (arith, most)
