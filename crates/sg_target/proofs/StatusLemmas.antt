-- The parameter data of GET LBA STATUS within its own length.
use Rattle.std.proofs.Common.{◌≡◌, ◌≤◌, ℕ, ◌+◌, ◌*◌, zero, suc, min, List, [], ◌∷◌, length}
use Rattle.std.proofs.Common.{length-append, Bool, true, false, cond, refl, ap, ◌∙◌}
use Rattle.std.proofs.Common.{arith}
use Rattle.std.specs.Prelude.{nat_lt}
use Rattle.std.specs.List.{flat_map}
use Rattle.sg_store.specs.Disk.{Contents, Disk}
use Rattle.sg_wire.specs.LbaStatus.{descriptor_bytes, status_data}
use Rattle.sg_store.specs.LbaStatus.{count_alike, descriptor_at, descriptors_from, lba_status}
use Rattle.sg_wire.specs.declared.lba_status.StatusDescriptor.{StatusDescriptor}
use Rattle.sg_store.specs.declared.store.Counts.{Counts}
use Rattle.sg_wire.specs.FirstBytes.{first_bytes, overwritten}
use Rattle.sg_target.proofs.LengthLemmas.{cut-within}
use Rattle.sg_target.specs.MadeReplies.{executed_reply}
use Rattle.sg_target.specs.Reply.{Carries}
use Rattle.sg_target.specs.Step.{good}
use Rattle.sg_target.specs.declared.reply.Reply.{Reply}

either-within : (more : Bool) (first : StatusDescriptor) (rest : List StatusDescriptor) (most : ℕ)
    → length rest ≤ most → length (cond more (first ∷ rest) []) ≤ suc most
either-within true first rest most h = omega arith
either-within false first rest most h = omega arith

descriptors-within : (contents : Contents) (capacity lba most : ℕ)
    → length (descriptors_from contents capacity lba most) ≤ most
unfolding descriptors_from
descriptors-within contents capacity lba zero = omega arith
descriptors-within contents capacity lba (suc most) =
    either-within (nat_lt lba capacity) (descriptor_at contents capacity lba) _ most
    (descriptors-within contents capacity (lba + count_alike contents capacity lba) most)

length-descriptors : (found : List StatusDescriptor) → length (flat_map descriptor_bytes found) ≡
    16 * length found
length-descriptors [] = refl
length-descriptors (first ∷ rest) =
    let more = length-descriptors rest in
    omega (arith, length-append (descriptor_bytes first) (flat_map descriptor_bytes rest))

status-within : (disk : Disk) (start : ℕ) → length (status_data (lba_status disk start)) ≤ 8200
unfolding status_data
status-within disk start =
    let found = lba_status disk start in
    omega (arith, length-descriptors found, descriptors-within disk.contents disk.capacity start 512)

-- a longer allocation length than the buffer has cuts nothing more
pub cut-status : (most n : ℕ) (disk : Disk) (start : ℕ) → 8200 ≤ most
    → first_bytes (min most n) (status_data (lba_status disk start))
    ≡ first_bytes n (status_data (lba_status disk start))
cut-status most n disk start h =
    cut-within most n (status_data (lba_status disk start)) (omega (arith, status-within disk start))

-- the reply with as much of it as the buffer and the allocation length take
pub status-carried : (most n limit len : ℕ) (disk between : Disk) (start : ℕ) (counts : Counts)
    (reply : Reply) (before after : List ℕ) → 8200 ≤ most → limit ≡ min most n → between ≡ disk
    → len ≡ length (first_bytes limit (status_data (lba_status between start)))
    → after ≡ overwritten (first_bytes limit (status_data (lba_status between start))) before
    → reply ≡ executed_reply len counts
    → Carries (good (first_bytes n (status_data (lba_status disk start)))) reply before after
status-carried most n limit len disk between start counts reply before after h cut left size bytes is =
    let same : first_bytes limit (status_data (lba_status between start))
    ≡ first_bytes n (status_data (lba_status disk start)) =
    ap (λ k. first_bytes k (status_data (lba_status between start))) cut
    ∙ (ap (λ (d : Disk). first_bytes (min most n) (status_data (lba_status d start))) left
    ∙ cut-status most n disk start h) in
    record {
      status = ap (λ (r : Reply). r.status) is;
      sense = ap (λ (r : Reply). r.sense) is;
      size = ap (λ (r : Reply). r.data_in) is ∙ (size ∙ ap length same);
      data_in = bytes ∙ ap (λ put. overwritten put before) same;
    }
