-- The mode parameter list, written part by part.
use Rattle.std.proofs.Common.{◌≡◌, ◌≤◌, ℕ, ◌+◌, ◌++◌, length, ap, sym, ◌∙◌, append_assoc}
use Rattle.std.proofs.Common.{length-append, arith, lit≤, Bool}
use Rattle.sg_wire.specs.declared.command.mode.CdbWidth.{CdbWidth}
use Rattle.sg_wire.specs.declared.command.mode.CdbWidth.TheVariants.{Six, Ten}
use Rattle.sg_wire.specs.CutAnswer.{CutAnswer, put}
use Rattle.sg_wire.specs.Laws.{PartsArePutInTurn}
use Rattle.sg_pages.specs.ModePage.{ModeState}
use Rattle.sg_pages.specs.ModeSense.{RequestFields, selected_by, descriptor_data, requested_pages}
use Rattle.sg_pages.specs.ModeSense.{length_bytes, header_after_length, list_after_length}
use Rattle.sg_pages.specs.ModeSense.{is_long, longlba_bytes, mode_parameter_list}
use Rattle.sg_pages.specs.DataLengths.{longest_list}
use Rattle.sg_pages.proofs.PageLemmas.{put-two}

-- header, block descriptor and pages, if the header has their lengths
pub list-put : PartsArePutInTurn → (p q r s : CutAnswer) (state : ModeState) (asked : RequestFields)
    (descriptor following : ℕ) → descriptor ≡ length (descriptor_data asked)
    → (let pages =
    requested_pages (selected_by state asked.profile asked.page.page_control) asked.profile asked.page in
    let header = header_after_length state asked descriptor in
    following ≡ length (descriptor_data asked) + length pages
    → q ≡ put p (length_bytes asked.width (length header + following) ++ header)
    → r ≡ put q (descriptor_data asked) → s ≡ put r pages
    → s ≡ put p (mode_parameter_list state asked))
unfolding mode_parameter_list list_after_length
list-put law p q r s state asked descriptor following d f e g h =
    let values = selected_by state asked.profile asked.page.page_control in
    let pages = requested_pages values asked.profile asked.page in
    let of = λ (n : ℕ). header_after_length state asked n in
    let front = of (length (descriptor_data asked)) in
    let back = descriptor_data asked ++ pages in
    let total : length front + following ≡ length (front ++ back) =
    ap (λ n. length front + n) (f ∙ sym (length-append (descriptor_data asked) pages))
    ∙ sym (length-append front back) in
    let header : q ≡ put p (length_bytes asked.width (length (front ++ back)) ++ front) =
    e ∙ (ap (λ n. put p (length_bytes asked.width (length (of n) + following) ++ of n)) d
    ∙ ap (λ n. put p (length_bytes asked.width n ++ front)) total) in
    put-two law p q s _ _ header (put-two law q r s _ _ g h)
    ∙ ap (put p) (append_assoc (length_bytes asked.width (length (front ++ back))) front back)

-- a header has at most 8 bytes, with MODE DATA LENGTH
header-short : (width : CdbWidth) (long : Bool) (n m : ℕ)
    → length (length_bytes width n)
    + (2 + (length (longlba_bytes width long) + length (length_bytes width m))) ≤ 8
header-short Six long n m = lit≤ tt
header-short Ten long n m = lit≤ tt

pub list-short : (state : ModeState) (asked : RequestFields) → length (descriptor_data asked) ≤ 16
    → length (requested_pages (selected_by state asked.profile asked.page.page_control) asked.profile
    asked.page)
    ≤ 88
    → length (mode_parameter_list state asked) ≤ longest_list
unfolding mode_parameter_list list_after_length
list-short state asked few short =
    let values = selected_by state asked.profile asked.page.page_control in
    let pages = requested_pages values asked.profile asked.page in
    let descriptor = descriptor_data asked in
    let after = header_after_length state asked (length descriptor) in
    let following = after ++ (descriptor ++ pages) in
    let total = length-append (length_bytes asked.width (length following)) following in
    let parts = length-append after (descriptor ++ pages) in
    let two = length-append descriptor pages in
    let header = length-append (longlba_bytes asked.width (is_long asked))
    (length_bytes asked.width (length descriptor)) in
    omega (
      arith,
      few,
      short,
      total,
      parts,
      two,
      header,
      header-short asked.width (is_long asked) (length following) (length descriptor),
    )
