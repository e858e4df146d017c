use Rattle.std.proofs.Common.{◌∙◌, List, ℕ, take, drop, length, ap, sym, arith}
use Rattle.std.specs.Prelude.{true, false}
use Rattle.sg_pages.specs.BlockDescriptor.{block_descriptor}
use Rattle.sg_pages.specs.declared.mode_pages.multi_byte_field.MultiByteField.{MultiByteField}
use Rattle.sg_pages.specs.ModeSelect.{first_fault, field_faults, part_at, unless_fault}
use Rattle.sg_pages.specs.ModeSelect.{accepted_blocks, header_length, ignored_descriptor_bits}
use Rattle.sg_pages.proofs.SelectLemmas.{no-descriptor, short-faults, long-faults}
use Rattle.sg_pages.proofs.mode_pages.list_check.check_descriptor.Goals as goal

pub returns-in-0-clause-result : goal.returns-in-0-clause-result
returns-in-0-clause-result c =
    let a = c.args in
    sym (ap (λ o. unless_fault o tt)
    (no-descriptor a.width a.blocks a.profile a.list.now
    (sym c.requires.length ∙ c.in-0.is)))

pub returns-in-8-clause-result : goal.returns-in-8-clause-result
returns-in-8-clause-result c =
    let a = c.args in
    let list = a.list.now in
    let answer = λ (fields : List MultiByteField) (expected ignored : List ℕ) (offset : ℕ).
    unless_fault (first_fault (length list) (field_faults fields expected ignored
    (part_at offset 8 list))) tt in
    let fields = c.pointed_fields-fields.result.now in
    let ignored = c.ignored_in_short-ignored.result in
    let descriptor = λ (offset : ℕ). block_descriptor false
    (accepted_blocks a.blocks (take 4 (drop offset list))) in
    let start = header_length a.width in
    let expected = c.short_descriptor-expected.ensures
    ∙ ap (block_descriptor false) c.accepted_blocks-accepted.ensures in
    let faults = short-faults a.width a.blocks a.profile list c.requires.known
    (sym c.requires.length ∙ c.in-8.is) in
    c.check_fields.ensures.result
    ∙ (ap (λ (e : List ℕ). answer fields e ignored c.header_length-offset.result) expected
    ∙ (ap (λ (offset : ℕ). answer fields (descriptor offset) ignored offset)
    c.header_length-offset.ensures
    ∙ (ap (λ (bits : List ℕ). answer fields (descriptor start) bits start)
    c.ignored_in_short-ignored.ensures
    ∙ (ap (λ (f : List MultiByteField). answer f (descriptor start)
    (ignored_descriptor_bits false a.blocks) start)
    c.pointed_fields-fields.ensures
    ∙ sym (ap (λ (f : List ℕ). unless_fault (first_fault (length list) f) tt) faults)))))

pub returns-in_default-clause-result : goal.returns-in_default-clause-result
returns-in_default-clause-result c =
    let a = c.args in
    let list = a.list.now in
    let faults = long-faults a.width a.blocks a.profile list c.requires.known
    (λ e. omega (arith, c.requires.length)) (λ e. omega (arith, c.requires.length)) in
    let answer = λ (fields : List MultiByteField) (expected ignored : List ℕ) (offset : ℕ).
    unless_fault (first_fault (length list) (field_faults fields expected ignored
    (part_at offset 16 list))) tt in
    let fields = c.pointed_fields-fields-in_default.result.now in
    let ignored = c.ignored_in_long-ignored.result in
    let descriptor = λ (offset : ℕ). block_descriptor true
    (accepted_blocks a.blocks (take 8 (drop offset list))) in
    let start = header_length a.width in
    let expected = c.long_descriptor-expected.ensures
    ∙ ap (block_descriptor true) c.accepted_blocks-accepted-in_default.ensures in
    c.check_fields-in_default.ensures.result
    ∙ (ap (λ (e : List ℕ). answer fields e ignored c.header_length-offset.result) expected
    ∙ (ap (λ (offset : ℕ). answer fields (descriptor offset) ignored offset)
    c.header_length-offset.ensures
    ∙ (ap (λ (bits : List ℕ). answer fields (descriptor start) bits start)
    c.ignored_in_long-ignored.ensures
    ∙ (ap (λ (f : List MultiByteField). answer f (descriptor start)
    (ignored_descriptor_bits true a.blocks) start)
    c.pointed_fields-fields-in_default.ensures
    ∙ sym (ap (λ (f : List ℕ). unless_fault (first_fault (length list) f) tt) faults)))))
