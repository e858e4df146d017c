use Rattle.std.proofs.Common.{◌≤◌, ◌*◌, ◌++◌, arith, ap, ap₂, ◌∙◌}
use Rattle.std.specs.List.{flat_map}
use Rattle.byteorder.specs.Endian.{big_bytes}
use Rattle.sg_wire.specs.Cut.{answer_of}
use Rattle.sg_wire.specs.CutAnswer.{put}
use Rattle.sg_wire.specs.SupportedOperations.{command_descriptor}
use Rattle.sg_wire.specs.Table.{layouts_in}
use Rattle.sg_wire.proofs.SupportedLemmas.{all-length, all-put, in-length, product}
use Rattle.sg_wire.proofs.command.supported.put_all_commands.Goals as goal

pub overflow_cast-count : goal.overflow_cast-count
overflow_cast-count c =
    omega (
      arith,
      c.count_in-count.ensures,
      in-length c.args.profile c.each-entries.result.now,
      c.each-entries.ensures.count,
    )

pub overflow_mul-descriptor_length : goal.overflow_mul-descriptor_length
overflow_mul-descriptor_length c =
    let few : c.count_in-count.result ≤ 62 =
    omega (
      arith,
      c.count_in-count.ensures,
      in-length c.args.profile c.each-entries.result.now,
      c.each-entries.ensures.count,
    ) in
    omega (arith, product c.args.timeouts _ _ c.descriptor_length.ensures few)

pub returns-clause-data : goal.returns-clause-data
returns-clause-data c =
    let rows = layouts_in c.args.profile c.each-entries.result.now in
    let descriptors = flat_map (command_descriptor c.args.timeouts) rows in
    c.put_descriptors.ensures
    ∙ ap (λ a. put a descriptors) c.put.ensures
    ∙ c.parts_are_put_in_turn.ensures.in_turn _ _ _
    ∙ ap (put (answer_of c.args.cut.now))
    (ap (λ bytes. bytes ++ descriptors) (c.length_field.ensures
    ∙ ap₂ (λ m n. big_bytes 4 (m * n)) c.descriptor_length.ensures c.count_in-count.ensures)
    ∙ all-put c.args.timeouts c.args.profile c.each-entries.result.now c.each-entries.ensures.entries)

pub returns-clause-at_most : goal.returns-clause-at_most
returns-clause-at_most c =
    all-length c.args.timeouts c.args.profile c.each-entries.result.now c.each-entries.ensures.entries
    c.each-entries.ensures.count
