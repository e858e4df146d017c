use Rattle.std.proofs.Common.{ap, sym, ◌∙◌, arith, option_map}
use Rattle.sg_tools.proofs.UnmapLemmas.{both_read, list_within, unmap_is}
use Rattle.sg_tools.proofs.unmap.sg_unmap.Goals as goal

pub paired-list-requires : goal.paired-list-requires
paired-list-requires c =
    let b = both_read _ _ _ _ _ _ c.read_list-lbas.ensures c.read_list-counts.ensures
    c.in-Some-Some-Some.is-0 c.in-Some-Some-Some.is-1 c.if-lbas-counts.false
    c.if-lbas-gt-MAXIMUM_UNMAP_DESCRIPTORS.false in
    record {
      equally_long = rw (c.deref.ensures.0, c.deref-2.ensures.0) b.equal;
      at_most_64 = rw c.deref.ensures.0 b.most;
      of_32_bits = λ k. let within = list_within _ _ _ k b.counts_are in rw c.deref-2.ensures.0
          (omega (arith, within));
    }

pub returns : goal.returns
returns c =
    let b = both_read _ _ _ _ _ _ (rw c.as_bytes.ensures.value at c.read_list-lbas.ensures)
    (rw c.as_bytes-2.ensures.value at c.read_list-counts.ensures)
    c.in-Some-Some-Some.is-0 c.in-Some-Some-Some.is-1 c.if-lbas-counts.false
    c.if-lbas-gt-MAXIMUM_UNMAP_DESCRIPTORS.false in
    let group = sym (rw c.text-3.ensures at c.group_number-group.ensures) ∙ c.in-Some-Some-Some.is-2
    in
    let asked = unmap_is c.args.options.now _ _ _ _ _ (sym c.text.ensures
    ∙ ap (option_map (λ t. t.now)) c.in-Some-Some.is-0) (sym c.text-2.ensures
    ∙ ap (option_map (λ t. t.now)) c.in-Some-Some.is-1) b group in
    rw (c.is_set.ensures, c.paired-list.ensures, c.deref.ensures.0, c.deref-2.ensures.0)
    at c.unmap.ensures ∙ sym asked
