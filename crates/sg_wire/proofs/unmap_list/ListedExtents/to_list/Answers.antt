use Rattle.std.proofs.Common.{List, ◌∷◌, [], ◌++◌, length, length-append, ap, sym, ◌∙◌, arith}
use Rattle.std.proofs.lemmas.List.FromFn.{map-range_with_len_more}
use Rattle.sg_wire.specs.UnmapList.{descriptor_at, first_descriptors, named_extents}
use Rattle.sg_wire.specs.declared.extent.Extent.{Extent}
use Rattle.sg_wire.proofs.NamedExtentLemmas.{named-append, named-at-most}
use Rattle.sg_wire.proofs.unmap_list.ListedExtents.to_list.Goals as goal

pub loop-index-preserved : goal.loop-index-preserved
loop-index-preserved c =
    let bytes = c.self.inside.bytes.now in
    let only = c.self.inside.only_with_blocks in
    let index = c.loop-index.index in
    let inv = c.loop-index.invariant in
    let more = c.descriptor_at.result ∷ [] in
    record {
      extents = c.push_named.ensures
          ∙ (ap (λ (xs : List Extent). xs ++ named_extents only more) inv.extents
          ∙ (sym (named-append only (first_descriptors bytes index) more)
          ∙ (ap (λ (e : Extent). named_extents only (first_descriptors bytes index ++ e ∷ []))
          c.descriptor_at.ensures
          ∙ ap (named_extents only)
          (sym (map-range_with_len_more (descriptor_at bytes) 0 index index (omega arith))))));
      count = omega (
        arith,
        ap length c.push_named.ensures,
        length-append c.loop-index.list (named_extents only more),
        inv.count,
        named-at-most only more,
      );
    }
