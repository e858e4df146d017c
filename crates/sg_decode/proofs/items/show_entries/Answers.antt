use Rattle.std.proofs.Common.{sym, ◌∙◌, arith, ap, ◌+◌, ℕ, Some}
use Rattle.sg_decode.proofs.ItemLemmas.{header_fits, shown_given, shown_in_time, entries_begin}
use Rattle.sg_decode.proofs.ItemLemmas.{entries_on, entries_end}
use Rattle.sg_decode.proofs.items.show_entries.Goals as goal

pub entries-init : goal.entries-init
entries-init g c =
    record {
      shown = entries_begin _ _ _ _ _ c.requires.not_first_byte c.requires.not_empty;
      bound =
          c.requires.first;
    }

pub put_text-requires : goal.put_text-requires
put_text-requires g c =
    let same = rw c.bytes_from.ensures at c.size.ensures.value in
    let given =
    shown_given (Some c.args.reported) c.args.bytes.now (c.entries.start + c.size.result)
    (sym c.is_shown.ensures.verdict ∙ c.if-not-is_shown.false) in
    header_fits c.args.kind c.args.bytes.now c.entries.start c.size.result same given
    c.size.ensures.not_zero

pub returns-then-not-is_shown : goal.returns-then-not-is_shown
returns-then-not-is_shown g c =
    let same = rw c.bytes_from.ensures at c.size.ensures.value in
    entries_end _ _ _ _ _ _ _ _ _ c.entries.invariant.shown
    (ap (λ (n : ℕ). c.entries.start + n) same) (sym c.is_shown.ensures.verdict
    ∙ c.if-not-is_shown.true) c.is_shown.ensures.text

pub entries-preserved : goal.entries-preserved
entries-preserved g c =
    let same = rw c.bytes_from.ensures at c.size.ensures.value in
    let showing = sym c.is_shown.ensures.verdict ∙ c.if-not-is_shown.false in
    let on_time =
    shown_in_time c.args.reported c.args.bytes.now (c.entries.start + c.size.result) showing in
    record {
      shown =
          entries_on _ _ _ _ _ _ _ _ _ _ c.entries.invariant.shown
          (ap (λ (n : ℕ). c.entries.start + n) same) (omega (arith, c.size.ensures.not_zero))
          (shown_given (Some c.args.reported) c.args.bytes.now (c.entries.start + c.size.result)
          showing)
          showing c.is_shown.ensures.text c.put_text.ensures;
      bound = omega arith;
    }
