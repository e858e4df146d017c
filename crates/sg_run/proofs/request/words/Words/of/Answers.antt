use Rattle.std.proofs.Common.{ℕ, slice_index, arith, sym, ◌∙◌}
use Rattle.sg_run.proofs.WordLemmas.{word_goes_on, word_ends, last_word, allowed-more}
use Rattle.sg_run.proofs.WordLemmas.{allowed-no_more, graphic, blank-allowed, not_allowed}
use Rattle.sg_run.proofs.request.words.Words.of.Goals as goal
use Rattle.sg_run.proofs.request.words.Words.of.Goals.{else-is_blank, then-is_blank}

pub loop-index-preserved-then-is_ascii_graphic : goal.loop-index-preserved-then-is_ascii_graphic
loop-index-preserved-then-is_ascii_graphic g c =
    let i = c.loop-index.invariant in
    let within = c.loop-index-test.true in
    let byte : ℕ = slice_index c.args.text.now c.loop-index.index in
    let plain = graphic byte (sym c.if-is_ascii_graphic.ensures.value) in
    record {
      takes = word_goes_on _ _ _ _ _ _ within plain.0 i.takes;
      allowed = allowed-more _ _ _ within i.allowed plain.1;
    }

pub loop-index-preserved : goal.loop-index-preserved
loop-index-preserved g c =
    let i = c.loop-index.invariant in
    let within = c.loop-index-test.true in
    let byte : ℕ = slice_index c.args.text.now c.loop-index.index in
    let not_graphic = sym c.if-is_ascii_graphic.ensures.value in
    elim c.if-is_blank.branch [
      | then-is_blank w ↦
          let blank = sym c.is_blank.ensures ∙ w.if-is_blank.true in
          let added = w.add.ensures in
          let allowed = allowed-more _ _ _ within i.allowed (blank-allowed byte blank) in
          rw (w.words-is, w.start-is) (record {
            takes = word_ends _ _ _ _ _ _ _ _ within blank (added.first, added.count) i.takes;
            allowed = added.are_allowed ∙ allowed;
          })
      | else-is_blank w ↦
          let no_blank = sym c.is_blank.ensures ∙ w.if-is_blank.false in
          rw (w.words-is, w.start-is) (record {
            takes = word_goes_on _ _ _ _ _ _ within no_blank i.takes;
            allowed = allowed-no_more _ _ within (not_allowed byte not_graphic no_blank);
          })
    ]

pub returns-clause-first : goal.returns-clause-first
returns-clause-first g c =
    let added = c.add-2.ensures in
    (last_word _ _ _ _ _ _ _ _ (omega arith) (added.first, added.count) c.loop-index.invariant.takes).0

pub returns-clause-count : goal.returns-clause-count
returns-clause-count g c =
    let added = c.add-2.ensures in
    (last_word _ _ _ _ _ _ _ _ (omega arith) (added.first, added.count) c.loop-index.invariant.takes).1
