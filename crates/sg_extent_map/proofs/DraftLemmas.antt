-- Drafting extents.
use Rattle.std.proofs.Common.{◌≡◌, ℕ, ◌+◌, ◌<◌, ◌≤◌, List, [], ◌∷◌, ◌++◌, length, Bool, true, false}
use Rattle.std.proofs.Common.{arith, refl, sym, ap, ap₂, ◌∙◌, length-append, append_assoc, get_or}
use Rattle.std.proofs.Common.{drop, add-one}
use Rattle.std.proofs.Math.ListN.{drop_of_length-le}
use Rattle.std.proofs.Math.Seq.{drop-cons}
use Rattle.std.proofs.lemmas.Bool.{eqb-true}
use Rattle.std.proofs.lemmas.List.Elements.{All-cons, All-nil, All-append}
use Rattle.std.specs.Prelude.{◌&&◌, ◌==◌}
use Rattle.sg_table.specs.Draft.{Drafted, pushed}
use Rattle.sg_table.specs.Records.{same_kind}
use Rattle.sg_table.specs.declared.run.Run.{Run}
use Rattle.sg_table.proofs.RecordLemmas.{alike}
use Rattle.sg_extent_map.specs.Drafting.{drafted, AreDrafted, Appends}
use Rattle.sg_extent_map.proofs.MaximalLemmas.{max-replaced, max-pushed}
use Rattle.sg_extent_map.specs.Extents.{continues}
use Rattle.sg_extent_map.specs.Extents.{singles_from, singles_of, singles, IsExtent}
use Rattle.sg_pool.specs.Rising.{end_of}
use Rattle.sg_extent_map.proofs.SinglesLemmas.{from-none, from-append, singles-last, append-none}
use Rattle.sg_extent_map.proofs.SinglesLemmas.{length-from, length-singles, singles-more}
use Rattle.sg_extent_map.proofs.SinglesLemmas.{singles-none}

both : (a b : Bool) → (a && b) ≡ true → (a ≡ true) × (b ≡ true)
both true b e = (refl, e)
both false b e = let wrong = e in cc

-- a run of no address
pub none-of : (run : Run) → run.count ≡ 0 → singles_of run ≡ []
none-of run e = ap (λ n. singles_from run.start run.first n run.kind) e
    ∙ from-none run.start run.first run.kind

pub append-empty : (draft : Drafted) (done run : Run) → run.count ≡ 0
    → Appends draft draft done done run
append-empty draft done run e = record {
  only = refl;
  addresses = sym (append-none (singles (drafted draft done)))
      ∙ ap (λ xs. singles (drafted draft done) ++ xs) (sym (none-of run e));
  extents = λ pool h r. h;
  maximal = λ h. h;
  longer = omega arith;
}

pub append-first : (draft : Drafted) (done run : Run) → done.count ≡ 0
    → Appends draft draft done run run
append-first draft done run e = record {
  only = refl;
  addresses = singles-last draft.records run
      ∙ ap (λ xs. xs ++ singles_of run) (sym (singles-last draft.records done
      ∙ ap (λ xs. singles draft.records ++ xs) (none-of done e)
      ∙ append-none (singles draft.records)));
  extents = λ pool h r. record { extents = h.extents; part = r };
  maximal = λ h. record { maximal = λ _. rw (h.none e) (tt, tt); none = λ _. h.none e };
  longer = omega arith;
}

-- the run goes on
pub append-joined : (draft : Drafted) (done run joined : Run) → continues done run ≡ true
    → 0 < done.count → 0 < run.count
    → joined ≡ record done { count = done.count + run.count; last = run.last }
    → Appends draft draft done joined run
append-joined draft done run joined e some more is =
    let first = both (same_kind run.kind done.kind) _ e in
    let next = both (run.start == end_of done) (run.first == done.first + done.count) first.1 in
    let kind = alike run.kind done.kind first.0 in
    let start = eqb-true run.start (end_of done) next.0 in
    let slot = eqb-true run.first (done.first + done.count) next.1 in
    let parts : singles_from done.start done.first (done.count + run.count) done.kind
    ≡ singles_of done ++ singles_of run =
    from-append done.start done.first done.count run.count done.kind
    ∙ ap (λ xs. singles_of done ++ xs) (ap₂ (λ s t. singles_from s t run.count done.kind)
    (sym start) (sym slot) ∙ ap (λ k. singles_from run.start run.first run.count k) (sym kind)) in
    rw is (record {
      only = refl;
      addresses = singles-last draft.records
          (record done { count = done.count + run.count; last = run.last })
          ∙ ap (λ xs. singles draft.records ++ xs) parts
          ∙ sym (append_assoc (singles draft.records) (singles_of done) (singles_of run))
          ∙ ap (λ xs. xs ++ singles_of run) (sym (singles-last draft.records done));
      extents = λ pool h r.
          let d : IsExtent pool done = h.part some in
          let e : IsExtent pool run = r more in
          record {
            extents = h.extents;
            part = λ _. record {
              not_empty = omega arith;
              range = omega (arith, e.range);
              slots = omega (arith, e.slots);
              last = omega (arith, e.last);
            };
          };
      maximal = λ h. record {
        maximal = λ _. max-replaced draft.records done (done.count + run.count) run.last
            (h.maximal some);
        none = λ z. absurd (omega arith);
      };
      longer = omega arith;
    })

-- the run is apart
pub append-pushed : (draft draft' : Drafted) (done run : Run) → continues done run ≡ false
    → 0 < done.count → 0 < run.count
    → draft' ≡ pushed draft done → Appends draft draft' done run run
append-pushed draft draft' done run stop some more is = rw is (record {
  only = refl;
  addresses = singles-last (drafted draft done) run;
  extents = λ pool h r. record {
    extents = All-append (IsExtent pool) draft.records (done ∷ []) h.extents
        (All-cons (IsExtent pool) done [] (h.part some) (All-nil (IsExtent pool)));
    part = r;
  };
  maximal = λ h. record {
    maximal = λ _. max-pushed draft.records done run (h.maximal some) stop;
    none = λ z. absurd (omega arith);
  };
  longer = omega (arith, length-append draft.records (done ∷ []));
})

-- there is room for the last extent
pub draft-room : (pool : ℕ) (draft : Drafted) (done : Run) → AreDrafted pool draft done
    → length draft.records + done.count ≤ length (singles (drafted draft done))
draft-room pool draft done h =
    let len = ap length (singles-last draft.records done)
    ∙ length-append (singles draft.records) (singles_of done) in
    let one = length-from done.start done.first done.count done.kind in
    let rest = length-singles pool draft.records h.extents in
    omega arith

-- ---- Drafting the extents that are ahead

pub appended : (D X more all : List Run) (run : Run) → D ≡ X ++ singles_of run → all ≡ run ∷ more
    → D ++ singles more ≡ X ++ singles all
appended D X more all run e is =
    ap (λ xs. xs ++ singles more) e ∙ append_assoc X (singles_of run) (singles more)
    ∙ ap (λ xs. X ++ xs) (sym (ap singles is ∙ singles-more run more))

pub drop-run : (runs : List Run) (at : ℕ) (d : Run) → at < length runs
    → drop at runs ≡ get_or runs at d ∷ drop (at + 1) runs
drop-run runs at d lt = rw add-one (drop-cons runs at d lt)

pub all-appended : (D X : List Run) (runs all : List Run) (at : ℕ)
    → D ++ singles (drop at runs) ≡ X ++ singles all → length runs ≤ at → D ≡ X ++ singles all
all-appended D X runs all at e le =
    let none : drop at runs ≡ [] = drop_of_length-le runs le in
    sym (append-none D) ∙ ap (λ xs. D ++ xs) (sym (ap singles none ∙ singles-none)) ∙ e

-- the room that is left
pub appended-room : (D X M all : List Run) (room : ℕ) → D ++ M ≡ X ++ all
    → length X + length all ≤ room → length D ≤ room
appended-room D X M all room e le =
    let len = ap length e in
    let d = length-append D M in
    let x = length-append X all in
    omega arith
