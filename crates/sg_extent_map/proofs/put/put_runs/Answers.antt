use Rattle.std.proofs.Common.{◌≡◌, refl, sym, ap, ◌∙◌, ◌==◌, ◌&&◌, arith, length}
use Rattle.std.specs.Bool.{Decides}
use Rattle.std.specs.List.{splice}
use Rattle.std.proofs.lemmas.Bool.Decides.{Decides-and, Decides-eqb}
use Rattle.std.proofs.lemmas.Slice.Eq.{slice_eq-Decides}
use Rattle.sg_table.specs.contracts.run.KindPartialEq.TheImpl.{eq-value}
use Rattle.sg_table.specs.declared.run.Kind.{Kind}
use Rattle.sg_table.specs.declared.run.Kind.TheVariants.{Data, Anchored}
use Rattle.sg_table.specs.declared.run.Run.{Run}
use Rattle.sg_extent_map.specs.Gathering.{end_index}
use Rattle.sg_extent_map.proofs.put.put_runs.Goals as goal

-- two kinds are equal if they have one name
kind-Decides : (j k : Kind) → Decides (eq-value.it j k) (j ≡ k)
kind-Decides Data Data = (λ t. refl, λ e. refl)
kind-Decides Data Anchored = (λ t. let wrong = t in cc, λ e. cc)
kind-Decides Anchored Data = (λ t. let wrong = t in cc, λ e. cc)
kind-Decides Anchored Anchored = (λ t. refl, λ e. refl)

-- two runs are equal if each of their fields is
run-Decides : (a b : Run)
    → Decides (a.start == b.start && (a.count == b.count && (a.first == b.first
    && (a.last == b.last && eq-value.it a.kind b.kind)))) (a ≡ b)
run-Decides a b =
    let fields = Decides-and _ _ (Decides-eqb a.start b.start)
    (Decides-and _ _ (Decides-eqb a.count b.count)
    (Decides-and _ _ (Decides-eqb a.first b.first)
    (Decides-and _ _ (Decides-eqb a.last b.last) (kind-Decides a.kind b.kind)))) in (
      λ t. let e = fields.0 t in
          ap (λ n. record a { start = n }) e.0
          ∙ ap (λ n. record b { count = n; first = a.first; last = a.last; kind = a.kind }) e.1.0
          ∙ ap (λ n. record b { first = n; last = a.last; kind = a.kind }) e.1.1.0
          ∙ ap (λ n. record b { last = n; kind = a.kind }) e.1.1.1.0
          ∙ ap (λ k. record b { kind = k }) e.1.1.1.1,
      λ e. fields.1 (
        ap (λ (r : Run). r.start) e,
        (
          ap (λ (r : Run). r.count) e,
          (
            ap (λ (r : Run). r.first) e,
            (ap (λ (r : Run). r.last) e, ap (λ (r : Run). r.kind) e),
          ),
        ),
      ),
    )

pub returns-then-eq-clause-table : goal.returns-then-eq-clause-table
returns-then-eq-clause-table c =
    let t = c.args.table.now in
    let g = c.args.gathered.now in
    let equal = (slice_eq-Decides run-Decides c.args.runs.now c.records-old.result.now _ c.eq.ensures).0
    c.if-eq.true in
    let same : c.args.runs.now ≡ g.records = equal ∙ c.records-old.ensures in
    ap (λ x. record t { records = x })
    (sym (ap (splice t.records g.from (end_index g)) same ∙ c.requires.same))

pub overflow_add-from : goal.overflow_add-from
overflow_add-from c = record {
  fits = omega (
    arith,
    c.requires.within,
    c.requires.table_size,
    c.from-from.ensures,
    ap length c.records-old.ensures,
  );
}
