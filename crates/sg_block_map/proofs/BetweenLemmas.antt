-- Single addresses of runs lie between two others.
use Rattle.std.proofs.Common.{◌≡◌, ℕ, ◌+◌, zero, suc, List, [], ◌∷◌, arith}
use Rattle.std.specs.Prelude.{slice_index}
use Rattle.sg_table.specs.declared.run.Kind.{Kind}
use Rattle.sg_table.specs.declared.run.Run.{Run}
use Rattle.sg_pool.specs.Rising.{end_of, AreApart, AreBetween}
use Rattle.sg_pool.proofs.RisingLemmas.{between-append, between-weaker}
use Rattle.sg_block_map.specs.Runs.{singles, singles_of, expanded}

-- addresses of runs
pub between-singles : (next : List ℕ) (start first n : ℕ) (kind : Kind)
    → AreBetween start (start + n) (singles next start first n kind)
unfolding singles
between-singles next start first zero kind = omega arith
between-singles next start first (suc n) kind =
    let e : start + 1 + n ≡ start + suc n = omega arith in
    (omega arith, rw e at (between-singles next (start + 1) (slice_index next first) n kind))

pub between-expanded : (next : List ℕ) (runs : List Run) (a b : ℕ) → AreApart a b runs
    → AreBetween a b (expanded next runs)
unfolding expanded
between-expanded next [] a b h = h
between-expanded next (run ∷ runs) a b h =
    let rest = between-expanded next runs (end_of run) b h.2 in
    between-append (singles_of next run) (expanded next runs) a (end_of run) b
    (between-weaker (singles_of next run) run.start (end_of run) a (end_of run) h.0 (omega arith)
    (between-singles next run.start run.first run.count run.kind)) rest
