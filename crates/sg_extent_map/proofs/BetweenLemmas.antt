-- Single addresses of extents lie between two others.
use Rattle.std.proofs.Common.{◌≡◌, ℕ, ◌+◌, zero, suc, List, [], ◌∷◌, arith}
use Rattle.sg_table.specs.declared.run.Kind.{Kind}
use Rattle.sg_table.specs.declared.run.Run.{Run}
use Rattle.sg_pool.specs.Rising.{end_of, AreApart, AreBetween}
use Rattle.sg_pool.proofs.RisingLemmas.{between-append, between-weaker}
use Rattle.sg_extent_map.specs.Extents.{singles_from, singles_of, singles}

-- addresses of runs
pub between-from : (start first n : ℕ) (kind : Kind)
    → AreBetween start (start + n) (singles_from start first n kind)
unfolding singles_from
between-from start first zero kind = omega arith
between-from start first (suc n) kind =
    let e : start + 1 + n ≡ start + suc n = omega arith in
    (omega arith, rw e at (between-from (start + 1) (first + 1) n kind))

pub between-singles : (runs : List Run) (a b : ℕ) → AreApart a b runs
    → AreBetween a b (singles runs)
unfolding singles
between-singles [] a b h = h
between-singles (run ∷ runs) a b h =
    let rest = between-singles runs (end_of run) b h.2 in
    between-append (singles_of run) (singles runs) a (end_of run) b
    (between-weaker (singles_of run) run.start (end_of run) a (end_of run) h.0 (omega arith)
    (between-from run.start run.first run.count run.kind)) rest
