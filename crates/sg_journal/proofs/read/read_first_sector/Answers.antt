use Rattle.std.proofs.Common.{◌≡◌, ℕ, ◌+◌, List, [], ◌++◌, length, sym, ◌∙◌, ap, subst, arith}
use Rattle.std.proofs.Common.{length-append}
use Rattle.std.proofs.lemmas.List.{take_at}
use Rattle.std.specs.Prelude.{Err}
use Rattle.sg_journal.specs.Layout.{sector_of}
use Rattle.sg_journal.specs.Journal.{found, IsHead}
use Rattle.sg_journal.specs.declared.fault.Fault.TheVariants.{NotADisk}
use Rattle.sg_journal.proofs.Heads.{header_head, header_valid, sector_within, short_first}
use Rattle.sg_journal.proofs.read.read_first_sector.Goals as goal

pub overflow_sub-rest : goal.overflow_sub-rest
overflow_sub-rest g c =
    let h = c.in_ok-sector.ensures.header in
    let within = sector_within c.in_ok-sector.sector (header_valid h.0 c.in_ok-sector.sector h.3) in
    omega arith

pub returns-then-left-rest-clause-fault : goal.returns-then-left-rest-clause-fault
returns-then-left-rest-clause-fault g c fault is rest size =
    let h = c.in_ok-sector.ensures.header in
    let sector : ℕ = c.in_ok-sector.sector in
    let header : List ℕ = h.0 in
    let same : NotADisk ≡ fault = cc in
    let taken : g.F.Source.taken c.read_header.new.source ≡ header = h.1.is
    ∙ ap (λ (l : List ℕ). l ++ header) c.requires.fresh in
    let all : length (header ++ rest) ≡ 16 + length rest = length-append header rest
    ∙ ap (λ (n : ℕ). n + length rest) h.2 in
    ap (λ (l : List ℕ). found (l ++ rest)) taken
    ∙ short_first (header ++ rest) sector (omega arith)
    (ap sector_of (take_at header rest 16 h.2)
    ∙ h.3) (omega (arith, all, size, c.left-2.ensures, c.if-left-rest.true))
    ∙ ap (λ f. Err f) same

pub returns-clause-read : goal.returns-clause-read
returns-clause-read g c =
    let h = c.in_ok-sector.ensures.header in
    let sector : ℕ = c.in_ok-sector.sector in
    let header : List ℕ = h.0 in
    let valid = header_valid header sector h.3 in
    let within = sector_within sector valid in
    let more = c.in_ok-skip.ensures.taken in
    let taken : g.F.Source.taken c.skip.new.source ≡ header ++ more.more =
    more.is ∙ ap (λ (l : List ℕ). l ++ more.more) (h.1.is
    ∙ ap (λ (l : List ℕ). l ++ header) c.requires.fresh) in
    let size : length (header ++ more.more) ≡ sector =
    omega (arith, length-append header more.more, h.2, more.size) in
    record {
      valid = valid;
      whole =
          subst (λ (l : List ℕ). IsHead sector l []) (sym taken)
          (header_head sector header more.more h.2 h.3 size);
      size = ap length taken ∙ size;
      rest = omega (arith, more.rest, h.1.rest, h.2);
    }
