use Rattle.std.proofs.Common.{◌≡◌, ℕ, List, ◌++◌, length, take, sym, ◌∙◌, ap, arith, length-take}
use Rattle.std.proofs.Common.{length-append}
use Rattle.std.proofs.lemmas.List.{take_at}
use Rattle.std.specs.Prelude.{Err}
use Rattle.sg_journal.specs.Layout.{sector_of}
use Rattle.sg_journal.specs.Journal.{found}
use Rattle.sg_journal.specs.declared.fault.Fault.TheVariants.{NotADisk}
use Rattle.sg_journal.proofs.Heads.{bad_header, short_header}
use Rattle.sg_journal.proofs.read.read_header.Goals as goal

pub returns-then-left-clause-fault : goal.returns-then-left-clause-fault
returns-then-left-clause-fault g c fault is rest size =
    let same : NotADisk ≡ fault = cc in
    ap (λ (l : List ℕ). found (l ++ rest)) c.requires.fresh
    ∙ bad_header rest NotADisk (omega (arith, size, c.requires.some))
    (short_header (take 16 rest) (omega
    (arith, length-take 16 rest, size, c.left.ensures, c.if-left.true)))
    ∙ ap (λ f. Err f) same

pub returns-in-Err-clause-fault : goal.returns-in-Err-clause-fault
returns-in-Err-clause-fault g c fault is rest size =
    let header : List ℕ = c.read.new.into in
    let same : c.in-Err.fault ≡ fault = cc in
    let long : length header ≡ 16 = c.read.auto.into in
    let first = c.in_ok-read.ensures.taken ∙ ap (λ (l : List ℕ). l ++ header) c.requires.fresh in
    ap (λ (l : List ℕ). found (l ++ rest)) first
    ∙ bad_header (header ++ rest) c.in-Err.fault (omega (arith, long, length-append header rest))
    (ap sector_of (take_at header rest 16 long) ∙ sym c.sector_of.ensures ∙ c.in-Err.is)
    ∙ ap (λ f. Err f) same
