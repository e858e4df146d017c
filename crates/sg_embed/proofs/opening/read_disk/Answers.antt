use Rattle.std.proofs.Common.{◌≡◌, ℕ, List, ◌++◌, ap, subst, sym, ◌∙◌, arith}
use Rattle.sg_kept.specs.Opened.{opened}
use Rattle.sg_embed.specs.Opening.{IsTrueOfFile}
use Rattle.sg_embed.proofs.OpeningLemmas.{true-of-file, was-read}
use Rattle.sg_embed.proofs.opening.read_disk.Goals as goal

pub returns-clause-says : goal.returns-clause-says
returns-clause-says c =
    let read = c.in-Err.field-0-1 in
    let said = c.in-Err.ensures in
    let rest = c.args.source.rest in
    let file : read.taken ++ read.rest ≡ rest =
    said.known ∙ ap (λ (l : List ℕ). l ++ rest) c.requires.fresh in
    subst (λ (l : List ℕ). IsTrueOfFile c.in-Err.error l) file
    (true-of-file c.in-Err.error read.taken read.rest (λ is. omega (arith, said.cause is)) said.says)

-- the file was read to its end
pub returns-in-Ok-clause-opened : goal.returns-in-Ok-clause-opened
returns-in-Ok-clause-opened c =
    ap opened (sym (was-read c.args.source _ c.requires.fresh c.in-Ok.ensures.read))
    ∙ c.in-Ok.ensures.opened
