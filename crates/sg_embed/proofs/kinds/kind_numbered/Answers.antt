use Rattle.std.proofs.Common.{◌≡◌, ◌∙◌, ℕ, List, length, Option, Some, None, Bor, refl, sym, arith}
use Rattle.std.proofs.Common.{slice_get, nat_lt, get_or}
use Rattle.std.specs.Option.{option_copied, is_some}
use Rattle.std.specs.Prelude.{IfSome}
use Rattle.std.proofs.lemmas.Bool.Decides.{nat_tests}
use Rattle.std.proofs.lemmas.Option.{slice_get_past, slice_get_read}
use Rattle.sg_tools.specs.declared.show.Show.{Show}
use Rattle.sg_embed.specs.Kinds.{kinds}
use Rattle.sg_embed.proofs.kinds.kind_numbered.Goals as goal

-- the kind that a list has at a place
kind-at : (kinds : List Show) (i : ℕ) (found : Option (Bor Show)) → is_some found ≡ nat_lt i (length kinds)
    → IfSome found (λ kind. kind.now ≡ get_or kinds i kind.now)
    → option_copied found ≡ slice_get kinds i
kind-at kinds i None none same = sym (slice_get_past kinds i (grind (arith, nat_tests)))
kind-at kinds i (Some kind) some same =
    sym (slice_get_read kinds (length kinds) i kind.now refl (grind (arith, nat_tests)) same)

pub returns : goal.returns
returns c =
    c.copied.ensures
    ∙ kind-at kinds c.args.number c.get.result c.get.ensures.lookup.0 c.get.ensures.lookup.1
