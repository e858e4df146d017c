-- The kinds of answers that `show` knows.
use Rattle.std.proofs.Common.{◌≡◌, ◌≤◌, ◌<◌, ℕ, List, [], ◌∷◌, length, map, slice_index_or, Bor}
use Rattle.std.proofs.Common.{Option, None, ap, ◌∙◌, arith}
use Rattle.sg_wire.specs.declared.profile.Profile.{Profile}
use Rattle.sg_tools.specs.HexDigits.{hex_bytes}
use Rattle.sg_tools.specs.ShowKinds.{show_kinds, show_named}
use Rattle.sg_tools.specs.declared.show.Show.{Show}
use Rattle.sg_run.specs.Request.{LineRequest, faulty, show_of, shown_bytes}
use Rattle.sg_run.specs.declared.request.line_fault.LineFault.TheVariants.{Kind}

-- the first operand names no kind
pub no-kind : (profile : Profile) (operands : List (Bor (List ℕ))) (d : Bor (List ℕ)) (word : List ℕ)
    → 2 ≤ length operands → length operands < 3 → word ≡ (slice_index_or operands 0 d).now
    → None ≡ show_named profile show_kinds word
    → faulty Kind ≡ show_of profile (map (λ w. w.now) operands)
no-kind profile [] d word two below same none = absurd (omega arith)
no-kind profile (kind ∷ []) d word two below same none = absurd (omega arith)
no-kind profile (kind ∷ bytes ∷ []) d word two below same none =
    let shown : Option Show → LineRequest = λ show. shown_bytes profile show (hex_bytes bytes.now) in
    ap shown (none ∙ ap (λ w. show_named profile show_kinds w) same)
no-kind profile (kind ∷ bytes ∷ more ∷ rest) d word two below same none = absurd (omega arith)
