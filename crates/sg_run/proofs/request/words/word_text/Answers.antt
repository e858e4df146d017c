use Rattle.std.proofs.Common.{Result, Ok, Err, MatchResult, ℕ, List, refl}
use Rattle.std.specs.Result.{IsOk}
use Rattle.std.specs.Str.{IsUtf8}
use Rattle.std.proofs.lemmas.Str.{IsUtf8-from_ascii}
use Rattle.sg_run.proofs.request.words.word_text.Goals as goal

is_read : {A E : Type 0} (result : Result A E) (P : A → Type 0) (Q : E → Type 0) (bytes : List ℕ)
    → IsUtf8 bytes → MatchResult result P (λ e. ¬ (IsUtf8 bytes) × Q e) → IsOk result
is_read (Ok text) P Q bytes utf8 cases = refl
is_read (Err e) P Q bytes utf8 cases = absurd (cases.0 utf8)

pub unwrap-requires : goal.unwrap-requires
unwrap-requires c =
    let utf8 = IsUtf8-from_ascii c.args.word.now c.requires in
    is_read c.from_utf8.result _ _ c.args.word.now utf8 c.from_utf8.ensures.cases
