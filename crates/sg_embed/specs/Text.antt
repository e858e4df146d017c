-- Texts as C takes them: cut to a buffer, with a zero after the text.
use Rattle.std.specs.Prelude.{◌≡◌, ◌⊎◌, ℕ, List, [], ◌∷◌, ◌++◌, Option, MatchOption, codes, length, take}
use Rattle.sg_wire.specs.FirstBytes.{overwritten}
use Rattle.sg_run.specs.AnswerText.{answer_text}
use Rattle.sg_run.specs.FaultText.{faults_text}
use Rattle.sg_target.specs.State.{profile_of}
use Rattle.sg_embed.specs.Served.{target_of}
use Rattle.sg_embed.specs.declared.kept.Kept.{Kept}
use Rattle.sg_embed.specs.Kinds.{kind_numbered}

-- A buffer with a text at its beginning, cut to the buffer, and a zero after the text.
abbrev pub text_in : List ℕ → List ℕ → List ℕ
text_in text [] = []
text_in text (byte ∷ rest) = overwritten (take (length rest) text ++ 0 ∷ []) (byte ∷ rest)

-- The library's version, and the logic that it is proved in.
abbrev pub version_text : List ℕ
version_text = codes "mehdalung 1.0.0, proved in Rattle's logic dac8208d650f15bf"

-- The result if there is no text: the largest number of 64 bits.
abbrev pub no_text : ℕ
no_text = 18446744073709551615

-- There is no text, and the buffer is as it was.
abbrev pub IsUntouched : (before after : List ℕ) → (result : ℕ) → Type 0
IsUntouched before after result = (result ≡ no_text) × (after ≡ before)

-- A text is in a buffer, and its whole length is returned.
abbrev pub IsText : (text before after : List ℕ) → (result : ℕ) → Type 0
IsText text before after result = (result ≡ length text) × (after ≡ text_in text before)

-- Or memory was refused for it.
abbrev pub IsTextUnlessRefused : (text before after : List ℕ) → (result : ℕ) → Type 0
IsTextUnlessRefused text before after result =
    IsUntouched before after result ⊎ IsText text before after result

-- The text of an answer of the kind with a number. No kind has another number.
abbrev pub IsDecoded : (kind : ℕ) → (data_in before after : List ℕ) → (result : ℕ) → Type 0
IsDecoded kind data_in before after result =
    MatchOption (kind_numbered kind) (IsUntouched before after result)
    (λ show. IsTextUnlessRefused (answer_text show data_in) before after result)

-- The text of the faults that are armed on a disk, if there is a disk.
abbrev pub IsFaultsText : Option Kept → (before after : List ℕ) → (result : ℕ) → Type 0
IsFaultsText held before after result =
    MatchOption held (IsUntouched before after result)
    (λ kept. let target = target_of kept.target in
    IsTextUnlessRefused (faults_text (profile_of target.state) target.faults) before after result)
