-- A text after its header.
use Rattle.std.proofs.Common.{◌≡◌, ℕ, List, [], Bool, true, false, None, append-nil, refl, if◌then◌else◌}
use Rattle.sg_wire.specs.Printing.{Printing, Prints}
use Rattle.sg_wire.proofs.PrintingLemmas.{Prints-on}
use Rattle.sg_decode.specs.Items.{Decoder, decoded, shown, all_shown, body_text}

-- the header ended the text
pub header_ends : (d : Decoder) (bytes : List ℕ) (a b : Printing) (all : Bool)
    → all ≡ all_shown None bytes d.header → all ≡ false → Prints a b (shown None bytes d.header)
    → Prints a b (decoded d bytes)
unfolding decoded
header_ends d bytes a b all same ends p =
    let over : all_shown None bytes d.header ≡ false = cc in
    rw (over, append-nil (shown None bytes d.header)) p

-- the rest is shown after the header
pub goes_on : (d : Decoder) (bytes : List ℕ) (a b c : Printing) (all : Bool)
    → all ≡ all_shown None bytes d.header → all ≡ true → Prints a b (shown None bytes d.header)
    → Prints b c (body_text d bytes) → Prints a c (decoded d bytes)
unfolding decoded
goes_on d bytes a b c all same more p q =
    let on : all_shown None bytes d.header ≡ true = cc in
    rw on (Prints-on p q)

-- an answer that is all header
pub all_header : (d : Decoder) (bytes : List ℕ) (a b : Printing) → body_text d bytes ≡ []
    → Prints a b (shown None bytes d.header) → Prints a b (decoded d bytes)
unfolding decoded
all_header d bytes a b nothing p =
    let over : (if all_shown None bytes d.header then body_text d bytes else []) ≡ [] =
    elim (all_shown None bytes d.header) as (λ v. (if v then body_text d bytes else []) ≡ []) [
      | true ↦ nothing
      | false ↦ refl
    ] in
    rw (over, append-nil (shown None bytes d.header)) p

pub ruleset decoders = (header_ends, goes_on)
