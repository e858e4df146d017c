-- A parameter list that is put whole into a buffer.
use Rattle.std.proofs.Common.{◌≡◌, ◌≤◌, ℕ, List, length, ap, ◌∙◌}
use Rattle.std.proofs.lemmas.List.{take_all}
use Rattle.sg_wire.specs.FirstBytes.{first_bytes, overwritten}

pub put-whole : (limit : ℕ) (list old new : List ℕ)
    → new ≡ overwritten (first_bytes limit list) old → length list ≤ limit
    → new ≡ overwritten list old
put-whole limit list old new is fits = is ∙ ap (λ bytes. overwritten bytes old) (take_all limit list fits)

pub length-whole : (limit written : ℕ) (list : List ℕ)
    → written ≡ length (first_bytes limit list) → length list ≤ limit → written ≡ length list
length-whole limit written list long fits = long ∙ ap length (take_all limit list fits)
