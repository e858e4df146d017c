-- The bytes that are stored for an array of bytes and for a flag.
use Rattle.std.proofs.Common.{◌≡◌, ℕ, zero, suc, List, [], ◌∷◌, Bool, true, false, length, refl, ap}
use Rattle.std.proofs.Common.{arith, ◌%◌}
use Rattle.std.specs.Prelude.{map, if◌then◌else◌}
use mathlib.Core.List.{head-eq_of_cons-eq}
use mir.Mem.{Cell, byte}
use mir.Syntax.{Ty, ty_int, w8}
use mir.Val.{Val, vint, bool_byte, of_list}
use prog.Memory.{enc_n, enc_of, enc}
use Rattle.sg_embed.specs.InMemory.{bytes}

pub array-bytes : (width : ℕ) (xs : List ℕ) → length xs ≡ width
    → enc_n (enc_of (ty_int w8)) (of_list (map (λ (x : ℕ). vint w8 x) xs)) ≡ bytes width xs
array-bytes zero [] e = refl
array-bytes zero (x ∷ xs) e = absurd (omega (arith, e))
array-bytes (suc width) [] e = absurd (omega (arith, e))
array-bytes (suc width) (x ∷ xs) e =
    ap (λ (rest : List Cell). byte (x % 256) ∷ rest) (array-bytes width xs (omega (arith, e)))

pub flag-byte : (flag : Bool) → bool_byte flag ≡ (if flag then 1 else 0) % 256
flag-byte true = refl
flag-byte false = refl

-- Two machine values that are one are stored alike.
pub stores : (τ : Ty) (v w : Val) → v ∷ [] ≡ w ∷ [] → enc τ v ≡ enc τ w
stores τ v w e = ap (enc τ) (head-eq_of_cons-eq e)
