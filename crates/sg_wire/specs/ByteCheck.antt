-- BYTCHK: what a verification compares blocks with (SBC-3, 5.29).
use Rattle.std.specs.Prelude.{ℕ, ◌==◌, List, [], ◌∷◌, find, unwrap_or}
use Rattle.sg_wire.specs.declared.command.verify.ByteCheck.{ByteCheck}
use Rattle.sg_wire.specs.declared.command.verify.ByteCheck.TheVariants.{Nothing, DataOut}
use Rattle.sg_wire.specs.declared.command.verify.ByteCheck.TheVariants.{Reserved, OneBlock}

-- The code of each, in the BYTCHK field.
abbrev pub byte_check_code : ByteCheck → ℕ
byte_check_code Nothing = 0
byte_check_code DataOut = 1
byte_check_code Reserved = 2
byte_check_code OneBlock = 3

abbrev pub each_byte_check : List ByteCheck
each_byte_check = Nothing ∷ DataOut ∷ Reserved ∷ OneBlock ∷ []

-- What a BYTCHK field asks for. The field has two bits, so it is one of the four codes.
abbrev pub byte_check_of : (field : ℕ) → ByteCheck
byte_check_of field = unwrap_or (find (λ check. field == byte_check_code check) each_byte_check) OneBlock
