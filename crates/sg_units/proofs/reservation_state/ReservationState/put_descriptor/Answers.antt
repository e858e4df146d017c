use Rattle.std.proofs.Common.{◌≡◌, ◌∙◌, ap, refl, ◌%◌, List, [], ◌∷◌, ◌++◌, ℕ}
use Rattle.byteorder.specs.Endian.{big_bytes}
use Rattle.sg_wire.specs.Cut.{answer_of}
use Rattle.sg_wire.specs.CutAnswer.{put}
use Rattle.sg_units.specs.ReserveIn.{holder_key}
use Rattle.sg_units.specs.ReservationType.{code_of}
use Rattle.sg_units.specs.declared.types.ReservationType.{ReservationType}
use Rattle.sg_units.specs.declared.types.ReservationType.TheVariants as type
use Rattle.sg_units.proofs.reservation_state.ReservationState.put_descriptor.Goals as goal

-- a code is one byte
code-byte : (type : ReservationType) → code_of type ≡ code_of type % 256
code-byte type.WriteExclusive = refl
code-byte type.ExclusiveAccess = refl
code-byte type.WriteExclusiveRegistrantsOnly = refl
code-byte type.ExclusiveAccessRegistrantsOnly = refl
code-byte type.WriteExclusiveAllRegistrants = refl
code-byte type.ExclusiveAccessAllRegistrants = refl

abbrev behind_key : (code : ℕ) → List ℕ
behind_key code = 0 ∷ 0 ∷ 0 ∷ 0 ∷ 0 ∷ code ∷ 0 ∷ 0 ∷ []

pub returns : goal.returns
returns c =
    let old = answer_of c.args.cut.now in
    let reservation = c.args.reservation.now in
    let key = big_bytes 8 (holder_key c.args.self.now.registrations reservation.holder) in
    let same_code = c.code.ensures ∙ code-byte reservation.kind in
    let same_key = c.key_bytes.ensures ∙ ap (big_bytes 8) c.holder_key-key.ensures in
    c.put-2.ensures
    ∙ (ap (λ a. put a (behind_key c.code.result)) (c.put.ensures ∙ ap (put old) same_key)
    ∙ (c.parts_are_put_in_turn.ensures.in_turn old key (behind_key c.code.result)
    ∙ ap (λ code. put old (key ++ behind_key code)) same_code))
