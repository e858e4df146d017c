-- The parameter list of PERSISTENT RESERVE OUT reads back as it was written.
use Rattle.std.proofs.Common.{◌≡◌, ◌<◌, ◌^◌, ℕ, List, [], ◌∷◌, ◌++◌, Bool, true, false, refl, ap, ◌∙◌, arith}
use Rattle.std.specs.Prelude.{◌≤◌, ◌-◌, drop, length, take, if◌then◌else◌}
use Rattle.std.proofs.lemmas.List.{drop_all, length-drop, take_all}
use Rattle.byteorder.specs.Endian.{big_bytes, big_number}
use Rattle.byteorder.specs.Numbers.{big_number-reads_back}
use Rattle.sg_wire.specs.Bits.{has_bit}
use Rattle.sg_wire.specs.OutList.{out_list}
use Rattle.sg_wire.specs.OutListBytes.{out_list_bytes}
use Rattle.sg_wire.specs.TransportId.{named_initiators}
use Rattle.sg_wire.specs.declared.out_list.OutList.{OutList}

abbrev list_with : (key action_key : ℕ) (spec_i_pt all_tg_pt aptpl : Bool) → OutList
list_with key action_key spec_i_pt all_tg_pt aptpl = record {
  reservation_key = key;
  service_action_key = action_key;
  spec_i_pt = spec_i_pt;
  all_tg_pt = all_tg_pt;
  aptpl = aptpl;
  unreg = false;
  port = 0;
  others = [];
}

unnamed : (is_set : Bool) → (if is_set then named_initiators [] else []) ≡ []
unnamed true = refl
unnamed false = refl

module _ (key action_key : ℕ) (small : key < 2 ^ 64) (also : action_key < 2 ^ 64) where
  with_flags : (flags : ℕ) (s t a : Bool) → has_bit flags 0x08 ≡ s → has_bit flags 0x04 ≡ t
      → has_bit flags 0x01 ≡ a
      → out_list (big_bytes 8 key ++ big_bytes 8 action_key
      ++ 0 ∷ 0 ∷ 0 ∷ 0 ∷ flags ∷ 0 ∷ 0 ∷ 0 ∷ []) ≡ list_with key action_key s t a
  with_flags flags s t a e f g =
      let rest : List ℕ = 0 ∷ 0 ∷ 0 ∷ 0 ∷ flags ∷ 0 ∷ 0 ∷ 0 ∷ [] in
      let with_keys : ℕ → ℕ → OutList = λ n m.
      record (list_with n m (has_bit flags 0x08) (has_bit flags 0x04) (has_bit flags 0x01)) {
        others = if has_bit flags 0x08 then named_initiators [] else [];
      } in
      let first = big_number-reads_back 8 key (big_bytes 8 action_key ++ rest) small in
      let second = big_number-reads_back 8 action_key rest also in
      ap (λ n. with_keys n (big_number 8 (big_bytes 8 action_key ++ rest))) first
      ∙ ap (λ n. with_keys key n) second
      ∙ ap (λ others. record (with_keys key action_key) { others = others })
      (unnamed (has_bit flags 0x08))
      ∙ rw (e, f, g) refl

  by_flags : (s t a : Bool) → out_list (out_list_bytes (list_with key action_key s t a))
      ≡ list_with key action_key s t a
  by_flags true true true = with_flags 0x0D true true true refl refl refl
  by_flags true true false = with_flags 0x0C true true false refl refl refl
  by_flags true false true = with_flags 0x09 true false true refl refl refl
  by_flags true false false = with_flags 0x08 true false false refl refl refl
  by_flags false true true = with_flags 0x05 false true true refl refl refl
  by_flags false true false = with_flags 0x04 false true false refl refl refl
  by_flags false false true = with_flags 0x01 false false true refl refl refl
  by_flags false false false = with_flags 0x00 false false false refl refl refl

pub reads_back-out_list : (list : OutList) → list.reservation_key < 2 ^ 64
    → list.service_action_key < 2 ^ 64
    → out_list (out_list_bytes list) ≡ record list { unreg = false; port = 0; others = [] }
reads_back-out_list list small also =
    by_flags list.reservation_key list.service_action_key small also list.spec_i_pt list.all_tg_pt
    list.aptpl

pub short : (bytes : List ℕ) → length bytes ≤ 28 → named_initiators (drop 28 bytes) ≡ []
short bytes h = ap named_initiators (drop_all 28 bytes h)

pub whole : (bytes : List ℕ) (start : ℕ)
    → named_initiators (take (length bytes - start) (drop start bytes))
    ≡ named_initiators (drop start bytes)
whole bytes start =
    ap named_initiators
    (take_all (length bytes - start) (drop start bytes) (omega (arith, length-drop start bytes)))

pub ruleset rest = whole
