-- TransportIDs by their index.
use Rattle.std.proofs.Common.{◌≡◌, ◌<◌, ◌+◌, ◌*◌, ℕ, List, length, arith, ap, ◌∙◌}
use Rattle.std.specs.Prelude.{Some, None, slice_index_or, if◌then◌else◌}
use Rattle.std.proofs.lemmas.Bool.Decides.{nat_tests}
use Rattle.byteorder.specs.Endian.{big_bytes}
use Rattle.byteorder.specs.Numbers.{big_number-reads_back}
use Rattle.sg_wire.specs.Fields.{fields_bytes}
use Rattle.sg_wire.specs.Initiator.{initiator_count}
use Rattle.std.proofs.lemmas.Grind.{div_ceil_times}
use Rattle.std.proofs.lemmas.List.FromFn.{get_or-map-range_with_len, length-map-range_with_len}
use Rattle.sg_wire.specs.TransportId.{first_sas_address, id_at, id_count, initiator_at, is_sas}
use Rattle.sg_wire.specs.TransportId.{named_by, named_initiators, transport_id}

pub named-count : (bytes : List ℕ) → length (named_initiators bytes) ≡ id_count bytes
named-count bytes = length-map-range_with_len (λ index. named_by (id_at bytes index)) 0 (id_count bytes)

-- a TransportID begins within the bytes
pub begins : (bytes : List ℕ) (index : ℕ) → index < length (named_initiators bytes)
    → 24 * index < length bytes
begins bytes index h =
    omega (arith, h, named-count bytes, (div_ceil_times (length bytes) 24 (omega arith)).1)

pub named-at : (bytes : List ℕ) (index : ℕ) → index < length (named_initiators bytes)
    → slice_index_or (named_initiators bytes) index None ≡ named_by (id_at bytes index)
named-at bytes index h =
    get_or-map-range_with_len (λ i. named_by (id_at bytes i)) 0 (id_count bytes) index index None
    (omega (arith, h, named-count bytes)) (omega arith)

number-back : (i : ℕ) → i < initiator_count → initiator_at (first_sas_address + i) ≡ Some i
number-back i h = grind (arith, nat_tests)

-- an initiator's TransportID names it
pub names : (i : ℕ) → i < initiator_count → named_by (fields_bytes (transport_id i)) ≡ Some i
unfolding named_by
names i h =
    let id = fields_bytes (transport_id i) in
    let read = big_number-reads_back 8 (first_sas_address + i) (big_bytes 12 0) (omega (arith, h)) in
    ap (λ address. if is_sas id then initiator_at address else None) read ∙ number-back i h
