use Rattle.std.proofs.Common.{◌≡◌, ◌+◌, ◌-◌, ◌++◌, ℕ, ◌∙◌, ap, arith, take, drop}
use Rattle.byteorder.specs.Endian.{big_bytes}
use Rattle.sg_journal.specs.Layout.{checksum}
use Rattle.sg_journal.proofs.Buffers.{sealed_is, sealed_keeps}
use Rattle.sg_journal.proofs.batch.seal.Goals as goal

pub returns-clause-written : goal.returns-clause-written
returns-clause-written c =
    let b = c.args.buffer.now in
    let len : ℕ = c.args.len in
    let e : 16 + len - 16 ≡ len = omega arith in
    let fields = c.put_fields.ensures ∙ ap (λ (n : ℕ). big_bytes 8 len ++ big_bytes 8 n)
    (c.checksum-checksum.ensures ∙ ap (λ (n : ℕ). checksum (take n (drop 16 b))) e) in
    sealed_is c.args.sector len c.body_size-size.result b c.put_fields.new.fields
    c.put_zeros.new.buffer c.requires.sector.0 c.body_size-size.ensures.value (omega arith) fields
    c.put_zeros.ensures

pub returns-clause-kept : goal.returns-clause-kept
returns-clause-kept c =
    let b = c.args.buffer.now in
    let len : ℕ = c.args.len in
    let e : 16 + len - 16 ≡ len = omega arith in
    let fields = c.put_fields.ensures ∙ ap (λ (n : ℕ). big_bytes 8 len ++ big_bytes 8 n)
    (c.checksum-checksum.ensures ∙ ap (λ (n : ℕ). checksum (take n (drop 16 b))) e) in
    sealed_keeps c.args.sector len c.body_size-size.result b c.put_fields.new.fields
    c.put_zeros.new.buffer c.requires.sector.0 c.body_size-size.ensures.value (omega arith) fields
    c.put_zeros.ensures
