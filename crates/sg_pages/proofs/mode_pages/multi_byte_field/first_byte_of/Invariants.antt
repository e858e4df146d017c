use Rattle.std.proofs.Common.{◌≡◌, ◌≤◌, min, drop}
use Rattle.sg_pages.specs.MultiByteField.{first_byte_of}
use Rattle.sg_pages.proofs.mode_pages.multi_byte_field.first_byte_of.Given as goal

-- the fields that are left are looked at in the same way
abbrev pub invariant-loop-field : goal.invariant-loop-field
invariant-loop-field l = record {
  bound : l.first ≤ l.byte;
  rest : min l.first (first_byte_of (drop l.field-index l.fields) l.byte)
      ≡ first_byte_of l.fields l.byte;
}
