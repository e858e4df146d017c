-- EXTENDED COPY: what its list asks for.
use Rattle.std.proofs.Common.{◌≡◌, ◌∙◌, ℕ, List, [], ◌∷◌, Option, Some, None, Result, Ok, Err, ap, sym}
use Rattle.sg_copy.specs.CopyList.{copy_list}
use Rattle.sg_copy.specs.declared.copy_list.CopyList.{CopyList}
use Rattle.sg_copy.specs.declared.fault.CopyFault.{CopyFault}
use Rattle.sg_pages.specs.VitalProductData.{unit_designation}
use Rattle.sg_wire.specs.FirstBytes.{first_bytes}
use Rattle.sg_wire.specs.Profile.{maximum_transfer_length}
use Rattle.sg_wire.specs.declared.command.copy.ExtendedCopy.{ExtendedCopy}
use Rattle.sg_target.specs.Checks.{requested, short_data_out}
use Rattle.sg_target.specs.Config.{ConfigFields}
use Rattle.sg_target.specs.DataOut.{need}
use Rattle.sg_target.specs.CopyRequest.{copy_asked, copy_refusal}
use Rattle.sg_target.specs.Demands.{extended_copy}
use Rattle.sg_target.specs.Refusal.{first_some, or_refused, unless_refused, when_sound}
use Rattle.sg_target.specs.declared.operation.Operation.{Operation}
use Rattle.sg_target.specs.declared.refusal.Refusal.{Refusal}

module _ (config : ConfigFields) (c : ExtendedCopy) (data_out : List ℕ) where
  abbrev list : List ℕ
  list = first_bytes c.list_length data_out

  abbrev read : Result CopyList CopyFault
  read = copy_list (unit_designation config.identity) maximum_transfer_length config.blocks list

  -- the list of a disk that is read
  pub is-read : (unit bytes : List ℕ) (blocks : ℕ) (found : Result CopyList CopyFault)
      → found ≡ copy_list unit maximum_transfer_length blocks bytes
      → unit ≡ unit_designation config.identity → blocks ≡ config.blocks → bytes ≡ list → found ≡ read
  is-read unit bytes blocks found e u b l =
      e ∙ ap (λ (unit : List ℕ). copy_list unit maximum_transfer_length blocks bytes) u
      ∙ ap (λ (n : ℕ). copy_list (unit_designation config.identity) maximum_transfer_length n bytes) b
      ∙ ap (λ (bytes : List ℕ). copy_list (unit_designation config.identity) maximum_transfer_length
      config.blocks bytes) l

  abbrev asked-if : Option Refusal → Result CopyList CopyFault → Result Operation Refusal
  asked-if short found =
      unless_refused (first_some (None ∷ short ∷ [])) (when_sound (or_refused copy_refusal found) copy_asked)

  -- there is enough data-out
  module _ (whole : short_data_out (Some (need config c.list_length)) data_out ≡ None) where
    pub is-refused : (fault : CopyFault) → Err fault ≡ read
        → requested (extended_copy config c data_out) data_out ≡ Err (copy_refusal fault)
    is-refused fault e = ap (λ short. asked-if short read) whole ∙ ap (asked-if None) (sym e)

    pub is-sound : (asked : CopyList) → Ok asked ≡ read
        → requested (extended_copy config c data_out) data_out ≡ Ok (copy_asked asked)
    is-sound asked e = ap (λ short. asked-if short read) whole ∙ ap (asked-if None) (sym e)
