-- What the parameter list of an EXTENDED COPY asks for (SPC-4, 6.5).
use Rattle.std.specs.Prelude.{ℕ, List, Result}
use Rattle.std.specs.Option.{option_map_or}
use Rattle.sg_copy.specs.CopyList.{copy_list}
use Rattle.sg_copy.specs.declared.copy_list.CopyList.{CopyList}
use Rattle.sg_copy.specs.declared.fault.CopyFault.{CopyFault}
use Rattle.sg_wire.specs.Profile.{maximum_transfer_length}
use Rattle.sg_pages.specs.VitalProductData.{unit_designation}
use Rattle.sg_target.specs.Config.{ConfigFields}
use Rattle.sg_target.specs.Refusal.{or_refused}
use Rattle.sg_target.specs.declared.operation.Operation.{Operation}
use Rattle.sg_target.specs.declared.operation.Operation.TheVariants as operation
use Rattle.sg_target.specs.declared.refusal.Reason.TheVariants.{Copy}
use Rattle.sg_target.specs.declared.refusal.Refusal.{Refusal}
use Rattle.sg_target.specs.declared.refusal.Refusal.TheVariants.{CheckCondition}

-- The refusal of a list.
abbrev pub copy_refusal : CopyFault → Refusal
copy_refusal fault = CheckCondition (Copy fault)

-- What a list asks for, on a disk of the extended profile.
abbrev pub list_asked : ConfigFields → (list : List ℕ) → Result CopyList Refusal
list_asked config list =
    or_refused copy_refusal
    (copy_list (unit_designation config.identity) maximum_transfer_length config.blocks list)

abbrev pub copy_asked : CopyList → Operation
copy_asked list = option_map_or operation.Copy list.segment operation.Nothing
