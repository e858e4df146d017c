-- Equal contents are equal in one way. The model of a type that has contents needs this.
use Rattle.std.specs.Prelude.{◌≡◌, ℕ, List, Option, Some, None}
use Rattle.std.specs.Coded.{Coded, code_by, coded_ℕ, coded_list, coded_option}
use Rattle.std.specs.FinMap.{code}
use Rattle.std.proofs.Common.{refl}
use Rattle.sg_store.specs.Disk.{Contents, Mapping}
use Rattle.sg_store.specs.Disk.Mapping.{Data, Anchored}

-- A mapping as the block that it has, if it has one, and back.
abbrev to_block : Mapping → Option (List ℕ)
to_block (Data block) = Some block
to_block Anchored = None

abbrev from_block : Option (List ℕ) → Mapping
from_block (Some block) = Data block
from_block None = Anchored

pub from_block-to_block : (mapping : Mapping) → from_block (to_block mapping) ≡ mapping
from_block-to_block (Data block) = refl
from_block-to_block Anchored = refl

abbrev mapping_code : Coded Mapping
mapping_code = code_by (Option (List ℕ)) (coded_option (coded_list coded_ℕ)) to_block from_block
    from_block-to_block

abbrev pub contents_code : Coded Contents
contents_code = code coded_ℕ mapping_code
