-- A ghost number owns nothing at run time.
use Rattle.std.proofs.Common.{List, [], ◌∷◌, refl}
use seplogic.Ra.Ura.{Ura}
use mir.Val.{Val, vstruct, vnil}
use types.Logic.{Logic}
use types.Kit.{Goal, Step, step, Item, ‵, ◌$◌, fjoin, fpack, feq_i}
use denote.RattleType.{Valss}
use denote.Steps.{nothing}
use denote.Struct.Owning.{shape}
use denote.Struct.Struct.{within}
use Rattle.sg_table.specs.contracts.ghost_number.GhostNumber.{the_row, the_type}
use Rattle.sg_table.specs.declared.ghost_number.GhostNumber.{GhostNumber}

-- the value of a struct without fields
abbrev pub empty_value : Val
empty_value = vstruct vnil

-- a ghost number of any value can be made at any time
pub ghost_made : {M : Type 1} {𝓤 : Ura M} {𝓛 : Logic 𝓤} {K : Type 0} {Γ : List (Item 𝓤)}
    {G : Goal 𝓤 𝓛.H} → K → (number : GhostNumber)
    → Step K 𝓛 (‵ (the_row.own_val number (empty_value ∷ [])) ∷ Γ) G Γ G
ghost_made t number =
    step (λ s. nothing t $ nothing t $ feq_i t (List Val) (empty_value ∷ [])
    (empty_value ∷ []) refl $ fjoin t $ fpack t (Valss [])
    (within (shape the_type) tt (empty_value ∷ [])) tt $ fjoin t $ s)
