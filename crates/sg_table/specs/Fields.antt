-- The fields that a type declares, with their types. A law about the values of a type says nothing
-- about a field that the values leave out. A law about the fields of the type does.
use Rattle.std.specs.Prelude.{◌≡◌, List, [], ◌∷◌}
use Rattle.std.specs.contracts.alloc.Global.{the_row as global}
use Rattle.std.specs.contracts.impls.GlobalAllocator.TheImpl.{ghosts}
use Rattle.std.specs.contracts.vec.Vec as vec
use denote.RattleType.{RattleType}
use denote.Struct.Field.{Field}
use mir.Syntax.{Written}

-- The type of each field, with its arguments.
abbrev pub types_of : List Field → List Written
types_of [] = []
types_of (field ∷ fields) = field.row.written ∷ types_of fields

-- The declared fields have the types of the listed fields, in their order, and there are no others.
abbrev pub HasOnly : (declared listed : List Field) → Type 0
HasOnly declared listed = types_of declared ≡ types_of listed

-- The same for each variant of an enum, in turn.
abbrev pub variants_of : List (List Field) → List (List Written)
variants_of [] = []
variants_of (fields ∷ variants) = types_of fields ∷ variants_of variants

abbrev pub VariantsHaveOnly : (declared listed : List (List Field)) → Type 0
VariantsHaveOnly declared listed = variants_of declared ≡ variants_of listed

-- A vector, in the memory of the program.
abbrev pub vec_field : (element : RattleType) → Field
vec_field element = vec.the_field element global ghosts
