-- The memory that the slot of a disk owns.
use Rattle.std.specs.Prelude.{Option, None, Some}
use base.Fml.{Fml, feq}
use denote.RattleType.{RattleType}
use denote.RawPtr.{Ptr, null_ptr}
use Rattle.std.specs.declared.alloc.Global.{Global}
use Rattle.std.specs.contracts.impls.GlobalAllocator.TheImpl.{ghosts}
use Rattle.std.specs.Box.Ownership.{box_owns}

-- Nothing at null, or what a box of the value owns.
abbrev pub holds : (R : RattleType) → Global → Ptr → Option R.Denot → Fml
holds R alloc p None = feq Ptr p null_ptr
holds R alloc p (Some x) = box_owns (ghosts.dealloc_token alloc) R p x
