use Rattle.std.proofs.Common.{◌≡◌, Result, Ok, Err}
use Rattle.sg_store.specs.Disk.{Disk}
use Rattle.sg_target.specs.Effect.{Effect}
use Rattle.sg_target.specs.Semantics.{effect_of}
use Rattle.sg_target.specs.declared.refusal.Refusal.{Refusal}
use Rattle.sg_fencing.proofs.DiskLemmas.{Leaves, changes-none, operation-leaves}
use Rattle.sg_fencing.proofs.laws.only_writes_change_blocks.Goals as goal

at-effect : (disk : Disk) (result : Result Effect Refusal) (effect : Effect) → Leaves disk result
    → result ≡ Ok effect → effect.after.disk ≡ disk
at-effect disk (Ok done) effect l e = cc
at-effect disk (Err refusal) effect l e = cc

pub returns : goal.returns
returns c state i operation effect h e =
    at-effect state.disk (effect_of state i operation) effect
    (operation-leaves state i operation (changes-none operation h)) e
