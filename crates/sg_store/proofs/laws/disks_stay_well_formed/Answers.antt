use Rattle.sg_store.proofs.UnmapLemmas.{well_formed-unmapped}
use Rattle.sg_store.proofs.WellFormedLemmas.{well_formed-grown, well_formed-remapped}
use Rattle.sg_store.proofs.laws.disks_stay_well_formed.Goals as goal

pub returns : goal.returns
returns c = record {
  mapping = well_formed-remapped;
  unmapping = well_formed-unmapped;
  growing = well_formed-grown;
}
