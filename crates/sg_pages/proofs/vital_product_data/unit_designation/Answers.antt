use Rattle.std.proofs.Common.{rules}
use Rattle.sg_pages.specs.VitalProductData.{designation_descriptor, registered_extended}
use Rattle.sg_pages.proofs.vital_product_data.unit_designation.Goals as goal

pub returns : goal.returns
unfolding designation_descriptor registered_extended
returns c = search rules
