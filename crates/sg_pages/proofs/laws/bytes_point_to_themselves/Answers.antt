use Rattle.sg_pages.proofs.FieldLemmas.{without-fields}
use Rattle.sg_pages.proofs.laws.bytes_point_to_themselves.Goals as goal

pub returns : goal.returns
returns c = without-fields
