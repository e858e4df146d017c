use Rattle.sg_pages.proofs.ChangeLemmas.{page-found}
use Rattle.sg_pages.proofs.laws.each_page_is_found.Goals as goal

pub returns : goal.returns
returns c = page-found
