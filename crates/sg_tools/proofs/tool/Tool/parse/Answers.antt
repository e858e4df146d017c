use Rattle.sg_tools.proofs.RequestLemmas.{answered, refused}
use Rattle.sg_tools.proofs.tool.Tool.parse.Goals as goal

pub returns-in-Ok : goal.returns-in-Ok
returns-in-Ok c = answered c.args.tool _ _ _ c.in-Ok.ensures c.request_of.ensures

pub returns-in-Err : goal.returns-in-Err
returns-in-Err c = refused c.args.tool _ c.in-Err.fault c.in-Err.ensures
