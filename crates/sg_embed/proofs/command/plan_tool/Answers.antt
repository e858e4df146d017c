use Rattle.std.proofs.Common.{rules}
use Rattle.sg_embed.proofs.CommandLemmas.{asked-tool}
use Rattle.sg_embed.proofs.command.plan_tool.Goals as goal

pub returns-in-Ok-clause-planned : goal.returns-in-Ok-clause-planned
returns-in-Ok-clause-planned c = record {
  tool = c.in-Ok.tool;
  asked = asked-tool c.args.text.now _ c.in-Ok.tool c.in-Ok.is c.read_tool.ensures;
  cdb = search rules;
  cdb_length = search rules;
  kind = search rules;
  data_out_length = search rules;
  data_out = search rules;
}
