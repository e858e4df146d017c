-- The command that is planned for the words of a tool.
use Rattle.std.specs.Prelude.{◌≡◌, ℕ, List, Some, Ok, length, replicate}
use Rattle.sg_wire.specs.FirstBytes.{overwritten}
use Rattle.sg_wire.specs.CdbEncoding.{cdb_of}
use Rattle.sg_tools.specs.ParameterLists.{parameter_list}
use Rattle.sg_tools.specs.declared.tool.Plan.{Plan}
use Rattle.sg_tools.specs.declared.tool.Tool.{Tool}
use Rattle.sg_run.specs.ToolText.{tool_of_text}
use Rattle.sg_embed.specs.Kinds.{kind_numbered}
use Rattle.sg_embed.specs.declared.command.CommandRecord.{CommandRecord}

-- The room for a CDB in a record, in bytes.
abbrev pub cdb_room : ℕ
cdb_room = 16

-- A CDB with zeros after it.
abbrev pub padded : List ℕ → List ℕ
padded cdb = overwritten cdb (replicate cdb_room 0)

-- The words of a text ask a tool for a command, which a record and the buffer for data-out have.
-- The bytes after data-out are as they were.
pub record IsPlanned (text before after : List ℕ) (shown : CommandRecord) : Type 0 where
  pub tool : Tool
  pub asked : tool_of_text text ≡ Ok tool
  pub cdb : shown.cdb ≡ padded (cdb_of tool.command)
  pub cdb_length : shown.cdb_length ≡ length (cdb_of tool.command)
  pub kind : kind_numbered shown.kind ≡ Some tool.show
  pub data_out_length : shown.data_out_length ≡ length (parameter_list tool.parameters)
  pub data_out : after ≡ overwritten (parameter_list tool.parameters) before

-- ---- Cited only by private contracts

-- A record shows the bytes that a tool sends.
pub record ShowsPlan (shown : CommandRecord) (plan : Plan) : Type 0 where
  pub cdb : shown.cdb ≡ padded plan.cdb
  pub cdb_length : shown.cdb_length ≡ length plan.cdb
  pub kind : kind_numbered shown.kind ≡ Some plan.show
  pub data_out_length : shown.data_out_length ≡ plan.data_out
