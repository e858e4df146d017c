-- The data-out of a tool: a list of UNMAP or of PERSISTENT RESERVE OUT, bytes or a block that options
-- give, or no byte.
use Rattle.std.specs.Prelude.{ℕ, List, [], replicate}
use Rattle.sg_wire.specs.OutListBytes.{out_list_bytes}
use Rattle.sg_wire.specs.UnmapListBytes.{unmap_list_bytes}
pub use Rattle.sg_tools.specs.DataOut.{block_length, max_data_out}
use Rattle.sg_tools.specs.declared.parameters.Parameters.{Parameters}
use Rattle.sg_tools.specs.declared.parameters.Parameters.TheVariants as parameters

-- The data-out of a command.
abbrev pub parameter_list : Parameters → List ℕ
parameter_list parameters.Nothing = []
parameter_list (parameters.Unmap extents) = unmap_list_bytes extents
parameter_list (parameters.ReserveOut list) = out_list_bytes list
parameter_list (parameters.Bytes bytes) = bytes
parameter_list (parameters.Block byte) = replicate block_length byte
