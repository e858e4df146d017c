-- The flags of PERSISTENT RESERVE OUT that the disk does not support.
use Rattle.std.specs.Prelude.{Bool, not, ◌&&◌, ◌||◌}
use Rattle.sg_wire.specs.declared.command.out_action.OutAction.{OutAction}
use Rattle.sg_wire.specs.declared.command.out_action.OutAction.TheVariants.{Register}
use Rattle.sg_wire.specs.declared.command.out_action.OutAction.TheVariants.{RegisterAndIgnoreExistingKey}
use Rattle.sg_wire.specs.declared.out_list.OutList.{OutList}
use Rattle.sg_wire.specs.declared.profile.Rules.{Rules}

-- A flag is set that is not supported. A disk supports SPEC_I_PT only for REGISTER, and ALL_TG_PT only
-- for the service actions that register, if it supports them at all. Other service actions ignore
-- ALL_TG_PT and APTPL.
abbrev pub has_unsupported_flag : Rules → OutAction → OutList → Bool
has_unsupported_flag rules Register list =
    not rules.specifies_ports && (list.spec_i_pt || list.all_tg_pt)
has_unsupported_flag rules RegisterAndIgnoreExistingKey list =
    list.spec_i_pt || (not rules.specifies_ports && list.all_tg_pt)
has_unsupported_flag rules action list = list.spec_i_pt
