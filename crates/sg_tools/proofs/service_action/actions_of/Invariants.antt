use Rattle.std.proofs.Common.{◌≡◌, ◌≤◌, length, take}
use Rattle.sg_tools.specs.OptionTables.{action_rows}
use Rattle.sg_tools.specs.Requests.{given_actions}
use Rattle.sg_tools.proofs.service_action.actions_of.Given as goal

-- the actions of the flags so far
abbrev pub invariant-loop-flag : goal.invariant-loop-flag
invariant-loop-flag l = record {
  so_far : l.actions.items ≡ given_actions (action_rows (take l.flag-index l.flags)) l.options;
  few : length l.actions.items ≤ l.flag-index;
}
