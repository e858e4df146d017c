-- The service actions whose flags are given.
use Rattle.std.proofs.Common.{◌≡◌, ◌<◌, ◌+◌, ℕ, List, [], ◌∷◌, ◌++◌, map, length, take, get_or}
use Rattle.std.proofs.Common.{true, false, refl, ap, ◌∙◌, append-nil}
use Rattle.std.specs.Prelude.{filter, if◌then◌else◌}
use Rattle.std.proofs.lemmas.List.{map_more, map-append}
use Rattle.std.proofs.lemmas.List.Elements.{filter-append}
use Rattle.clap.specs.Words.{Row}
use Rattle.sg_tools.specs.GivenOptions.{is_set}
use Rattle.sg_tools.specs.OptionTables.{action_row, action_rows}
use Rattle.sg_tools.specs.Requests.{ActionFlag as ActionRow, given_actions}
use Rattle.sg_tools.specs.declared.service_action.ActionFlag.{ActionFlag}
use Rattle.sg_tools.specs.declared.service_action.ServiceAction.{ServiceAction}

action_of : ActionRow → ServiceAction
action_of row = row.action

-- one more flag
step : (rows : List Row) (flags : List ActionFlag) (k : ℕ) (d : ActionFlag) → k < length flags
    → given_actions (action_rows (take (k + 1) flags)) rows
    ≡ given_actions (action_rows (take k flags)) rows
    ++ map (λ (row : ActionRow). row.action) (if is_set (get_or flags k d).0.now rows then
    action_row (get_or flags k d) ∷ [] else [])
unfolding given_actions
step rows flags k d within =
    ap (λ (xs : List ActionRow). map (λ (row : ActionRow). row.action)
    (filter (λ (row : ActionRow). is_set row.flag rows) xs)) (map_more action_row flags k d within)
    ∙ ap (map (λ (row : ActionRow). row.action)) (filter-append (λ (row : ActionRow). is_set
    row.flag rows) (action_rows (take k flags)) (action_row (get_or flags k d) ∷ []))
    ∙ map-append (λ (row : ActionRow). row.action) _ _

pub one_more : (rows : List Row) (flags : List ActionFlag) (k : ℕ) (d : ActionFlag)
    → k < length flags → is_set (get_or flags k d).0.now rows ≡ true
    → given_actions (action_rows (take (k + 1) flags)) rows
    ≡ given_actions (action_rows (take k flags)) rows ++ ((get_or flags k d).1 ∷ [])
one_more rows flags k d within set = step rows flags k d within ∙ rw set refl

pub no_more : (rows : List Row) (flags : List ActionFlag) (k : ℕ) (d : ActionFlag)
    → k < length flags → is_set (get_or flags k d).0.now rows ≡ false
    → given_actions (action_rows (take (k + 1) flags)) rows
    ≡ given_actions (action_rows (take k flags)) rows
no_more rows flags k d within unset = step rows flags k d within ∙ rw unset (append-nil _)
