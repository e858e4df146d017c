-- A command and its options.
use Rattle.std.proofs.Common.{◌≡◌, ◌<◌, ◌+◌, ℕ, List, [], ◌∷◌, ◌++◌, map, take, length, get_or}
use Rattle.std.proofs.Common.{refl, ap, sym, ◌∙◌}
use Rattle.std.proofs.lemmas.List.{take_more, map-append}
use Rattle.clap.specs.Words.{App, Rule, with_rule}
use Rattle.sg_tools.specs.Options.{rule, with_rules}
use Rattle.sg_tools.specs.OptionTables.{option_row, option_rows}
use Rattle.sg_tools.specs.declared.options.ToolOption.{ToolOption}

with_rules-append : (a : App) (rs qs : List Rule)
    → with_rules a (rs ++ qs) ≡ with_rules (with_rules a rs) qs
unfolding with_rules
with_rules-append a [] qs = refl
with_rules-append a (r ∷ rs) qs = with_rules-append (with_rule a r) rs qs

-- one more option
pub one_more : (a b c : App) (options : List ToolOption) (i : ℕ) (d : ToolOption) (r : Rule)
    → i < length options → b ≡ with_rules a (map rule (option_rows (take i options)))
    → c ≡ with_rule b r → r ≡ rule (option_row (get_or options i d)) → c
    ≡ with_rules a (map rule (option_rows (take (i + 1) options)))
unfolding with_rules
one_more a b c options i d r within before step same =
    let more : map rule (option_rows (take (i + 1) options))
    ≡ map rule (option_rows (take i options)) ++ (rule (option_row (get_or options i d)) ∷ []) =
    ap (λ xs. map rule (option_rows xs)) (take_more options i d within)
    ∙ ap (map rule) (map-append option_row (take i options) (get_or options i d ∷ []))
    ∙ map-append rule (option_rows (take i options)) (option_row (get_or options i d) ∷ []) in
    step ∙ rw (before, same) (sym (ap (with_rules a) more
    ∙ with_rules-append a (map rule (option_rows (take i options)))
    (rule (option_row (get_or options i d)) ∷ [])))
