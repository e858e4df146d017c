-- The answers to chosen commands of a list.
use Rattle.std.specs.Prelude.{Bool, List, [], ◌∷◌, filter, map}
use Rattle.std.specs.List.{zip}
use Rattle.sg_target.specs.Runs.{all_calls, answers_to_events}
use Rattle.sg_target.specs.State.{State}
use Rattle.sg_target.specs.Step.{Answer}
use Rattle.sg_target.specs.declared.call.Call.{Call}
use Rattle.sg_target.specs.declared.event.Event.{Event}
use Rattle.sg_target.specs.declared.event.Event.TheVariants as event

-- The commands among events, in order.
abbrev pub calls_among : List Event → List Call
calls_among [] = []
calls_among (event.Call call ∷ events) = call ∷ calls_among events
calls_among (event.Happen happening ∷ events) = calls_among events

-- The answers to the chosen commands, in order.
abbrev pub answers_among : (chosen : Call → Bool) → State → List Event → List Answer
answers_among chosen state events =
    map (λ (exchange : Call × Answer). exchange.1)
    (filter (λ (exchange : Call × Answer). chosen exchange.0)
    (zip (calls_among events) (answers_to_events state events)))

-- The same over a list of only commands.
abbrev pub answers_where : (chosen : Call → Bool) → State → List Call → List Answer
answers_where chosen state calls = answers_among chosen state (all_calls calls)
