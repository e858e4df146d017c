-- The mode pages of a new disk, and after a power cycle (SPC-4, 7.5).
use Rattle.sg_wire.specs.declared.profile.Profile.{Profile}
use Rattle.sg_pages.specs.ModePage.{ModeState, default_values}
use Rattle.sg_pages.specs.declared.mode_pages.mode_page.PageValues.{PageValues}

-- The pages of a new disk of a profile.
abbrev pub initial_state : Profile → ModeState
initial_state profile =
    record { current = default_values profile; saved = default_values profile }

-- A power cycle: the saved values become the current ones (SPC-4, 7.5).
abbrev pub after_power_on : ModeState → ModeState
after_power_on state = record { current = state.saved; saved = state.saved }

-- The pages after power on, with these saved values.
abbrev pub restored_pages : (saved : PageValues) → ModeState
restored_pages saved = record { current = saved; saved = saved }
