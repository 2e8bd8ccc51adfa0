-- Steps of private functions.
use Rattle.std.specs.Prelude.{ℕ}
use Rattle.settings.specs.Settings.{fresh}
use Rattle.frame.specs.Frame.{Frame, order}
use Rattle.session.specs.declared.Office.{Office}
use Rattle.session.specs.declared.Stage.TheVariants.{Awaiting}
use Rattle.session.specs.Office.{office_of, empty_window, kept_change}

-- an office that has sent OPEN
abbrev pub awaiting : ℕ → Office
awaiting s = office_of Awaiting s fresh 0 0 empty_window

-- ORDER again
abbrev pub kept_order : Office → ℕ → Frame
kept_order o n = order o.session.0 n (kept_change o.window n)
