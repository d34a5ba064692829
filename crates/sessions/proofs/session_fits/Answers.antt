-- `session_fits` meets its contract: the marks first, then the holds.
use mathlib.Core.Path.{sym, ◌∙◌}
use Rattle.rules.specs.Sessions.{session_fits}
use Rattle.sessions.proofs.session_fits.Goals as goal

pub returns-then-marks_fit : goal.returns-then-marks_fit
unfolding session_fits
returns-then-marks_fit c = rw (sym c.marks_fit.ensures ∙ c.if-marks_fit.true) c.holds_fit.ensures

pub returns-else-marks_fit : goal.returns-else-marks_fit
unfolding session_fits
returns-else-marks_fit c = rw (sym c.marks_fit.ensures ∙ c.if-marks_fit.false) c.if-marks_fit.false
