-- What is claimed of exceptions: those of local steps leave everything as it was.
use Rattle.std.specs.Prelude.{ℕ, ◌≡◌}
use Rattle.herm_model.specs.Statements.{Form}
use Rattle.herm_model.specs.Outcomes.{raised}
use Rattle.herm_forms.specs.Frames.{Name, Frame, goes}
use Rattle.herm_forms.specs.Modules.{Module}
use Rattle.herm_forms.specs.Acts.{act}

-- Where a form that is a local step raises an exception, it leaves the body that it was given.
-- Language reference, "Exceptions".
abbrev pub ExceptionsLeaveAll : Type 0
ExceptionsLeaveAll = (name : Name → Name) (c : Module) (statement : ℕ) (form : Form) (b b' : Frame Name) (e : ℕ) → act name c statement form b ≡ goes (raised e) b' → b' ≡ b
