-- What an edge of control finalises, in its order.
use Rattle.std.specs.Prelude.{Bool}
use Rattle.herm_model.specs.Paths.{Path, init}
use Rattle.herm_model.specs.Targets.{Target}
use Rattle.herm_model.specs.Labels.{label_at}
use Rattle.herm_model.specs.Values.{has_value}
use Rattle.herm_model.specs.Finalising.{excess}
use Rattle.herm_forms.specs.Frames.{Frame, drop}
use Rattle.herm_forms.specs.Modules.{Module}
use Rattle.herm_forms.specs.LeavingLoops.{keeps_loop, leave_loops}

-- Behind an edge to a node a path is kept where it has a value on every path to the node; at an end none is.
-- Language reference, "Finalising".
abbrev pub keeps : Module → Target → Path → Bool
keeps code t p = label_at code.label t (init p)

-- What an edge finalises: what is there and is not kept, by variables and then by parts, and then the lists of loops
-- that it leaves, innermost first. Language reference, "Finalising".
abbrev pub arrive : {N : Type 0} → Module → Target → Frame N → Frame N
arrive code t b = leave_loops (keeps_loop code t) (drop (excess code.types code.variables (has_value b.variables) (keeps code t)) b)
