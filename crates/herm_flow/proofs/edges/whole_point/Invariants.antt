use Rattle.herm_judge.specs.View.{variables_of}
use Rattle.herm_flow.proofs.edges.whole_point.Given as goal

-- the types of the variables are those of the frame
abbrev pub ghost-outcomes_at : goal.ghost-outcomes_at
ghost-outcomes_at a = variables_of a.frame.now
