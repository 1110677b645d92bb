use Rattle.herm_typestate.specs.Facts.{has_fact, mark_of}
use Rattle.herm_model.specs.Paths.{path_of}
use Rattle.herm_typestate.proofs.Marks.{no_trees}
use Rattle.herm_typestate.proofs.state.State.empty.Goals as goal

pub returns : goal.returns
unfolding has_fact
returns c f = no_trees c.in_ok-vars.vars.items c.in_ok-vars.ensures.items (mark_of f) (path_of f)
