use Rattle.std.proofs.Common.{ap, ◌∙◌}
use Rattle.herm_typestate.specs.Facts.{has_fact, mark_of, facts_of}
use Rattle.herm_model.specs.Paths.{path_of}
use Rattle.herm_typestate.proofs.state.State.copy.Goals as goal

pub returns : goal.returns
unfolding has_fact
returns c f = c.in_ok-vars.ensures (mark_of f) (path_of f) ∙ ap (λ ts. facts_of ts f) c.as_slice.ensures.value
