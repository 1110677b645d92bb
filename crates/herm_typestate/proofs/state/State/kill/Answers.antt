use Rattle.std.proofs.Common.{◌∷◌, not, ◌&&◌, ap, ◌∙◌}
use Rattle.herm_model.specs.Paths.{is_at_or_below}
use Rattle.herm_typestate.specs.Facts.{has_fact, mark_of, facts_of}
use Rattle.herm_model.specs.Paths.{path_of}
use Rattle.herm_typestate.proofs.state.State.kill.Goals as goal

pub returns : goal.returns
unfolding has_fact
returns c f = c.kill.ensures (mark_of f) (path_of f) ∙ ap (λ p. not (is_at_or_below (c.args.path.now.var.0 ∷ p) (path_of f)) && facts_of c.args.self.now.vars.items f) c.as_slice.ensures.value
