use Rattle.std.proofs.Common.{◌∷◌, ap₂, ◌∙◌}
use Rattle.herm_typestate.specs.Trees.{has_mark}
use Rattle.herm_typestate.specs.Facts.{has_fact}
use Rattle.herm_typestate.proofs.state.State.holds.Goals as goal

pub returns : goal.returns
unfolding has_fact
returns c =
    c.holds-found.ensures
    ∙ (ap₂ (λ ts p. has_mark ts c.mark_of_fact-mark.result (c.path_of_fact-path.result.now.var.0 ∷ p)) c.as_slice.ensures.value c.as_slice-2.ensures.value
    ∙ ap₂ (λ m p. has_mark c.args.self.now.vars.items m p) c.mark_of_fact-mark.ensures c.path_of_fact-path.ensures)
