use Rattle.std.proofs.Common.{◌∷◌, ◌||◌, ap, ap₂, ◌∙◌}
use Rattle.herm_types.specs.View.{fact_view}
use Rattle.herm_typestate.specs.Trees.{has_mark, is_mark_of}
use Rattle.herm_typestate.specs.Facts.{has_fact, mark_of}
use Rattle.herm_model.specs.Paths.{path_of}
use Rattle.herm_typestate.proofs.Marks.{on_err}
use Rattle.herm_typestate.proofs.FactSets.{either_way, small_made, small_same, makes_fact}
use Rattle.herm_typestate.proofs.state.State.make.Goals as goal

pub invariant_of-self : goal.invariant_of-self
invariant_of-self c = record {
  small = either_way c.make.result c.make.ensures.ok c.make.ensures.err
      (λ made. small_made c.args.self.now.vars.items c.make.new.trees.items (c.path_of_fact-path.result.now.var.0 ∷ c.as_slice.result.now) c.mark_of_fact-mark.result c.args.self.now.small c.make.ensures.steps made)
      (λ same. small_same c.args.self.now.vars.items c.make.new.trees.items c.args.self.now.small same);
}

pub returns-in_err-make-clause-err : goal.returns-in_err-make-clause-err
unfolding has_fact
returns-in_err-make-clause-err c = on_err c.from_residual.result (λ f. c.in_err-make.ensures.err (mark_of f) (path_of f))

pub returns-clause-ok : goal.returns-clause-ok
unfolding has_fact
returns-clause-ok c =
    makes_fact c.args.self.now.vars.items c.make.new.trees.items (fact_view c.args.fact.now) (λ m q.
    c.in_ok-make.ensures.ok m q
    ∙ ap₂ (λ p n. is_mark_of p n m q || has_mark c.args.self.now.vars.items m q)
    (ap (λ p. c.path_of_fact-path.result.now.var.0 ∷ p) c.as_slice.ensures.value ∙ c.path_of_fact-path.ensures) c.mark_of_fact-mark.ensures)
