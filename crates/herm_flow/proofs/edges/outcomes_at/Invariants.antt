use Rattle.herm_flow.proofs.edges.outcomes_at.Given as goal

abbrev pub ghost-outcomes : goal.ghost-outcomes
ghost-outcomes g a = g.variables
