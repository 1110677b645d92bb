use Rattle.herm_typed.proofs.outcome_list.outcomes.Given as goal

abbrev pub ghost-exceptions : goal.ghost-exceptions
ghost-exceptions g a = g.variables
