use Rattle.std.specs.Prelude.{[], ◌∷◌}
use Rattle.herm_model.specs.Facts.{prefixes}
use Rattle.herm_model.specs.FactsOfStatements.{row}
use Rattle.herm_model.proofs.Lists.{in-append_left}
use Rattle.herm_model.proofs.TypedPaths.{with-facts}
use Rattle.herm_model.proofs.OrderedFacts.{to-stand, closed-stand}
use Rattle.herm_model.proofs.facts.facts_stand_behind_prefixes.Goals as goal

pub returns-clause-paths : goal.returns-clause-paths
returns-clause-paths c = λ types variables p. to-stand types variables p

pub returns-clause-needs : goal.returns-clause-needs
returns-clause-needs c = λ types variables form. closed-stand types variables (row types variables form).needed

pub returns-clause-makes : goal.returns-clause-makes
returns-clause-makes c = λ types variables form o. closed-stand types variables ((row types variables form).made o)

pub returns-clause-there : goal.returns-clause-there
returns-clause-there c = λ types variables f g h i. with-facts types variables f g h (in-append_left g (prefixes types variables f) (f ∷ []) i)
