use Rattle.herm_model.specs.Paths.{same_path, same_fact}
use Rattle.herm_model.proofs.Equality.{same_numbers-is, same_numbers_self, same_fact-is, same_fact_self, decides}
use Rattle.herm_model.proofs.types.facts_are_compared.Goals as goal

pub returns-clause-paths : goal.returns-clause-paths
returns-clause-paths c = decides same_path same_numbers-is same_numbers_self

pub returns-clause-facts : goal.returns-clause-facts
returns-clause-facts c = decides same_fact same_fact-is same_fact_self
