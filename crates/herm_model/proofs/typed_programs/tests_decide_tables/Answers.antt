use Rattle.herm_model.proofs.DecidedTables.{tests-tables, none-well_formed}
use Rattle.herm_model.proofs.typed_programs.tests_decide_tables.Goals as goal

pub returns : goal.returns
returns c = record { rules = tests-tables; table = none-well_formed }
