use Rattle.herm_values.specs.Whole.{IsWholeTable}
use Rattle.herm_values_tests.proofs.values.are_put.Given as goal

abbrev pub invariant-rows : goal.invariant-rows
invariant-rows l = IsWholeTable l.table
