use Rattle.herm_values.specs.Whole.{IsWhole}
use Rattle.herm_values_tests.proofs.values.nested.Given as goal

abbrev pub invariant-polymorphs : goal.invariant-polymorphs
invariant-polymorphs l = IsWhole l.v
