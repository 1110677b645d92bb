use Rattle.std.proofs.Common.{sym, subst}
use Rattle.herm_values.specs.Whole.{IsWholeTable}
use Rattle.herm_values.proofs.Wholes.{whole-table}
use Rattle.herm_machine_tests.proofs.tests.boxed.Goals as goal

pub returns : goal.returns
returns c = whole-table c.in_ok-boxed.boxed (subst IsWholeTable (sym c.in_ok-boxed.ensures.ok) c.requires)
