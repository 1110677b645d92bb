use Rattle.std.proofs.Common.{sym, subst}
use Rattle.herm_values.specs.Whole.{IsWholeTable}
use Rattle.herm_values.proofs.Wholes.{whole-table}
use Rattle.herm_steps_tests.proofs.steps.empty_table.Goals as goal

pub returns : goal.returns
returns c = whole-table c.in_ok-table.table (subst IsWholeTable (sym c.in_ok-table.ensures.ok) c.new.ensures.whole)
