use Rattle.std.proofs.Common.{sym, subst}
use Rattle.herm_values.specs.Whole.{IsWholeTable}
use Rattle.herm_values.proofs.Wholes.{whole-table}
use Rattle.herm_suits_tests.proofs.suiting.shelf.Goals as goal

pub returns : goal.returns
returns c = whole-table c.in_ok-boxed.boxed (subst IsWholeTable (sym c.in_ok-boxed.ensures.ok) c.in_ok-put-2.ensures.whole)
