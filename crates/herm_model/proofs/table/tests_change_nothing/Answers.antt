use Rattle.std.proofs.Common.{refl}
use Rattle.herm_model.proofs.table.tests_change_nothing.Goals as goal

pub returns : goal.returns
returns c = record {
  if_row = (refl, refl);
  while_row = (refl, refl);
  raise_row = (refl, refl);
  leave_row = (refl, refl);
}
