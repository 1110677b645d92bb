use Rattle.std.proofs.Common.{refl}
use Rattle.herm_model.proofs.table.rows_go_in_and_out.Goals as goal

pub returns : goal.returns
returns c = record {
  insert_row = (refl, refl);
  remove_row = (refl, refl);
  get_row = (refl, refl);
  for_row = (refl, refl);
}
