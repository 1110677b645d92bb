use Rattle.std.proofs.Common.{refl}
use Rattle.herm_model.proofs.table.messages_go_and_come.Goals as goal

pub returns : goal.returns
returns c = record {
  connect_row = (refl, refl);
  create_row = (refl, refl);
  send_row = (refl, refl);
  receive_row = (refl, refl);
  select_row = (refl, refl);
  call_row = (refl, refl);
  return_row = (refl, refl);
  return_by_row = (refl, refl);
  return_by_nothing_row = (refl, refl);
}
