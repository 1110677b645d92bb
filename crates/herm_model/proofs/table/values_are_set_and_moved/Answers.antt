use Rattle.std.proofs.Common.{refl}
use Rattle.herm_model.proofs.table.values_are_set_and_moved.Goals as goal

pub returns : goal.returns
returns c = record {
  assign_row = (refl, refl);
  component_row = (refl, refl);
  move_row = (refl, refl);
  message_row = (refl, refl);
  new_row = (refl, refl);
  new_port_row = (refl, refl);
  discard_row = (refl, refl);
  unite_row = (refl, refl);
  dissolve_row = (refl, refl);
  reveal_row = (refl, refl);
  case_row = (refl, refl);
  wrap_row = (refl, refl);
  unwrap_row = (refl, refl);
}
