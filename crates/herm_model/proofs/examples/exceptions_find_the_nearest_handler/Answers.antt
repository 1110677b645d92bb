use Rattle.std.proofs.Common.{refl}
use Rattle.herm_model.proofs.examples.exceptions_find_the_nearest_handler.Goals as goal

pub returns : goal.returns
returns c = record {
  outer_handler = (refl, refl);
  nearest_handler = (refl, refl);
  out_of_reach = (refl, refl);
  second_handler = (refl, refl);
}
