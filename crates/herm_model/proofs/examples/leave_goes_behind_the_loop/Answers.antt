use Rattle.std.proofs.Common.{refl}
use Rattle.herm_model.proofs.examples.leave_goes_behind_the_loop.Goals as goal

pub returns : goal.returns
returns c = record {
  leave_in_try = (refl, refl);
  loop_in_handler = (refl, refl);
  leave_inner = (refl, refl);
}
