use Rattle.std.proofs.Common.{refl}
use Rattle.herm_model.proofs.examples.blocks_lead_on.Goals as goal

pub returns : goal.returns
returns c = record {
  empty_body = (refl, refl);
  empty_try = (refl, refl);
  empty_loop = (refl, refl);
  empty_branch = (refl, refl);
  arms_in_loop = (refl, refl);
  empty_tries_in_loop = (refl, refl);
}
