use Rattle.herm_model.specs.Types.{held_parts}
use Rattle.herm_model.proofs.Steps.{held-named, steps-lead, steps-listed}
use Rattle.herm_model.proofs.Excess.{excess-top, top-excess}
use Rattle.herm_model.proofs.values.the_excess_is_topmost.Goals as goal

pub returns : goal.returns
returns c = record {
  topmost = λ left n table p t w x. (
    λ h. let top = excess-top left table n p t x w h in (top.steps, top.whole, steps-listed held_parts table held-named n t w top.steps top.leads, top.is_left, top.first),
    λ h. top-excess left table n p t h.0 x w h.1 (steps-lead held_parts table n t h.0 h.2) h.3 h.4,
  );
}
