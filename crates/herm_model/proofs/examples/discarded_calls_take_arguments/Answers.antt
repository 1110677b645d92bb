use Rattle.std.proofs.Common.{refl, []}
use Rattle.herm_model.specs.Statements.{handler, no_handlers}
use Rattle.herm_model.specs.Outcomes.{disconnected}
use Rattle.herm_model.specs.examples.RefusedProcesses.{calls, discards_its_call, missing_after_call, send_q, send_w, with_ask}
use Rattle.herm_model.proofs.ExampleRefusals.{computed}
use Rattle.herm_model.proofs.examples.discarded_calls_take_arguments.Goals as goal

pub returns : goal.returns
returns c = record {
  callee = computed (with_ask []) discards_its_call [] refl;
  caller = computed (with_ask []) (calls (handler disconnected send_q no_handlers)) [] refl;
  argument = computed (with_ask []) (calls (handler disconnected send_w no_handlers)) (missing_after_call disconnected) refl;
}
