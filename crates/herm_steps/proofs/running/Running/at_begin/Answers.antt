use Rattle.std.proofs.Common.{ap, ◌∙◌}
use Rattle.std.specs.Prelude.{pred}
use Rattle.herm_code_machine.specs.CodeStates.{at_index}
use Rattle.herm_pieces.specs.View.{ready_view}
use Rattle.herm_steps.proofs.Begun.{first_held, stands_begun}
use Rattle.herm_steps.proofs.running.Running.at_begin.Goals as goal

pub returns : goal.returns
returns c = record {
  stands = λ module_number.
      stands_begun (ready_view c.args.code.now) module_number c.args.number.number c.args.port c.new-2.result c.new-frame.result (pred c.variables_of.result)
      (c.new-2.ensures.process ∙ ap (λ vs. record { position = at_index 0; stack = vs; frame = c.new-frame.result }) c.new.ensures.empty)
      (c.new-frame.ensures.frame ∙ ap (λ vs. first_held c.args.number.number vs) (c.of.ensures.places ∙ c.in_ok-places.ensures.places)) (ap pred c.variables_of.ensures.count);
}
