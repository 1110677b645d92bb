use Rattle.std.proofs.Common.{true, Some, sym, ap, ◌∙◌}
use Rattle.herm_model.specs.Outcomes.{ok}
use Rattle.herm_code.specs.View.{instr_view}
use Rattle.herm_pieces.specs.View.{outcome_view, ready_view}
use Rattle.herm_steps.proofs.Done.{leads_by}
use Rattle.herm_steps.proofs.running.Running.go_behind.Goals as goal

pub returns-in-Some-Ok : goal.returns-in-Some-Ok
returns-in-Some-Ok c = record {
  behind = λ s e performed.
      leads_by (ready_view c.args.code.now) s c.args.index (instr_view c.args.instruction.now) e ok c.args.outcome c.args.self.now c.pass_behind.new.self true
      (ap (λ o. Some (outcome_view o)) (sym c.in-Some-Ok.field-0-is) ∙ c.in-Some-Ok.ensures.outcome) performed (λ b h. c.pass_behind.ensures.behind s b h);
}
