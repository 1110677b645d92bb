use Rattle.std.proofs.Common.{◌≡◌, None, refl, sym, ap, subst, ◌∙◌}
use Rattle.herm_forms.specs.Frames.{goes}
use Rattle.herm_code.specs.View.{instr_view}
use Rattle.herm_code_machine.specs.CodeStates.{state_behind}
use Rattle.herm_pieces.specs.View.{outcome_view, ready_view}
use Rattle.herm_stack.specs.Answers.{on_stack}
use Rattle.herm_steps.specs.Behind.{IsBehind}
use Rattle.herm_answers.specs.Settled.{Settles}
use Rattle.herm_answers.proofs.Behind.{goes_behind}
use Rattle.herm_answers.proofs.going.go_on.Goals as goal

pub returns : goal.returns
returns c = record {
  settled = λ s e h within.
      let code = ready_view c.args.code.now in
      let i = instr_view c.args.instruction.now in
      let p = c.args.process.now in
      let h' = subst (λ o. Settles o p.frame (on_stack p.stack) e) c.in-Some.is h in
      goes_behind c.in_ok-runs.runs c.in-Some.outcome p.frame (on_stack p.stack) c.lead_on.new.self c.run_on.new.self code s c.args.index i e h'
      (λ b k. subst (λ r. IsBehind r c.lead_on.new.self s (state_behind code s c.args.index i (on_stack p.stack) (goes (outcome_view c.in-Some.outcome) b))) c.if-not-lead_on.false (c.lead_on.ensures.behind s b k))
      c.in_ok-runs.ensures.runs;
}
