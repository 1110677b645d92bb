use Rattle.std.proofs.Common.{refl, sym, ap, subst, ◌∙◌}
use Rattle.herm_forms.specs.Frames.{stays}
use Rattle.herm_code_machine.specs.CodeStates.{at_index}
use Rattle.herm_code_machine.specs.Stacks.{leaving}
use Rattle.herm_frames.specs.Standing.{Stands}
use Rattle.herm_pieces.specs.View.{ready_view}
use Rattle.herm_stack.specs.Answers.{on_stack}
use Rattle.herm_answers.proofs.Placed.{waits_behind}
use Rattle.herm_answers.proofs.going.wait_at.Goals as goal

pub returns : goal.returns
returns c = record {
  waits = λ s e i b is h.
      let p = c.process.inside in
      let is' = is ∙ ap (λ q. leaving (on_stack q.stack) (stays b)) (sym c.process.view_is) in
      let h' : Stands p.frame b = subst (λ q. Stands q.frame b) (sym c.process.view_is) h in
      waits_behind c.in_ok-waits.waits (record { position = at_index c.args.index; stack = p.stack; frame = p.frame }) c.run_on.new.self (ready_view c.args.code.now) s c.args.index i e b is' refl h' c.in_ok-waits.ensures.runs;
}
