use Rattle.std.proofs.Common.{◌≡◌, Some, sym, ap, subst, ◌∙◌}
use Rattle.herm_model.proofs.Options.{none-not_some, some-injective}
use Rattle.herm_code_machine.specs.CodeSteps.{code_next}
use Rattle.herm_code_machine.specs.Pieces.{piece_at}
use Rattle.herm_pieces.specs.View.{piece_view, ready_view}
use Rattle.herm_steps.specs.Behind.{IsBehind}
use Rattle.herm_steps.specs.Coming.{coming_piece}
use Rattle.herm_steps.specs.HeldStates.{HeldState}
use Rattle.herm_steps.specs.StandingAt.{StandsAt}
use Rattle.herm_steps.proofs.Stepped.{local_next, piece_next}
use Rattle.herm_steps.proofs.running.Running.known_step.Goals as goal

pub returns-in_default : goal.returns-in_default
returns-in_default c = record {
  step = λ s h.
      let code = ready_view c.args.code.now in
      let at = subst (λ (p : HeldState). StandsAt p s) (sym c.self.view_is) h in
      let k = c.requires.known s h in
      none-not_some (c.in_default.ensures.piece ∙ ap (piece_at code) (sym at.position) ∙ piece_next code s.frame.work s.position s.frame.call k.0 k.1);
}

pub returns : goal.returns
returns c = record {
  step = λ s h.
      let code = ready_view c.args.code.now in
      let at = subst (λ (p : HeldState). StandsAt p s) (sym c.self.view_is) h in
      let k = c.requires.known s h in
      let same = some-injective (c.in-Some.ensures.piece ∙ ap (piece_at code) (sym at.position) ∙ piece_next code s.frame.work s.position s.frame.call k.0 k.1) in
      subst (IsBehind c.in_ok-made.made c.make_step.new.self s) (sym (local_next code s (code_next code s) (piece_view c.in-Some.piece) (ap (λ p. coming_piece p) same ∙ sym k.1))) (c.in_ok-made.ensures.step s h);
}
