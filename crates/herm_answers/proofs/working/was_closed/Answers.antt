use Rattle.std.proofs.Common.{◌≡◌, map, refl, sym, ap, subst, ◌∙◌}
use Rattle.herm_journal.specs.Actions.{close}
use Rattle.herm_forms.specs.Frames.{counted_action}
use Rattle.herm_frames.specs.Standing.{Stands}
use Rattle.herm_pieces.specs.View.{position_view}
use Rattle.herm_stack.specs.Answers.{on_stack}
use Rattle.herm_values.specs.View.{value_view}
use Rattle.herm_answers.proofs.Behind.{item_behind}
use Rattle.herm_answers.proofs.Comes.{item_comes}
use Rattle.herm_answers.proofs.working.was_closed.Goals as goal

pub returns : goal.returns
returns c = record {
  answered = λ code s at count h e.
      let n = item_comes code s e in
      let held : Stands c.process.inside.frame s.frame = subst (λ p. Stands p.frame s.frame) (sym c.process.view_is) h.frame in
      let stays = c.in_ok-closed.ensures.settles (counted_action s.frame) n.item n.work count (c.count_action.ensures.stands s.frame held) n.front in
      item_behind code s at (close count (map (λ p. value_view p.value) c.args.left.parcels)) n (record { position = position_view c.process.inside.position; stack = c.process.inside.stack; frame = c.closed.new.frame })
      (h.position ∙ ap (λ p. p.position) (sym c.process.view_is)) (h.stack ∙ ap (λ p. on_stack p.stack) (sym c.process.view_is)) stays;
}
