use Rattle.std.proofs.Common.{reverse, refl, sym, ap, subst, ◌∙◌}
use Rattle.herm_model.specs.Outcomes.{turn}
use Rattle.herm_forms.specs.Frames.{if_there}
use Rattle.herm_forms.specs.LoopForms.{next_row, rows_for, set_rows}
use Rattle.herm_types.specs.View.{path_view}
use Rattle.herm_frames.specs.Completed.{Completes, outcome_view}
use Rattle.herm_frames.specs.Standing.{Stands}
use Rattle.herm_frames.specs.Visits.{IsNext}
use Rattle.herm_frames.proofs.Stood.{with_loops}
use Rattle.herm_frames.proofs.frame.Frame.next_turn.Goals as goal

pub returns-in_ok-r-in-Row : goal.returns-in_ok-r-in-Row
returns-in_ok-r-in-Row c = record {
  effect = λ code index stack s h.
      let slot = c.args.slot in
      let r = path_view c.args.target.now in
      let g = subst (λ f. Stands f s) (sym c.self.view_is) h in
      let row = subst (λ r. IsNext r slot (reverse c.self.inside.loops.items) (reverse c.next_row.new.loops.items)) c.in-Row.is c.in_ok-next.ensures.next in (
        refl,
        subst (λ e. Completes (outcome_view c.in_ok-r-in-Row.r) c.put_at_end.new.self e)
            (sym (ap (if_there (λ rows. next_row slot r rows s)) (ap (rows_for slot) g.loops ∙ row.1)))
            (c.in_ok-r-in-Row.ensures.putting (record s { loops = set_rows slot row.0 s.loops }) turn
            (with_loops _ s _ _ g (ap (set_rows slot row.0) g.loops ∙ sym row.2)) refl),
      );
}
