use Rattle.std.proofs.Common.{◌≡◌, Some, option_map, refl, sym, ap, ap₂, subst, ◌∙◌}
use Rattle.herm_model.specs.Values.{cell_at, clear_at, put_at}
use Rattle.herm_model.proofs.Options.{none-not_some, some-injective}
use Rattle.herm_values.specs.Keyed.{keyed_view}
use Rattle.herm_model.specs.Outcomes.{ok}
use Rattle.herm_forms.specs.Excess.{excess_over_full}
use Rattle.herm_forms.specs.Frames.{cleared, drop, putting}
use Rattle.herm_types.specs.View.{path_view}
use Rattle.herm_frames.specs.Completed.{Completes, outcome_view}
use Rattle.herm_frames.proofs.Removed.{moved-none, moved-some}
use Rattle.herm_frames.proofs.frame.Frame.move_value.Goals as goal

pub returns-in_default : goal.returns-in_default
returns-in_default c = record {
  effect = λ code stack s of h.
      let y = path_view c.args.source.now in
      (refl, moved-none (excess_over_full code.scope y s) y (putting (path_view c.args.target.now) ok) s c.in_ok-v.field-0 (c.in_ok-v.ensures.taken code s of h) c.in_default.is);
  keyed = λ code s ps v of h is there m goes. none-not_some goes;
}

pub returns : goal.returns
returns c = record {
  effect = λ code stack s of h.
      let y = path_view c.args.source.now in
      let lost = excess_over_full code.scope y s in (
        refl,
        subst (λ e. Completes (outcome_view c.in_ok-r.r) c.put_at_end.new.self e)
            (sym (moved-some lost y (putting (path_view c.args.target.now) ok) s c.in_ok-v.field-0 (c.in_ok-v.ensures.taken code s of h) c.in-Some.v c.in-Some.is))
            (c.in_ok-r.ensures.putting (cleared y (drop lost s)) ok (c.in_ok-v.ensures.stands code s of h) refl),
      );
  keyed = λ code s ps v of h is there m goes.
      let y = path_view c.args.source.now in
      let same : Some (keyed_view c.in-Some.v) ≡ Some v = ap (option_map keyed_view) (sym c.in-Some.is) ∙ c.in_ok-v.ensures.keyed code s of h ∙ ap (cell_at y) (sym is) ∙ there in
      c.in_ok-r.ensures.keyed m goes ∙ ap₂ (put_at (path_view c.args.target.now)) (some-injective same) (c.in_ok-v.ensures.left code s of h ∙ ap (clear_at y) (sym is));
}
