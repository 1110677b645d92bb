use Rattle.std.proofs.Common.{refl, sym, subst}
use Rattle.std.specs.Prelude.{⊤}
use Rattle.herm_journal.specs.Renaming.{forget_name}
use Rattle.herm_model.specs.Outcomes.{ok}
use Rattle.herm_model.specs.Values.{a_variant, part, no_parts, Value}
use Rattle.herm_forms.specs.Excess.{excess_over_full}
use Rattle.herm_forms.specs.Frames.{Frame, Completion, cleared, drop, making, putting}
use Rattle.herm_types.specs.View.{path_view}
use Rattle.herm_values.specs.View.{value_view}
use Rattle.herm_frames.specs.Completed.{Completes, outcome_view}
use Rattle.herm_frames.proofs.Removed.{moved-none, moved-some}
use Rattle.herm_frames.proofs.frame.Frame.unite.Goals as goal

pub returns-in_default : goal.returns-in_default
returns-in_default c = record {
  effect = λ code stack s of h.
      let y = path_view c.args.source.now in
      let next : Value → Frame ⊤ → Completion ⊤ = λ content b. making forget_name (a_variant c.args.component) (part content no_parts) (putting (path_view c.args.target.now) ok) b in
      (refl, moved-none (excess_over_full code.scope y s) y next s c.in_ok-v.field-0 (c.in_ok-v.ensures.taken code s of h) c.in_default.is);
}

pub returns : goal.returns
returns c = record {
  effect = λ code stack s of h.
      let y = path_view c.args.source.now in
      let lost = excess_over_full code.scope y s in
      let next : Value → Frame ⊤ → Completion ⊤ = λ content b. making forget_name (a_variant c.args.component) (part content no_parts) (putting (path_view c.args.target.now) ok) b in (
        refl,
        subst (λ e. Completes (outcome_view c.in_ok-r.r) c.make_at.new.self e)
            (sym (moved-some lost y next s c.in_ok-v.field-0 (c.in_ok-v.ensures.taken code s of h) c.in-Some.v c.in-Some.is))
            (c.in_ok-r.ensures.making (cleared y (drop lost s)) (a_variant c.args.component) (part (value_view c.in-Some.v) no_parts) (c.in_ok-v.ensures.stands code s of h) c.in_ok-variant.ensures.variant),
      );
}
