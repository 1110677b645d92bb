use Rattle.std.proofs.Common.{◌≡◌, ◌≤◌, ◌<◌, Some, option_map, refl, sym, ap, subst, ◌∙◌, arith}
use Rattle.std.specs.Prelude.{⊤, IfSome, IfNone}
use Rattle.herm_model.specs.Values.{a_polymorph, cell, part, no_parts, polymorph_depth}
use Rattle.herm_forms.specs.Excess.{excess_over_full}
use Rattle.herm_forms.specs.Frames.{cleared, drop}
use Rattle.herm_types.specs.View.{path_view}
use Rattle.herm_values.specs.View.{value_view}
use Rattle.herm_frames.specs.Completed.{Completes, outcome_view}
use Rattle.herm_frames.proofs.Removed.{moved-none, moved-some}
use Rattle.herm_frames.proofs.Wrapped.{wrapping, wrapped_none, wrapped_deep, wrapped_on, depth_is}
use Rattle.herm_frames.proofs.frame.Frame.wrap.Goals as goal

pub returns-in_default : goal.returns-in_default
returns-in_default c = record {
  effect = λ code stack s of h.
      let y = path_view c.args.source.now in
      (refl, wrapped_none c.args.t.0 (excess_over_full code.scope y s) y (path_view c.args.target.now) s c.in_ok-depth.field-0 (c.in_ok-depth.ensures.depth code s of h) c.in_default.is);
}

pub returns-then-depth-ge-GREATEST_POLYMORPH : goal.returns-then-depth-ge-GREATEST_POLYMORPH
returns-then-depth-ge-GREATEST_POLYMORPH c = record {
  effect = λ code stack s of h.
      let y = path_view c.args.source.now in
      (refl, (s, wrapped_deep c.args.t.0 (excess_over_full code.scope y s) y (path_view c.args.target.now) s c.in_ok-depth.field-0 c.in-Some.depth (c.in_ok-depth.ensures.depth code s of h) c.in-Some.is c.if-depth-ge-GREATEST_POLYMORPH.true, c.depth_of_full.ensures.stands s h));
}

pub returns-in_default-2 : goal.returns-in_default-2
returns-in_default-2 c = record {
  effect = λ code stack s of h.
      let y = path_view c.args.source.now in
      let p = path_view c.args.target.now in
      let lost = excess_over_full code.scope y s in
      let less : c.in-Some.depth < 16 = omega (arith, c.if-depth-ge-GREATEST_POLYMORPH.false) in (
        refl,
        wrapped_on c.args.t.0 lost y p s c.in_ok-depth.field-0 c.in-Some.depth (c.in_ok-depth.ensures.depth code s of h) c.in-Some.is less
            ∙ moved-none lost y (wrapping c.args.t.0 lost y p s) s c.in_ok-content.field-0 (c.in_ok-content.ensures.taken code s of (c.depth_of_full.ensures.stands s h)) c.in_default-2.is,
      );
}

pub returns-in_default-3 : goal.returns-in_default-3
returns-in_default-3 c = record {
  effect = λ code stack s of h.
      let y = path_view c.args.source.now in
      let p = path_view c.args.target.now in
      let lost = excess_over_full code.scope y s in
      let deep : 16 ≤ polymorph_depth (value_view c.in-Some-2.content) = subst (λ o. IfNone o (16 ≤ polymorph_depth (value_view c.in-Some-2.content))) c.in_default-3.is c.in_ok-polymorph.ensures.deep in
      let less : c.in-Some.depth < 16 = omega (arith, c.if-depth-ge-GREATEST_POLYMORPH.false) in
      let is = depth_is c.args.t.0 lost y p s c.in_ok-depth.field-0 c.in-Some.depth (value_view c.in-Some-2.content) (c.in_ok-depth.ensures.depth code s of h) c.in-Some.is
      (sym (ap (option_map value_view) c.in-Some-2.is) ∙ c.in_ok-content.ensures.taken code s of (c.depth_of_full.ensures.stands s h)) in
      absurd (omega (arith, deep, less, is));
}

pub returns : goal.returns
returns c = record {
  effect = λ code stack s of h.
      let y = path_view c.args.source.now in
      let p = path_view c.args.target.now in
      let lost = excess_over_full code.scope y s in
      let t = c.args.t.0 in
      let less : c.in-Some.depth < 16 = omega (arith, c.if-depth-ge-GREATEST_POLYMORPH.false) in
      let g = c.depth_of_full.ensures.stands s h in
      let made = subst (λ o. IfSome o (λ v. value_view v ≡ cell tt (a_polymorph t) (part (value_view c.in-Some-2.content) no_parts))) c.in-Some-3.is c.in_ok-polymorph.ensures.polymorph in (
        refl,
        subst (λ e. Completes (outcome_view c.in_ok-r.r) c.make_at.new.self e)
            (sym (wrapped_on t lost y p s c.in_ok-depth.field-0 c.in-Some.depth (c.in_ok-depth.ensures.depth code s of h) c.in-Some.is less
            ∙ moved-some lost y (wrapping t lost y p s) s c.in_ok-content.field-0 (c.in_ok-content.ensures.taken code s of g) c.in-Some-2.content c.in-Some-2.is))
            (c.in_ok-r.ensures.making (cleared y (drop lost s)) (a_polymorph t) (part (value_view c.in-Some-2.content) no_parts) (c.in_ok-content.ensures.stands code s of g) made),
      );
}
