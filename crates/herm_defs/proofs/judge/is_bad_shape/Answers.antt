use Rattle.std.proofs.Common.{sym, subst, map, List}
use Rattle.herm_model.specs.Lists.{IsIn}
use Rattle.herm_syntax.specs.declared.definitions.ParamForm.{ParamForm}
use Rattle.herm_syntax.specs.declared.definitions.RaiseForm.{RaiseForm}
use Rattle.herm_syntax.specs.declared.definitions.ShapeForm.{ShapeForm}
use Rattle.herm_syntax.specs.Trees.{Raising}
use Rattle.herm_syntax.specs.View.{shape_form_view, param_form_view, raise_form_view}
use Rattle.herm_meaning.specs.DefinitionFaults.{HasBadShape, KeepsBadly}
use Rattle.herm_graph.specs.Tells.{Tells}
use Rattle.herm_defs.proofs.judge.is_bad_shape.Goals as goal

pub returns-in_ok-is_bad-in-CallMessage : goal.returns-in_ok-is_bad-in-CallMessage
returns-in_ok-is_bad-in-CallMessage c =
    let bad = c.in_ok-is_bad-in-CallMessage.is_bad in
    let context = c.args.context.now in
    let by-params = subst (λ (ps : List ParamForm). Tells bad ((r : Raising) × IsIn r (map raise_form_view c.as_slice-in-CallMessage-2.result.now) × KeepsBadly context (map param_form_view ps) r)) c.as_slice-in-CallMessage.ensures.value c.in_ok-is_bad-in-CallMessage.ensures in
    let by-raises = subst (λ (rs : List RaiseForm). Tells bad ((r : Raising) × IsIn r (map raise_form_view rs) × KeepsBadly context (map param_form_view c.in-CallMessage.params.items) r)) c.as_slice-in-CallMessage-2.ensures.value by-params in
    subst (λ (s : ShapeForm). Tells bad (HasBadShape context (shape_form_view s))) (sym c.in-CallMessage.is) by-raises
