use Rattle.std.proofs.Common.{◌≡◌, false, Some, slice_get, sym, ap, subst, ◌∙◌}
use Rattle.std.proofs.lemmas.Option.{slice_get-get_or}
use Rattle.herm_model.specs.Lists.{map_or}
use Rattle.herm_typestate.specs.declared.state.State.{State}
use Rattle.herm_typestate.specs.Facts.{has_fact}
use Rattle.herm_coerce.proofs.coercions.is_carried_to.Goals as goal

pub returns : goal.returns
returns c = λ t f h.
    let at : slice_get c.args.labels.now.at.items c.args.at ≡ Some c.in-Some.low.now = subst (λ xs. slice_get xs c.args.at ≡ Some c.in-Some.low.now) c.as_slice.ensures.value (slice_get-get_or c.as_slice.result.now c.args.at c.in-Some.low.now c.in-Some.ensures.lookup.3.0 ∙ ap Some (sym c.in-Some.ensures.lookup.1)) in
    ap (map_or false (λ (s : State). has_fact s f)) at ∙ c.has_all_behind.ensures t f h
