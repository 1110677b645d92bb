use Rattle.std.proofs.Common.{◌≡◌, false, map, Some, None, slice_get, sym, ap, subst, ◌∙◌}
use Rattle.std.proofs.lemmas.Option.{slice_get-get_or, slice_get_past}
use Rattle.herm_model.specs.Lists.{map_or}
use Rattle.herm_types.specs.View.{path_view}
use Rattle.herm_typestate.specs.declared.state.State.{State}
use Rattle.herm_typestate.specs.Facts.{has_fact}
use Rattle.herm_check.specs.View.{labels_view}
use Rattle.herm_coerce.proofs.Excess.{low-same}
use Rattle.herm_coerce.proofs.coercions.beyond_point.Goals as goal

pub returns-in_ok-paths-in-Some : goal.returns-in_ok-paths-in-Some
returns-in_ok-paths-in-Some c =
    let at : slice_get c.args.labels.now.at.items c.args.at ≡ Some c.in-Some.low.now = subst (λ xs. slice_get xs c.args.at ≡ Some c.in-Some.low.now) c.as_slice.ensures.value (slice_get-get_or c.as_slice.result.now c.args.at c.in-Some.low.now c.in-Some.ensures.lookup.3.0 ∙ ap Some (sym c.in-Some.ensures.lookup.1)) in
    low-same (has_fact c.args.state.now) (has_fact c.in-Some.low.now) (labels_view c.args.labels.now c.args.at) (map path_view c.in_ok-paths-in-Some.paths.items)
    (λ f. sym (ap (map_or false (λ (s : State). has_fact s f)) at)) c.in_ok-paths-in-Some.ensures

pub returns-in_ok-paths-in-None : goal.returns-in_ok-paths-in-None
returns-in_ok-paths-in-None c =
    let at : slice_get c.args.labels.now.at.items c.args.at ≡ None = subst (λ xs. slice_get xs c.args.at ≡ None) c.as_slice.ensures.value (slice_get_past c.as_slice.result.now c.args.at c.in-None.ensures.lookup.3) in
    low-same (has_fact c.args.state.now) (λ f. false) (labels_view c.args.labels.now c.args.at) (map path_view c.in_ok-paths-in-None.paths.items)
    (λ f. sym (ap (map_or false (λ (s : State). has_fact s f)) at)) c.in_ok-paths-in-None.ensures
