use Rattle.std.proofs.Common.{◌≡◌, ◌⊎◌, inl, inr, true, ◌++◌, ◌∷◌, [], map, take, sym, ap, subst, ◌∙◌}
use Rattle.std.proofs.lemmas.List.{take_all, map_more}
use Rattle.herm_model.specs.Lists.{IsIn}
use Rattle.herm_model.specs.Paths.{Path, init}
use Rattle.herm_model.specs.ControlPaths.{held_after_edge}
use Rattle.herm_model.proofs.Lists.{in-append_cases}
use Rattle.herm_types.specs.View.{path_view}
use Rattle.herm_flow.specs.View.{edge_view}
use Rattle.herm_coerce.proofs.coercions.are_held.Goals as goal

pub loop-path-preserved : goal.loop-path-preserved
loop-path-preserved c = λ x m.
    let before = map path_view (take c.loop-path.path-index c.args.paths.now) in
    let more = map_more path_view c.args.paths.now c.loop-path.path-index c.path-item.result c.loop-path-test.true ∙ ap (λ y. before ++ path_view y ∷ []) (sym c.path-item.is) in
    by x before (c.loop-path.invariant x) (in-append_cases x before (path_view c.path-item.result ∷ []) (subst (IsIn x) more m))
  where
    by : (x : Path) (before : _) → (IsIn x before → held_after_edge (edge_view c.args.edge.now) (init x) true ≡ true) → IsIn x before ⊎ IsIn x (path_view c.path-item.result ∷ []) → held_after_edge (edge_view c.args.edge.now) (init x) true ≡ true
    by x before done (inl i) = done i
    by x before done (inr (inl e)) = ap (λ p. held_after_edge (edge_view c.args.edge.now) (init p) true) e ∙ (sym c.is_value_held_behind.ensures ∙ c.if-not-is_value_held_behind.false)
    by x before done (inr (inr n)) = absurd n

pub returns : goal.returns
returns c = λ t x m. c.loop-path.invariant x (subst (λ xs. IsIn x (map path_view xs)) (sym (take_all c.loop-path.path-index c.args.paths.now c.loop-path-test.false)) m)
