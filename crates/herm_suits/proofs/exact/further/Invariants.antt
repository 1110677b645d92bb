use Rattle.std.proofs.Common.{◌≡◌, ◌∷◌, ◌++◌, [], map, drop}
use Rattle.herm_types.specs.View.{fact_view}
use Rattle.herm_suits.specs.Exact.{is_on_way}
use Rattle.herm_suits.proofs.exact.further.Given as goal

abbrev pub invariant-loop-fact : goal.invariant-loop-fact
invariant-loop-fact l = is_on_way (map fact_view (drop l.fact-index l.facts)) (l.path ++ l.step ∷ []) ≡ is_on_way (map fact_view l.facts) (l.path ++ l.step ∷ [])
