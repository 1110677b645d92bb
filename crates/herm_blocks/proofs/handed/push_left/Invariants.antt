use Rattle.std.proofs.Common.{◌≡◌, ◌++◌, map, drop}
use Rattle.std.specs.Prelude.{filter, not}
use Rattle.herm_model.specs.Lists.{any_pass}
use Rattle.herm_model.specs.Paths.{path_of, is_at_or_below}
use Rattle.herm_types.specs.View.{path_view, fact_view}
use Rattle.herm_blocks.proofs.handed.push_left.Given as goal

abbrev pub invariant-facts : goal.invariant-facts
invariant-facts l =
    map fact_view l.out.items ++ filter (λ f. not (any_pass (λ p. is_at_or_below p (path_of f)) (map path_view l.kills))) (map fact_view (drop l.fact-index l.facts))
    ≡ map fact_view l.fn.out.items ++ filter (λ f. not (any_pass (λ p. is_at_or_below p (path_of f)) (map path_view l.kills))) (map fact_view l.facts)
