use Rattle.std.proofs.Common.{◌≡◌, ◌++◌, map, drop}
use Rattle.std.specs.Prelude.{filter}
use Rattle.herm_types.specs.View.{path_view, fact_view}
use Rattle.herm_codegen.specs.Listed.{is_left}
use Rattle.herm_codegen.proofs.labels.push_left.Given as goal

abbrev pub invariant-facts : goal.invariant-facts
invariant-facts l =
    map fact_view l.out.items ++ filter (is_left (map path_view l.gone)) (map fact_view (drop l.fact-index l.facts))
    ≡ map fact_view l.fn.out.items ++ filter (is_left (map path_view l.gone)) (map fact_view l.facts)
