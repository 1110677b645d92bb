use Rattle.std.proofs.Common.{◌≡◌, ◌++◌, map, drop}
use Rattle.herm_types.specs.View.{fact_view}
use Rattle.herm_fronts.proofs.paths.push_facts.Given as goal

abbrev pub invariant-facts : goal.invariant-facts
invariant-facts l = map fact_view l.out.items ++ map fact_view (drop l.fact-index l.facts) ≡ map fact_view l.fn.out.items ++ map fact_view l.facts
