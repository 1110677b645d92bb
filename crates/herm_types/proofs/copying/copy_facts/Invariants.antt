use Rattle.std.proofs.Common.{◌≡◌, map, take}
use Rattle.herm_types.specs.View.{fact_view}
use Rattle.herm_types.proofs.copying.copy_facts.Given as goal

abbrev pub invariant-loop-fact : goal.invariant-loop-fact
invariant-loop-fact l = map fact_view l.copies.items ≡ map fact_view (take l.fact-index l.facts)
