use Rattle.std.proofs.Common.{◌≡◌, map, take}
use Rattle.std.specs.List.{list_any}
use Rattle.herm_syntax.specs.View.{dfact_view}
use Rattle.herm_defs.specs.PlainFacts.{bad_fact}
use Rattle.herm_defs.proofs.facts.any_bad_fact.Given as goal

abbrev pub invariant-loop-fact : goal.invariant-loop-fact
invariant-loop-fact l = l.any ≡ list_any (bad_fact l.context l.message (map dfact_view l.facts)) (map dfact_view (take l.fact-index l.facts))
