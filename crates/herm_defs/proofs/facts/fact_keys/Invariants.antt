use Rattle.std.proofs.Common.{◌≡◌, map, take}
use Rattle.herm_syntax.specs.View.{dfact_view}
use Rattle.herm_defs.specs.PlainFacts.{fact_key}
use Rattle.herm_defs.proofs.facts.fact_keys.Given as goal

abbrev pub invariant-loop-fact : goal.invariant-loop-fact
invariant-loop-fact l = l.words.items ≡ map fact_key (map dfact_view (take l.fact-index l.facts))
