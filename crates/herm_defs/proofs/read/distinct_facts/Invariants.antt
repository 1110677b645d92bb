use Rattle.std.proofs.Common.{map, take}
use Rattle.herm_syntax.specs.View.{dfact_view}
use Rattle.herm_defs.specs.Distinct.{AreListed}
use Rattle.herm_defs.proofs.read.distinct_facts.Given as goal

abbrev pub invariant-loop-fact : goal.invariant-loop-fact
invariant-loop-fact l = AreListed l.table l.message.0 (map dfact_view (take l.fact-index l.list)) l.written.keys l.facts
