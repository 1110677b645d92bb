use Rattle.std.proofs.Common.{◌++◌, List, map, take}
use Rattle.herm_model.specs.Paths.{Fact}
use Rattle.herm_types.specs.View.{fact_view}
use Rattle.herm_check.specs.Numberings.{HaveNumbers}
use Rattle.herm_check.proofs.numbering.add_facts.Given as goal

abbrev pub invariant-loop-fact : goal.invariant-loop-fact
invariant-loop-fact l = (before : List Fact) → HaveNumbers before l.initial.numbers → HaveNumbers (before ++ map fact_view (take l.fact-index l.facts)) l.numbers
