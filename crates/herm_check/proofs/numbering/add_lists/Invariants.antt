use Rattle.std.proofs.Common.{◌++◌, List, flat_map, take}
use Rattle.herm_model.specs.Paths.{Fact}
use Rattle.herm_check.specs.Numberings.{HaveNumbers}
use Rattle.herm_check.specs.Labelled.{facts_of}
use Rattle.herm_check.proofs.numbering.add_lists.Given as goal

abbrev pub invariant-loop-facts : goal.invariant-loop-facts
invariant-loop-facts l = (before : List Fact) → HaveNumbers before l.initial.numbers → HaveNumbers (before ++ flat_map facts_of (take l.facts-index l.lists)) l.numbers
