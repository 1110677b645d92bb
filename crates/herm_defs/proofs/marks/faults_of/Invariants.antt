use Rattle.std.proofs.Common.{◌≤◌, ◌+◌, ◌++◌, List, map, drop}
use Rattle.herm_meaning.specs.Marks.{places, places_from}
use Rattle.herm_meaning.specs.Meaning.{outline}
use Rattle.herm_meaning.specs.DefinitionFaults.{Fault, AreFaults}
use Rattle.herm_defs.specs.Seen.{item_seen}
use Rattle.herm_defs.specs.View.{def_fault_view}
use Rattle.herm_defs.proofs.marks.faults_of.Given as goal

abbrev pub invariant-loop-item : goal.invariant-loop-item
invariant-loop-item l = record {
  types : l.t ≤ 8 + l.item-index;
  exceptions : l.e ≤ 7 + l.item-index;
  faults : (rest : List Fault) → AreFaults (outline (map item_seen l.items)) (places_from (map item_seen (drop l.item-index l.items)) l.t l.e) rest → AreFaults (outline (map item_seen l.items)) (places (map item_seen l.items)) (map def_fault_view l.faults.items ++ rest);
}
