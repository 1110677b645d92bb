-- What tests say of the types of a table.
use Rattle.std.specs.Prelude.{ℕ}
use Rattle.herm_model.specs.Copyable.{IsCopyable}
use Rattle.herm_model.specs.WellFormedTables.{IsType, Reaches}
use Rattle.herm_meaning.specs.Names.{NamedTable}
use Rattle.herm_meaning.specs.DefinitionFaults.{MeetsNoCycle, MeetsNoUnknown, IsSettled}
use Rattle.herm_types.specs.Table.{says}
use Rattle.herm_graph.specs.declared.analysis.TypeTests.{TypeTests}
use Rattle.herm_graph.specs.Depth.{IsBeyond}
use Rattle.herm_graph.specs.Tells.{Tells, Refutes}

-- The tests say of each type what the words of refusals say: of depth and of copies only where there is such a type.
-- Language reference, "Refusals of definitions".
pub record Analyses (table : NamedTable) (tests : TypeTests) : Type 0 where
  pub cycles : (t : ℕ) → Tells (says tests.cycles.items t) (Reaches table.shapes t t)
  pub meets_cycle : (t : ℕ) → Refutes (says tests.meets_cycle.items t) (MeetsNoCycle table t)
  pub meets_unknown : (t : ℕ) → Refutes (says tests.meets_unknown.items t) (MeetsNoUnknown table t)
  pub deep : (t : ℕ) → IsType table.shapes t → Tells (says tests.deep.items t) (IsBeyond table.shapes t)
  pub copyable : (t : ℕ) → Tells (says tests.copyable.items t) (IsCopyable table.shapes t)
  pub unsettled : (t : ℕ) → IsType table.shapes t → Refutes (says tests.unsettled.items t) (IsSettled table t)
