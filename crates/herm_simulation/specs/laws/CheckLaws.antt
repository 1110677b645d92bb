-- What is claimed of checks: where they have the excess of facts, in the words of the model, they are right.
use Rattle.std.specs.Prelude.{ℕ, List, Some, slice_get, IsTrue, ◌↔◌, ◌≡◌}
use Rattle.herm_model.specs.Lists.{IsIn}
use Rattle.herm_model.specs.Paths.{Path, Fact}
use Rattle.herm_model.specs.Types.{TypeTable}
use Rattle.herm_model.specs.ControlPaths.{flow_of, held_at_start}
use Rattle.herm_model.specs.Exits.{Exit, exits}
use Rattle.herm_model.specs.Labels.{Labels, label_at, AreExact}
use Rattle.herm_model.specs.Nodes.{Node, process_nodes, entry_of}
use Rattle.herm_model.specs.Statements.{Process}
use Rattle.herm_model.specs.TypedPrograms.{IsTypedProcess}
use Rattle.herm_model.specs.WellFormedTables.{IsWellFormedTable}
use Rattle.herm_model.specs.laws.ExcessLaws.{IsExcess}
use Rattle.herm_forms.specs.laws.EdgeLaws.{held_after}
use Rattle.herm_translated.specs.laws.CheckedBlocks.{checked}
use Rattle.herm_simulation.specs.Checks.{list_at, IsRight}

-- Of each node exactly the facts of its label; and of each exit, and where the process begins, the excess of what is held behind it beyond the
-- label of its target, apart from types. Language reference, "Excess".
pub record HasExcess (table : TypeTable) (p : Process) (labels : Labels) (facts : List (List Fact)) (entry_drops : List Path) (drops : List (List (List Path))) : Type 0 where
  pub facts_held : (i : ℕ) (n : Node) → slice_get (process_nodes p) i ≡ Some n → (f : Fact) → IsIn f (list_at facts i) ↔ IsTrue (labels i f)
  pub exits_drop : (i j : ℕ) (n : Node) (x : Exit) → slice_get (process_nodes p) i ≡ Some n → slice_get (exits table p.variables n) j ≡ Some x
      → IsExcess (held_after table p.variables n.form x.outcome (labels i)) (label_at labels x.target) (list_at (list_at drops i) j)
  pub entry_drops_all : IsExcess held_at_start (label_at labels (entry_of p)) entry_drops

-- Of a typed process with exact labels such a check is right.
abbrev pub ExcessIsRight : Type 0
ExcessIsRight = (exceptions : ℕ) (table : TypeTable) (processes : List Process) (p : Process) (labels : Labels) (facts : List (List Fact)) (entry_drops : List Path) (drops : List (List (List Path))) → IsWellFormedTable exceptions table
    → IsTypedProcess exceptions table processes p → AreExact (flow_of table p) labels → HasExcess table p labels facts entry_drops drops → IsRight (checked table p labels facts entry_drops drops)
