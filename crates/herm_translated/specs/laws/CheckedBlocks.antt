-- What is claimed of the blocks of typed processes.
use Rattle.std.specs.Prelude.{ℕ, List, [], ◌∷◌, map, true, false, Some, slice_get, ◌≡◌, ◌↔◌}
use Rattle.herm_model.specs.Lists.{IsIn, list_of}
use Rattle.herm_model.specs.Paths.{Path, Fact}
use Rattle.herm_model.specs.Types.{TypeTable}
use Rattle.herm_model.specs.Statements.{Process, Differ}
use Rattle.herm_model.specs.Outcomes.{ok, outcomes}
use Rattle.herm_model.specs.Labels.{Labels, AreExact}
use Rattle.herm_model.specs.Nodes.{Node, process_nodes}
use Rattle.herm_model.specs.ControlPaths.{flow_of}
use Rattle.herm_model.specs.TypedPrograms.{IsTypedProcess}
use Rattle.herm_model.specs.Expressions.{Literal}
use Rattle.herm_instructions.specs.Images.{CodeModule}
use Rattle.herm_forms.specs.Modules.{module_of}
use Rattle.herm_translated.specs.Departures.{Departure}
use Rattle.herm_translated.specs.CodeBlocks.{CheckedModule, CodeBlock, blocks_of, entry_edge}
use Rattle.herm_translated.specs.Settled.{settled}
use Rattle.herm_translated.specs.laws.GoodStructure.{AreLinked, HasGoodStructure}

-- a process made ready, with some facts of its nodes and paths of its edges
abbrev pub checked : TypeTable → Process → Labels → (facts : List (List Fact)) → (entry_drops : List Path) → (drops : List (List (List Path))) → CheckedModule
checked table p labels facts entry_drops drops = record { code = module_of table p labels; facts = facts; entry_drops = entry_drops; drops = drops }

-- The blocks of a typed process are linked, and each has an edge for each outcome of its form, or goes on by its only outcome.
pub record HasLinkedBlocks (table : TypeTable) (p : Process) (m : CheckedModule) : Type 0 where
  pub linked : AreLinked table p.variables (entry_edge m) (blocks_of m)
  pub outcomes_in_order : (b : CodeBlock) → IsIn b (blocks_of m) → b.onward ≡ false → map (λ (d : Departure). d.outcome) b.departures ≡ outcomes table p.variables b.form
  pub goes_on : (b : CodeBlock) → IsIn b (blocks_of m) → b.onward ≡ true → (b.departures ≡ []) × (outcomes table p.variables b.form ≡ ok ∷ [])
  pub outcomes_differ : (b : CodeBlock) → IsIn b (blocks_of m) → Differ (map (λ (d : Departure). d.outcome) b.departures)

abbrev pub TypedProcessesAreLinked : Type 0
TypedProcessesAreLinked = (exceptions : ℕ) (table : TypeTable) (processes : List Process) (p : Process) (labels : Labels) (facts : List (List Fact)) (entry_drops : List Path) (drops : List (List (List Path)))
    → IsTypedProcess exceptions table processes p → HasLinkedBlocks table p (checked table p labels facts entry_drops drops)

-- So the code of a typed process keeps these rules of good code.
abbrev pub TypedProcessesAreStructured : Type 0
TypedProcessesAreStructured = (exceptions : ℕ) (table : TypeTable) (processes : List Process) (p : Process) (labels : Labels) (facts : List (List Fact)) (entry_drops : List Path) (drops : List (List (List Path))) (modules : List CodeModule) (constants : List Literal)
    → IsTypedProcess exceptions table processes p
    → HasGoodStructure exceptions (record { modules = modules; constants = constants; types = table }) p.variables (entry_edge (checked table p labels facts entry_drops drops)) (blocks_of (checked table p labels facts entry_drops drops))

-- the facts at a place of lists of facts
abbrev pub facts_in : List (List Fact) → (place : ℕ) → List Fact
facts_in facts i = list_of (λ fs. fs) (slice_get facts i)

-- Where the facts of each node are those of its label, so are the settled ones: what is handed on to a block that no edge leads to is what its label has.
-- Code reference, "Blocks".
abbrev pub SettledFactsAreListed : Type 0
SettledFactsAreListed = (exceptions : ℕ) (table : TypeTable) (processes : List Process) (p : Process) (labels : Labels) (facts : List (List Fact)) (entry_drops : List Path) (drops : List (List (List Path)))
    → IsTypedProcess exceptions table processes p → AreExact (flow_of table p) labels
    → ((i : ℕ) (n : Node) (f : Fact) → slice_get (process_nodes p) i ≡ Some n → IsIn f (facts_in facts i) ↔ (labels i f ≡ true))
    → (i : ℕ) (n : Node) (f : Fact) → slice_get (process_nodes p) i ≡ Some n → IsIn f (facts_in (settled (checked table p labels facts entry_drops drops)).facts i) ↔ (labels i f ≡ true)
