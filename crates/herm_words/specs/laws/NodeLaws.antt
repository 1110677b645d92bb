-- What is claimed of the numbers of nodes and the sites of statements.
use Rattle.std.specs.Prelude.{◌≡◌, ℕ, ◌<◌, pred, List, length, Some, slice_get}
use Rattle.herm_model.specs.Lists.{IsIn}
use Rattle.herm_model.specs.Paths.{Path}
use Rattle.herm_model.specs.Types.{type_at}
use Rattle.herm_model.specs.Statements.{Case, numbers_of_block}
use Rattle.herm_model.specs.Nodes.{Node, process_nodes}
use Rattle.herm_meaning.specs.Names.{NamedTable}
use Rattle.herm_typed.specs.declared.statements.TypedStmt.{TypedStmt}
use Rattle.herm_typed.specs.declared.statements.TypedProcess.{TypedProcess}
use Rattle.herm_typed.specs.View.{typed_form_view, typed_process_view, form_of_statement}
use Rattle.herm_typed.specs.Within.{all_statements}
use Rattle.herm_typed.specs.Beside.{KnowsTypes}
use Rattle.herm_words.specs.Sites.{sites_in, variant_of}
use Rattle.herm_words.specs.MissingFactWords.{variable_types}

-- The statement at the place before a node's number is the node's own: it says what the node says. Language reference, "Statements".
abbrev pub SitesAreOfNodes : Type 0
SitesAreOfNodes = (p : TypedProcess) (n : Node) → IsIn n (process_nodes (typed_process_view p))
    → (s : TypedStmt) × (0 < n.number) × (slice_get (all_statements p.body.items) (pred n.number) ≡ Some s) × (form_of_statement (typed_form_view s.form) ≡ Some n.form)

-- A process has a statement for each number that its text takes, and no more. Language reference, "Statements".
abbrev pub SitesAreAsMany : Type 0
SitesAreAsMany = (p : TypedProcess) → length (all_statements p.body.items) ≡ numbers_of_block (typed_process_view p).body

-- In a process whose types beside its paths are those of the values there: a hop from the node of a `case` names its components by the type of
-- the variant at the node's path. Language reference, "Refusals of typestate".
abbrev pub NodesNameVariants : Type 0
NodesNameVariants = (types : NamedTable) (p : TypedProcess) → KnowsTypes types.shapes p → (n : Node) (v : Path) (components : List ℕ)
    → IsIn n (process_nodes (typed_process_view p)) → n.form ≡ Case v components → variant_of (sites_in p) n.number ≡ type_at types.shapes (variable_types p) v
