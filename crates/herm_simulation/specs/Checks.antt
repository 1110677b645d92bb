-- What a check gives of a process, where it is right.
use Rattle.std.specs.Prelude.{ℕ, List, Some, slice_get, IsTrue, ◌↔◌, ◌≡◌}
use Rattle.herm_model.specs.Lists.{IsIn, list_of}
use Rattle.herm_model.specs.Paths.{Path, Fact, init}
use Rattle.herm_model.specs.Nodes.{Node}
use Rattle.herm_model.specs.Exits.{Exit, exits}
use Rattle.herm_model.specs.ControlPaths.{held_at_start}
use Rattle.herm_model.specs.Finalising.{excess}
use Rattle.herm_forms.specs.EdgeFinalising.{keeps}
use Rattle.herm_forms.specs.laws.EdgeLaws.{held_after}
use Rattle.herm_translated.specs.CodeBlocks.{CheckedModule}

-- the list at a place, which is empty where there is none
abbrev pub list_at : {X : Type 0} → List (List X) → ℕ → List X
list_at lists i = list_of (λ xs. xs) (slice_get lists i)

-- the facts of a node, and the paths that are dropped at an exit of a node
abbrev pub facts_at : CheckedModule → (node : ℕ) → List Fact
facts_at m i = list_at m.facts i

abbrev pub drops_at : CheckedModule → (node exit : ℕ) → List Path
drops_at m i j = list_at (list_at m.drops i) j

-- What the check of a process gives is right: of each node exactly the facts of its label, and of each exit, and where the process begins,
-- the excess of what is held behind it beyond the label of its target. Language reference, "Finalising".
pub record IsRight (m : CheckedModule) : Type 0 where
  pub facts : (i : ℕ) (n : Node) → slice_get m.code.nodes i ≡ Some n → (f : Fact) → IsIn f (facts_at m i) ↔ IsTrue (m.code.label i f)
  pub drops : (i j : ℕ) (n : Node) (x : Exit) → slice_get m.code.nodes i ≡ Some n → slice_get (exits m.code.types m.code.variables n) j ≡ Some x
      → drops_at m i j ≡ excess m.code.types m.code.variables (λ p. held_after m.code.types m.code.variables n.form x.outcome (m.code.label i) (init p)) (keeps m.code x.target)
  pub entry : m.entry_drops ≡ excess m.code.types m.code.variables (λ p. held_at_start (init p)) (keeps m.code m.code.entry)
