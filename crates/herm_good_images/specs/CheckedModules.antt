-- What a compiler knows of a checked program: its modules made ready, the facts of each label as a list, and the paths that are dropped.
use Rattle.std.specs.Prelude.{ℕ, List, map, length, true, Option, Some, slice_get, option_and_then, ◌↔◌, ◌≡◌}
use Rattle.herm_model.specs.Lists.{IsIn}
use Rattle.herm_model.specs.Paths.{Path, Fact}
use Rattle.herm_model.specs.Nodes.{Node}
use Rattle.herm_model.specs.Exits.{Exit, exits}
use Rattle.herm_model.specs.Labels.{label_at}
use Rattle.herm_model.specs.ControlPaths.{edge, held_after_edge, held_at_start}
use Rattle.herm_model.specs.laws.ExcessLaws.{IsExcess}
use Rattle.herm_source.specs.Modules.{Program}
use Rattle.herm_source.specs.Checked.{IsChecked}
use Rattle.herm_translated.specs.CodeBlocks.{CheckedModule}

-- The facts of each node are those of its label, each place of the list for one node. Language reference, "Held".
pub record ListsFacts (m : CheckedModule) : Type 0 where
  pub many : length m.facts ≡ length m.code.nodes
  pub listed : (i : ℕ) (facts : List Fact) (f : Fact) → slice_get m.facts i ≡ Some facts → IsIn f facts ↔ (m.code.label i f ≡ true)

-- what is dropped along an edge, by the places of its node and of its exit there
abbrev pub dropped_along : CheckedModule → (place exit : ℕ) → Option (List Path)
dropped_along m i j = option_and_then (λ edges. slice_get edges j) (slice_get m.drops i)

-- Along each edge, and where the process begins, the excess is dropped of what is held there beyond the label of the target. Language reference, "Finalising".
pub record DropsExcess (m : CheckedModule) : Type 0 where
  pub begins : IsExcess held_at_start (label_at m.code.label m.code.entry) m.entry_drops
  pub edges : (i j : ℕ) (n : Node) (x : Exit) → slice_get m.code.nodes i ≡ Some n → slice_get (exits m.code.types m.code.variables n) j ≡ Some x
      → (paths : List Path) × (dropped_along m i j ≡ Some paths) × IsExcess (λ f. held_after_edge (edge m.code.types m.code.variables n.form x) f (m.code.label i f)) (label_at m.code.label x.target) paths

-- The modules are those of a checked program, in order, with the facts and the paths that belong to them.
pub record AreCheckedModules (exceptions : ℕ) (program : Program) (modules : List CheckedModule) : Type 0 where
  pub checked : IsChecked exceptions program (record { types = program.types; codes = map (λ (m : CheckedModule). m.code) modules; main = program.main })
  pub lists : (m : CheckedModule) → IsIn m modules → ListsFacts m
  pub drops : (m : CheckedModule) → IsIn m modules → DropsExcess m
