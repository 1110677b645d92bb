-- What is claimed of coercions: what the source machine drops on each edge is what they have for it.
use Rattle.std.specs.Prelude.{◌≡◌, ℕ, List, Option, Some, slice_get, option_and_then, IsTrue}
use Rattle.herm_model.specs.Paths.{Path}
use Rattle.herm_model.specs.Types.{TypeTable}
use Rattle.herm_model.specs.Statements.{Process}
use Rattle.herm_model.specs.Targets.{Target}
use Rattle.herm_model.specs.ControlPaths.{Edge, Point, flow_of, held_at_start}
use Rattle.herm_model.specs.Labels.{Labels, AreExact}
use Rattle.herm_model.specs.Values.{has_value}
use Rattle.herm_model.specs.FactsOfValues.{HasExactly}
use Rattle.herm_model.specs.Finalising.{excess}
use Rattle.herm_model.specs.WellFormedTables.{IsWellFormedTable}
use Rattle.herm_model.specs.TypedPrograms.{IsTypedProcess}
use Rattle.herm_forms.specs.Frames.{Name, Frame, drop}
use Rattle.herm_forms.specs.Modules.{Module, module_of}
use Rattle.herm_forms.specs.LeavingLoops.{keeps_loop, leave_loops}
use Rattle.herm_forms.specs.EdgeFinalising.{keeps, arrive}
use Rattle.herm_coerce.specs.Coerced.{Coerced, behind_edge, AreCoercions}

-- a typed process of a well-formed table of types, with exact labels and the coercions of its flow
pub record IsCoerced (table : TypeTable) (p : Process) (labels : Labels) (c : Coerced) : Type 0 where
  pub exceptions : ℕ
  pub processes : List Process
  pub types : IsWellFormedTable exceptions table
  pub typed : IsTypedProcess exceptions table processes p
  pub exact : AreExact (flow_of table p) labels
  pub coercions : AreCoercions (flow_of table p) labels c

-- what coercions have for an edge, by the places of its point and of the edge there
abbrev pub paths_of_edge : Coerced → ℕ → ℕ → Option (List Path)
paths_of_edge c i j = option_and_then (λ edges. slice_get edges j) (slice_get c.at i)

-- Where control goes to the target, these paths, no more and in this order, are there and not kept. They are dropped, and then the lists of loops that are left.
abbrev pub Drops : Module → Target → Frame Name → List Path → Type 0
Drops code t b paths =
    (paths ≡ excess code.types code.variables (has_value b.variables) (keeps code t))
    × (arrive code t b ≡ leave_loops (keeps_loop code t) (drop paths b))

-- Where the values have exactly what is held behind an edge by the label before it, the coercions have the edge, and the source
-- machine drops on it what they have there. Language reference, "Finalising".
abbrev pub EdgesDropCoercions : Type 0
EdgesDropCoercions = (table : TypeTable) (p : Process) (labels : Labels) (c : Coerced) → IsCoerced table p labels c
    → (i j : ℕ) (point : Point) (e : Edge) → slice_get (flow_of table p).points i ≡ Some point → slice_get point.edges j ≡ Some e
    → (b : Frame Name) → HasExactly b.variables (λ f. IsTrue (behind_edge (labels i) e f))
    → (paths : List Path) × (paths_of_edge c i j ≡ Some paths) × Drops (module_of table p labels) e.target b paths

-- Where there is a value at the port alone, the source machine drops where the process begins what the coercions have for it.
-- Language reference, "Finalising".
abbrev pub BeginningsDropCoercions : Type 0
BeginningsDropCoercions = (table : TypeTable) (p : Process) (labels : Labels) (c : Coerced) → IsCoerced table p labels c
    → (b : Frame Name) → HasExactly b.variables (λ f. IsTrue (held_at_start f))
    → Drops (module_of table p labels) (flow_of table p).entry b c.entry
