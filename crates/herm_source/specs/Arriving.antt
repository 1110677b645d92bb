-- What is claimed of beginnings and of outcomes: the values of the state that they lead to are sound.
use Rattle.std.specs.Prelude.{◌≡◌, ℕ, List, ◌∷◌, false, Some, slice_get}
use Rattle.herm_model.specs.Types.{TypeTable}
use Rattle.herm_model.specs.Statements.{Process, IsWellFormedBlock}
use Rattle.herm_model.specs.Nodes.{Node, entry_of, process_nodes}
use Rattle.herm_model.specs.Targets.{node}
use Rattle.herm_model.specs.Outcomes.{Outcome}
use Rattle.herm_model.specs.ControlPaths.{flow_of, IsReached}
use Rattle.herm_model.specs.Labels.{Labels, label_at, AreExact}
use Rattle.herm_model.specs.Values.{Cell, kind_of, opens}
use Rattle.herm_model.specs.Typed.{HasType}
use Rattle.herm_forms.specs.Frames.{Name, Frame, goes}
use Rattle.herm_forms.specs.Modules.{module_of}
use Rattle.herm_source.specs.States.{State, begin, state_after}
use Rattle.herm_forms.specs.laws.EdgeLaws.{AreDeep, AreSound, held_after}

-- Of such a process the values are sound as it begins, where its port has the type of variable 0.
-- Language reference, "Sound states".
abbrev pub BeginningsAreSound : Type 0
BeginningsAreSound = (types : TypeTable) (p : Process) (labels : Labels) → AreExact (flow_of types p) labels → AreDeep (module_of types p labels)
    → (t : ℕ) (more : List ℕ) → p.variables ≡ t ∷ more → (code number : ℕ) (port : Cell Name) → HasType types t port → opens (kind_of port) ≡ false
    → AreSound (module_of types p labels) (label_at labels (entry_of p)) (begin (module_of types p labels) code number port).frame.variables

-- Of such a process: a statement at a point that a control path reaches comes to an outcome, and its values are sound
-- with what is held behind the outcome. Then, where the outcome leads, they are sound with the facts there.
-- Language reference, "Sound states".
abbrev pub OutcomesArrive : Type 0
OutcomesArrive = (types : TypeTable) (p : Process) (labels : Labels) → IsWellFormedBlock p.body → AreExact (flow_of types p) labels → AreDeep (module_of types p labels)
    → (i : ℕ) (n : Node) → IsReached (flow_of types p) (node i) → slice_get (process_nodes p) i ≡ Some n
    → (o : Outcome) (b : Frame Name) → AreSound (module_of types p labels) (held_after types p.variables n.form o (labels i)) b.variables
    → (s t : State Name) → state_after (module_of types p labels) s (Some n) (goes o b) ≡ Some t
    → IsReached (flow_of types p) t.point × AreSound (module_of types p labels) (label_at labels t.point) t.frame.variables
