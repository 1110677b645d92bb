-- What is claimed of loops along edges, and of the slots there.
use Rattle.std.specs.Prelude.{ℕ, List, true, false, nat_eq, Some, slice_get, ◌≡◌, ◌⊎◌}
use Rattle.herm_model.specs.Lists.{IsIn, any_pass}
use Rattle.herm_model.specs.Types.{TypeTable}
use Rattle.herm_model.specs.Statements.{Process}
use Rattle.herm_model.specs.Nodes.{Node}
use Rattle.herm_model.specs.Exits.{Exit, exits}
use Rattle.herm_model.specs.Targets.{node}
use Rattle.herm_model.specs.Labels.{Labels}
use Rattle.herm_model.specs.TypedPrograms.{IsTypedProcess}
use Rattle.herm_forms.specs.Modules.{Module, module_of}
use Rattle.herm_forms.specs.LeavingLoops.{is_inside}
use Rattle.herm_instructions.specs.Labels.{Slot}
use Rattle.herm_translated.specs.CodeBlocks.{slots_within, number_at, slots_around, slots_left}
use Rattle.herm_translated.specs.laws.LabelsAlong.{without_slots}

-- An edge from the node at a place to the node at another one, in a process made ready.
pub record IsEdgeTo (c : Module) (i k : ℕ) (from to : Node) : Type 0 where
  pub exit : Exit
  pub leaves : slice_get c.nodes i ≡ Some from
  pub is_exit : IsIn exit (exits c.types c.variables from)
  pub leads : exit.target ≡ node k
  pub arrives : slice_get c.nodes k ≡ Some to

-- it is so along each edge of a typed process
abbrev pub AlongEdges : ((c : Module) (i k : ℕ) (from to : Node) → Type 0) → Type 0
AlongEdges Is = (exceptions : ℕ) (table : TypeTable) (processes : List Process) (p : Process) (labels : Labels) → IsTypedProcess exceptions table processes p
    → (i k : ℕ) (from to : Node) → IsEdgeTo (module_of table p labels) i k from to → Is (module_of table p labels) i k from to

-- An edge that leads inside a loop comes from inside it, or leads to its own statement. Language reference, "Loops".
abbrev pub LoopsAreEnteredAtHeads : Type 0
LoopsAreEnteredAtHeads = AlongEdges (λ c i k from to. (loop : ℕ) → is_inside c k loop ≡ true → (to.number ≡ loop) ⊎ (is_inside c i loop ≡ true))

-- Without the slots of the loops that it leaves, an edge has the slots of the block where it arrives; and at a `for` whose slot is there, those behind its
-- first step. Code reference, "Blocks".
abbrev pub EdgesKeepSlots : Type 0
EdgesKeepSlots = AlongEdges (λ c i k from to. let slots = slots_within c.types c.variables from.number from.form (slots_around c i) in
    (any_pass (λ (s : Slot). nat_eq s.number (number_at c k)) slots ≡ false → without_slots (slots_left c slots (node k)) slots ≡ slots_around c k)
    × (any_pass (λ (s : Slot). nat_eq s.number (number_at c k)) slots ≡ true → without_slots (slots_left c slots (node k)) slots ≡ slots_within c.types c.variables to.number to.form (slots_around c k)))
