-- What is claimed of the code of an edge: it does what the source does where control goes to the edge's target.
use Rattle.std.specs.Prelude.{ℕ, List, [], map, ◌≡◌}
use Rattle.herm_model.specs.Outcomes.{Outcome}
use Rattle.herm_model.specs.Paths.{Path}
use Rattle.herm_model.specs.Statements.{Differ}
use Rattle.herm_model.specs.Targets.{Target}
use Rattle.herm_model.specs.Values.{Name, has_value}
use Rattle.herm_model.specs.Finalising.{excess}
use Rattle.herm_forms.specs.EdgeFinalising.{keeps, arrive}
use Rattle.herm_forms.specs.Frames.{Loop, Frame}
use Rattle.herm_forms.specs.Modules.{Module}
use Rattle.herm_instructions.specs.Labels.{Slot}
use Rattle.herm_code_machine.specs.ReadyCode.{ReadyCode, scope_of}
use Rattle.herm_translated.specs.Departures.{edge_code}
use Rattle.herm_translated.specs.CodeBlocks.{arrival_at, departure}
use Rattle.herm_simulation.specs.Leading.{StandFrom, state_at, LeadsTo, arrived_at}

-- the lists of rows are those of the slots, in order, and no two of one statement
abbrev pub AreListsOf : List Slot → List (Loop Name) → Type 0
AreListsOf slots loops = (map (λ (l : Loop Name). l.statement) loops ≡ map (λ (s : Slot). s.number) slots) × Differ (map (λ (l : Loop Name). l.statement) loops)

-- Let the code of an edge stand at an index, which drops what is there beyond what its target keeps, and let the lists of rows be those of
-- the slots. Then it leads on to where the edge arrives, with the frame that the source has where control goes to the target.
-- Code reference, "Blocks".
abbrev pub EdgesDoArrivals : Type 0
EdgesDoArrivals = (name : Name → Name) (c : ReadyCode) (m : Module) → c.scope ≡ scope_of m.types m.variables → (start : ℕ → ℕ) (slots : List Slot) (o : Outcome) (t : Target) (drops : List Path) (k i : ℕ) (b : Frame Name)
    → StandFrom c i (edge_code start (departure m slots o t drops)) → drops ≡ excess m.types m.variables (has_value b.variables) (keeps m t) → AreListsOf slots b.loops
    → LeadsTo name c (state_at k i [] b) (record { module_number = k; position = arrived_at start (arrival_at m slots t); stack = []; frame = arrive m t b })
