-- What is claimed of the cells that a process holds at places with types.
use Rattle.std.specs.Prelude.{ℕ, List, Bool, Option, Some, flat_map, option_and_then, slice_get, IsTrue, ⊤, ◌≡◌}
use Rattle.herm_model.specs.Calls.{led_to}
use Rattle.herm_model.specs.Lists.{IsIn}
use Rattle.herm_model.specs.Types.{TypeTable, outport}
use Rattle.herm_model.specs.TypedPrograms.{IsTypedProgram}
use Rattle.herm_model.specs.Values.{Name, Kind, a_callmessage, an_inport, an_outport}
use Rattle.herm_journal.specs.PartTypes.{is_kind_at, has_no_number}
use Rattle.herm_system.specs.Machines.{Machine}
use Rattle.herm_system.specs.Kinds.{typed_held}
use Rattle.herm_source.specs.Modules.{Program, Modules}
use Rattle.herm_source.specs.States.{State}
use Rattle.herm_source.specs.AcceptedRuns.{AreAccepted}
use Rattle.herm_source.specs.Instance.{source, IsSoundIn}

-- A property of cells and the types of their places that is had by each cell without the number of a port or a call where its
-- type is, and by an outport to where an inport with the property is.
pub record IsOfNumbers (types : TypeTable) (P : ℕ → Kind → Type 0) : Type 0 where
  pub others : (t : ℕ) (k : Kind) → IsTrue (is_kind_at (slice_get types t) k) → IsTrue (has_no_number k) → P t k
  pub connects : (t port n : ℕ) → slice_get types t ≡ Some (outport port) → P port (an_inport n) → P t (an_outport n)

-- all cells that a process holds at places with types have the property
abbrev pub HoldsTyped : {P : Type 0} → Machine Name P → (ℕ → Kind → Type 0) → P → Type 0
HoldsTyped machine Is x = (t : ℕ) (k : Kind) → IsIn (t, k) (flat_map (typed_held machine.types) (machine.held x)) → Is t k

-- Of the modules of a typed and accepted program, a process that is sound within itself holds behind a local step such cells
-- alone, if it did before. Language reference, "Sound states".
abbrev pub LocalStepsKeepPlaces : (ℕ → Kind → Type 0) → Type 0
LocalStepsKeepPlaces Is = (exceptions : ℕ) (program : Program) (modules : Modules) → AreAccepted program modules → IsTypedProgram exceptions program.types program.processes program.main → IsOfNumbers modules.types Is
    → (x y : State Name) → IsSoundIn modules x → (source modules).local_step x ≡ Some y → HoldsTyped (source modules) Is x → HoldsTyped (source modules) Is y

-- So of each property that is a test.
abbrev pub LocalStepsKeepTests : Type 0
LocalStepsKeepTests = (is : ℕ → Kind → Bool) → LocalStepsKeepPlaces (λ t k. IsTrue (is t k))

-- Where ports have these types, and the callmessages of calls these: an inport stands at a place of its port's type, an
-- outport at a place whose type leads to its port's, and a callmessage at a place of its call's. Language reference, "Sound
-- states".
abbrev pub StandsAt : TypeTable → (ports : List ℕ) → (calls : ℕ → ℕ → Option ℕ) → ℕ → Kind → Type 0
StandsAt types ports calls t (an_inport n) = slice_get ports n ≡ Some t
StandsAt types ports calls t (an_outport n) = (u : ℕ) × (option_and_then led_to (slice_get types t) ≡ Some u) × (slice_get ports n ≡ Some u)
StandsAt types ports calls t (a_callmessage caller call) = calls caller call ≡ Some t
StandsAt types ports calls t k = ⊤

-- So local steps keep the three clauses.
abbrev pub LocalStepsKeepStanding : Type 0
LocalStepsKeepStanding = (exceptions : ℕ) (program : Program) (modules : Modules) (ports : List ℕ) (calls : ℕ → ℕ → Option ℕ) → AreAccepted program modules
    → IsTypedProgram exceptions program.types program.processes program.main
    → (x y : State Name) → IsSoundIn modules x → (source modules).local_step x ≡ Some y
    → HoldsTyped (source modules) (StandsAt modules.types ports calls) x → HoldsTyped (source modules) (StandsAt modules.types ports calls) y
