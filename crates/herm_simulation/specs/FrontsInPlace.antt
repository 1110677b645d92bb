-- Where a front stands in code, and what it is that it does what its form does.
use Rattle.std.specs.Prelude.{ℕ, ◌+◌, List, [], ◌∷◌, Some, slice_get, ◌≡◌}
use Rattle.herm_model.specs.Lists.{IsIn}
use Rattle.herm_model.specs.Paths.{Fact}
use Rattle.herm_model.specs.Expressions.{Literal}
use Rattle.herm_model.specs.Outcomes.{Outcome, raised, outcomes}
use Rattle.herm_model.specs.Statements.{Form}
use Rattle.herm_model.specs.Values.{Name}
use Rattle.herm_forms.specs.Acts.{act}
use Rattle.herm_forms.specs.Frames.{Frame, goes}
use Rattle.herm_instructions.specs.Instructions.{Instruction}
use Rattle.herm_instructions.specs.Images.{landing_of}
use Rattle.herm_instructions.specs.Effects.{exceptions_of}
use Rattle.herm_code_machine.specs.ReadyCode.{ReadyCode}
use Rattle.herm_translated.specs.Constants.{literals_in}
use Rattle.herm_translated.specs.Fronts.{front, front_length}
use Rattle.herm_translated.specs.laws.NamedComponents.{NamesAll}
use Rattle.herm_simulation.specs.Leading.{StandFrom, state_at, LeadsTo}

-- each exception of instructions in a row from an index on lands at its edge
abbrev pub LandFrom : ReadyCode → (exit_at : Outcome → ℕ) → (index : ℕ) → List Instruction → Type 0
LandFrom c exit_at i row =
    (n : ℕ) (x : Instruction) → slice_get row n ≡ Some x → (e : ℕ) → IsIn e (exceptions_of c.scope.types c.scope.variables x) → landing_of c.code (i + n) e ≡ Some (exit_at (raised e))

-- The front of a form stands at an index, each outcome has an edge, that of the first one right behind the front, and each
-- exception lands at its own. Code reference, "Blocks".
pub record IsFrontAt (c : ReadyCode) (facts : List Fact) (number : ℕ) (form : Form) (first : ℕ) (exit_at : Outcome → ℕ) : Type 0 where
  pub stands : StandFrom c first (front c.scope.types c.scope.variables c.constants facts number first exit_at form)
  pub lands : LandFrom c exit_at first (front c.scope.types c.scope.variables c.constants facts number first exit_at form)
  pub behind : (o : Outcome) (rest : List Outcome) → outcomes c.scope.types c.scope.variables form ≡ o ∷ rest → exit_at o ≡ first + front_length c.scope.types c.scope.variables c.constants form
  pub names : NamesAll c.scope.types c.scope.variables form
  pub known : (l : Literal) → IsIn l (literals_in form) → IsIn l c.constants

-- From an index so far behind the first of a front, with nothing on the stack, the code leads to the edge of the outcome that the
-- form comes to, with the frame that the form leaves.
abbrev pub LeadsOut : (Name → Name) → ReadyCode → (number : ℕ) → Form → (distance : ℕ) → (Frame Name → Type 0) → Type 0
LeadsOut name c number form distance Where =
    (facts : List Fact) (first : ℕ) (exit_at : Outcome → ℕ) → IsFrontAt c facts number form first exit_at → (k : ℕ) (b b' : Frame Name) (o : Outcome) → Where b
    → act name c.scope number form b ≡ goes o b' → IsIn o (outcomes c.scope.types c.scope.variables form)
    → LeadsTo name c (state_at k (first + distance) [] b) (state_at k (exit_at o) [] b')
