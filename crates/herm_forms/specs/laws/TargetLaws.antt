-- What is claimed of the forms that set a value at any path.
use Rattle.std.specs.Prelude.{ℕ, ◌≡◌, List, [], ◌∷◌, map, Bool, Some, None, slice_get, option_and_then, IsTrue}
use Rattle.herm_model.specs.Lists.{IsIn}
use Rattle.herm_model.specs.Paths.{Path, Fact}
use Rattle.herm_model.specs.Types.{fields, rows, inport, outport, type_at, is_within_depth, greatest_depth}
use Rattle.herm_model.specs.Facts.{IsFactOf}
use Rattle.herm_model.specs.Expressions.{Expression}
use Rattle.herm_model.specs.Statements.{Form, Arm, Assign, Move, New, Connect, Receive, Select, Send, Create}
use Rattle.herm_model.specs.Calls.{inport_at}
use Rattle.herm_model.specs.Outcomes.{Outcome}
use Rattle.herm_model.specs.FactsOfStatements.{needs}
use Rattle.herm_model.specs.Values.{Cell, Parts, Value}
use Rattle.herm_model.specs.Typed.{IsFull}
use Rattle.herm_forms.specs.Evaluate.{gives, evaluate}
use Rattle.herm_forms.specs.Frames.{Name, Frame, goes}
use Rattle.herm_journal.specs.Actions.{to_put, put, take}
use Rattle.herm_journal.specs.Messages.{CellAction, message_of_port, IsMessage}
use Rattle.herm_forms.specs.Exchanges.{receive, select, send_wants, send, ports_at, place_of_port}
use Rattle.herm_forms.specs.Excess.{excess_over_declared}
use Rattle.herm_forms.specs.Modules.{Module}
use Rattle.herm_forms.specs.Acts.{act, settle}
use Rattle.herm_forms.specs.laws.EdgeLaws.{AreSound, held_after}
use Rattle.herm_forms.specs.laws.FormLaws.{PreservesNeeds}

-- In sound values that have the facts that the assignment needs, the expression's value is a full one of the type.
abbrev pub GivesFull : Module → ℕ → Path → Expression → Type 0
GivesFull c t x e = (has : Fact → Bool) (ps : Parts Name) (value : Value) → AreSound c has ps → ((f : Fact) → IsIn f (needs c.types c.variables (Assign x e)) → IsTrue (has f))
    → evaluate ps e ≡ gives value → IsFull c.types t value

-- An assignment to any path does what the statement table says of it, where the expression's value is a full one of the
-- path's type: where it is so at this state, and where it is so whenever the assignment finds what it needs.
-- Language reference, "Sound states".
pub record AssignmentsKeepSound (c : Module) : Type 0 where
  pub at : (i : ℕ) (q : List ℕ) (t : ℕ) (e : Expression) → type_at c.types c.variables (i ∷ q) ≡ Some t → IsTrue (is_within_depth greatest_depth c.types t)
      → (name : Name → Name) (statement : ℕ) (has : Fact → Bool) (b b' : Frame Name) (o : Outcome) → ((value : Value) → evaluate b.variables e ≡ gives value → IsFull c.types t value)
      → AreSound c has b.variables → act name c statement (Assign (i ∷ q) e) b ≡ goes o b' → AreSound c (held_after c.types c.variables (Assign (i ∷ q) e) o has) b'.variables
  pub finding : (i : ℕ) (q : List ℕ) (t : ℕ) (e : Expression) → type_at c.types c.variables (i ∷ q) ≡ Some t → IsTrue (is_within_depth greatest_depth c.types t)
      → GivesFull c t (i ∷ q) e → PreservesNeeds c (Assign (i ∷ q) e)

-- A new record, table or outport at any path: its own fact is made. Language reference, "Sound states".
pub record NewValuesKeepSound (c : Module) : Type 0 where
  pub new : (i : ℕ) (q : List ℕ) (t : ℕ) (ts : List ℕ) → type_at c.types c.variables (i ∷ q) ≡ Some t → slice_get c.types t ≡ Some (fields ts) → PreservesNeeds c (New (i ∷ q))
  pub new_table : (i : ℕ) (q : List ℕ) (t row : ℕ) (key : List ℕ) → type_at c.types c.variables (i ∷ q) ≡ Some t → slice_get c.types t ≡ Some (rows row key) → PreservesNeeds c (New (i ∷ q))
  pub connect : (i : ℕ) (q : List ℕ) (t port : ℕ) (from : Path) → type_at c.types c.variables (i ∷ q) ≡ Some t → slice_get c.types t ≡ Some (outport port) → PreservesNeeds c (Connect (i ∷ q) from)

-- A move from any path to any path of the same type: what the source holds beyond its full facts is dropped.
-- Language reference, "Sound states".
abbrev pub MovesKeepSound : Type 0
MovesKeepSound = (c : Module) (i : ℕ) (q : List ℕ) (j : ℕ) (r : List ℕ) (t : ℕ) → type_at c.types c.variables (i ∷ q) ≡ Some t → type_at c.types c.variables (j ∷ r) ≡ Some t
    → IsTrue (is_within_depth greatest_depth c.types t) → PreservesNeeds c (Move (i ∷ q) (j ∷ r))

-- A message is received at any path of its type, with the facts at which the port's messages travel.
-- Language reference, "Sound states".
abbrev pub ReceivesKeepSound : Type 0
ReceivesKeepSound = (c : Module) (i : ℕ) (q : List ℕ) (t port : ℕ) (from : Path) → type_at c.types c.variables (i ∷ q) ≡ Some t → type_at c.types c.variables from ≡ Some port → message_of_port c.types port ≡ Some t
    → (has : Fact → Bool) (b b' : Frame Name) (o : Outcome) (k : ℕ) (message : Cell Name) → IsMessage c.types port message
    → AreSound c has b.variables → receive (i ∷ q) (take k message) b ≡ goes o b' → AreSound c (held_after c.types c.variables (Receive (i ∷ q) from) o has) b'.variables

-- The answer of a form's action does what the statement table says of the form. Language reference, "Sound states".
abbrev pub PreservesAnswers : Module → Form → Type 0
PreservesAnswers c form = (name : Name → Name) (place : ℕ) (action : CellAction Name) (has : Fact → Bool) (b b' : Frame Name) (o : Outcome) → AreSound c has b.variables
    → settle name c form place action b ≡ goes o b' → AreSound c (held_after c.types c.variables form o has) b'.variables

-- the message is one that the port of the arm takes, and has the type of the arm's target
pub record IsForArm (c : Module) (a : Arm) (message : Cell Name) : Type 0 where
  pub type : ℕ
  pub port : ℕ
  pub target : type_at c.types c.variables a.target ≡ Some type
  pub from : type_at c.types c.variables a.port ≡ Some port
  pub takes : message_of_port c.types port ≡ Some type
  pub is_message : IsMessage c.types port message

-- A new inport, an outport to a new process and what a `select` receives, at any path: also where there is no number or no
-- place for them. Language reference, "Sound states".
pub record AnswersKeepSound (c : Module) : Type 0 where
  pub new_inport : (i : ℕ) (q : List ℕ) (t message : ℕ) (declared : List Fact) → type_at c.types c.variables (i ∷ q) ≡ Some t → slice_get c.types t ≡ Some (inport message declared) → PreservesAnswers c (New (i ∷ q))
  pub create : (i : ℕ) (q : List ℕ) (t port process : ℕ) → type_at c.types c.variables (i ∷ q) ≡ Some t → slice_get c.types t ≡ Some (outport port) → PreservesAnswers c (Create (i ∷ q) process)
  pub select : (arms : List Arm) (has : Fact → Bool) (b b' : Frame Name) (o : Outcome) (from k : ℕ) (message : Cell Name)
      → ((n : ℕ) (a : Arm) → slice_get arms n ≡ Some a → option_and_then (place_of_port 0 from) (ports_at (map (λ a. a.port) arms) b) ≡ Some n → IsForArm c a message)
      → AreSound c has b.variables → select (map (λ a. a.target) arms) (map (λ a. a.port) arms) from (take k message) b ≡ goes o b' → AreSound c (held_after c.types c.variables (Select arms) o has) b'.variables

-- What a `send` that finds what it needs wants to put is a message of the port, where each declared fact is one of the message:
-- it has exactly the facts at which messages travel. Language reference, "Declared facts".
abbrev pub SentAreMessages : Type 0
SentAreMessages = (c : Module) (i : ℕ) (q : List ℕ) (t port : ℕ) (declared : List Fact) (to : Path) → type_at c.types c.variables (i ∷ q) ≡ Some t → IsTrue (is_within_depth greatest_depth c.types t)
    → inport_at c.types c.variables to ≡ Some port → slice_get c.types port ≡ Some (inport t declared) → ((f : Fact) → IsIn f declared → IsFactOf c.types (t ∷ []) f)
    → (has : Fact → Bool) (b : Frame Name) (n : ℕ) (message : Cell Name) → AreSound c has b.variables → ((f : Fact) → IsIn f (needs c.types c.variables (Send (i ∷ q) to)) → IsTrue (has f))
    → send_wants (excess_over_declared c to (i ∷ q) b) (i ∷ q) to b ≡ Some (to_put n message) → IsMessage c.types port message

-- A message that comes back is where it was, with the facts at which messages travel. Language reference, "Sound states".
abbrev pub ReturnedSendsKeepSound : Type 0
ReturnedSendsKeepSound = (c : Module) (i : ℕ) (q : List ℕ) (t port : ℕ) (to : Path) → type_at c.types c.variables (i ∷ q) ≡ Some t → inport_at c.types c.variables to ≡ Some port → message_of_port c.types port ≡ Some t
    → (has : Fact → Bool) (b b' : Frame Name) (o : Outcome) (message : Cell Name) → IsMessage c.types port message
    → AreSound c has b.variables → send (excess_over_declared c to (i ∷ q) b) (i ∷ q) (put None message) b ≡ goes o b' → AreSound c (held_after c.types c.variables (Send (i ∷ q) to) o has) b'.variables
