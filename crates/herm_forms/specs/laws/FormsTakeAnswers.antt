-- What is claimed of typed forms that are actions: what each wants is there, and each answer to it is taken where what comes in
-- suits; and so is the reply to an open call.
use Rattle.std.specs.Prelude.{◌≡◌, ℕ, List, Bool, Some, IsTrue, ⊤}
use Rattle.herm_model.specs.Lists.{IsIn}
use Rattle.herm_model.specs.Paths.{Path, Fact}
use Rattle.herm_model.specs.Expressions.{Atom}
use Rattle.herm_model.specs.Statements.{Form, New, Send, Receive, Select, Arm, Call, Return, ReturnBy, Create, Process}
use Rattle.herm_model.specs.FactsOfStatements.{needs}
use Rattle.herm_model.specs.Outcomes.{Outcome, outcomes}
use Rattle.herm_journal.specs.Actions.{make_port, make_process, put, take, answer, hear}
use Rattle.herm_journal.specs.Messages.{CellWant, CellAction, CellReply}
use Rattle.herm_forms.specs.Frames.{Name, Frame, Completion, goes, stays, stuck}
use Rattle.herm_forms.specs.Modules.{Module}
use Rattle.herm_forms.specs.Acts.{is_action, wants, settle, settle_reply}
use Rattle.herm_forms.specs.laws.EdgeLaws.{AreSound}
use Rattle.herm_forms.specs.OpenCalls.{Calling, IsReply}
use Rattle.herm_forms.specs.laws.CallLaws.{without_lent}
use Rattle.herm_forms.specs.Incoming.{ComesIn}
use Rattle.herm_forms.specs.laws.TypedForms.{IsTypedIn}

-- The result goes on with one of these outcomes.
abbrev pub IsTaken : List Outcome → Completion Name → Type 0
IsTaken S (goes o b) = IsIn o S
IsTaken S (stays b) = ⊥
IsTaken S stuck = ⊥

-- the result stays at its statement
abbrev pub IsStaying : Completion Name → Type 0
IsStaying (goes o b) = ⊥
IsStaying (stays b) = ⊤
IsStaying stuck = ⊥

-- A call whose callmessage was placed stays where it is, and waits for its reply; every other form goes on with one of its outcomes.
-- Language reference, "Calls".
abbrev pub IsTakenAt : List Outcome → Form → CellAction Name → Completion Name → Type 0
IsTakenAt S (Call o arguments) (put (Some number) m) r = IsStaying r
IsTakenAt S form action r = IsTaken S r

-- the action is one that answers what such a form wants
abbrev pub Meets : CellAction Name → Form → Type 0
Meets (make_port made) (New x) = ⊤
Meets (make_process code made) (Create o process) = ⊤
Meets (put number m) (Send x o) = ⊤
Meets (put number m) (Call o arguments) = ⊤
Meets (take number m) (Receive x i) = ⊤
Meets (take number m) (Select arms) = ⊤
Meets (answer call r) (Return m) = ⊤
Meets (answer call r) (ReturnBy m e) = ⊤
Meets action form = ⊥

-- In sound values that have what the form needs, its want is there; and an answer to it, with which what suits comes in, is taken
-- with an outcome of the form. Language reference, "Sound states".
abbrev pub HasWant : Module → Form → Type 0
HasWant c form = (name : Name → Name) (has : Fact → Bool) (b : Frame Name) → AreSound c has b.variables → ((f : Fact) → IsIn f (needs c.types c.variables form) → IsTrue (has f)) → (w : CellWant Name) × (wants name c form b ≡ Some w)

abbrev pub TakesAnswers : Module → Form → Type 0
TakesAnswers c form = (name : Name → Name) (place : ℕ) (action : CellAction Name) (has : Fact → Bool) (b : Frame Name) → AreSound c has b.variables → ((f : Fact) → IsIn f (needs c.types c.variables form) → IsTrue (has f))
    → Meets action form → ComesIn name c form b place action → IsTakenAt (outcomes c.types c.variables form) form action (settle name c form place action b)

module _ (exceptions : ℕ) (processes : List Process) (c : Module) where
  abbrev pub AnswersGoOn : Form → Type 0
  AnswersGoOn form = IsTypedIn exceptions processes c form → IsTrue (is_action c form) → HasWant c form × TakesAnswers c form

  -- A field for each row of the statement table whose form is an action, and one for the reply to a call.
  -- Language reference, "Sound states".
  pub record FormsTakeAnswers : Type 0 where
    pub new_inport : (x : Path) → AnswersGoOn (New x)
    pub send : (x o : Path) → AnswersGoOn (Send x o)
    pub receive : (x i : Path) → AnswersGoOn (Receive x i)
    pub select : (arms : List Arm) → AnswersGoOn (Select arms)
    pub call : (o : Path) (arguments : List Atom) → AnswersGoOn (Call o arguments)
    pub return : (m : Path) → AnswersGoOn (Return m)
    pub return_by : (m : Path) (e : ℕ) → AnswersGoOn (ReturnBy m e)
    pub create : (o : Path) (process : ℕ) → AnswersGoOn (Create o process)
    pub replied : (k : Calling) → IsTypedIn exceptions processes c (Call k.port k.arguments) → (call : ℕ) (r : CellReply Name) (has : Fact → Bool) (b : Frame Name) → ((f : Fact) → IsIn f (needs c.types c.variables (Call k.port k.arguments)) → IsTrue (has f))
        → IsReply c k r → AreSound c (without_lent c k has) b.variables → IsTaken (outcomes c.types c.variables (Call k.port k.arguments)) (settle_reply c (Call k.port k.arguments) call (hear call r) b)
