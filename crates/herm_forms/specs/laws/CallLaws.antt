-- What is claimed of calls and returns.
use Rattle.std.specs.Prelude.{ℕ, List, [], ◌∷◌, Bool, false, cond, nat_eq, Some, None, slice_get, ◌≡◌, IsTrue, ⊤}
use Rattle.herm_model.specs.Lists.{IsIn, any_pass}
use Rattle.herm_model.specs.Paths.{Path, Fact, path_of, is_at_or_below}
use Rattle.herm_model.specs.Types.{callmessage, by_in, Parameter, Raised, type_at, is_within_depth, greatest_depth}
use Rattle.herm_model.specs.Calls.{inport_at, call_raises, kept_for}
use Rattle.herm_model.specs.Statements.{Form, Call, Return, ReturnBy, Process}
use Rattle.herm_model.specs.TypedStatements.{AreApart}
use Rattle.herm_model.specs.FactsOfStatements.{needs, set_by_call, kept_by_call}
use Rattle.herm_model.specs.Outcomes.{Outcome, disconnected}
use Rattle.herm_model.specs.Values.{Cell, Parts, Value}
use Rattle.herm_model.specs.Typed.{IsFull}
use Rattle.herm_model.specs.Expressions.{Atom}
use Rattle.herm_journal.specs.Actions.{to_put, to_answer, values, raised, gone, put, hear}
use Rattle.herm_forms.specs.Frames.{Name, Frame, goes, stays}
use Rattle.herm_journal.specs.Messages.{CellReply, IsMessage}
use Rattle.herm_forms.specs.Evaluate.{gives, atom_value}
use Rattle.herm_forms.specs.Modules.{Module}
use Rattle.herm_forms.specs.Acts.{wants, settle, settle_reply}
use Rattle.herm_forms.specs.OpenCalls.{Calling, lent_paths, IsReply, call_type, returned_types, kept_types}
use Rattle.herm_forms.specs.laws.EdgeLaws.{AreSound, held_after}
use Rattle.herm_forms.specs.laws.TargetLaws.{PreservesAnswers}
use Rattle.herm_forms.specs.laws.TypedForms.{IsTypedIn}

-- A return of a callmessage at any path, whatever it still holds: behind the answer it is gone with what it held.
-- Language reference, "Sound states".
pub record ReturnsKeepSound (c : Module) : Type 0 where
  pub plain : (i : ℕ) (q : List ℕ) → PreservesAnswers c (Return (i ∷ q))
  pub by_exception : (i : ℕ) (q : List ℕ) (e : ℕ) → PreservesAnswers c (ReturnBy (i ∷ q) e)

-- The call of the code d takes callmessages of the type that is at a path of the code c, with these parameters and exceptions.
pub record IsCallAt (c d : Module) (k : Calling) (m : Path) : Type 0 where
  pub types : d.types ≡ c.types
  pub type : ℕ
  pub parameters : List Parameter
  pub raises : List Raised
  pub at : type_at c.types c.variables m ≡ Some type
  pub shape : slice_get c.types type ≡ Some (callmessage parameters raises)
  pub deep : IsTrue (is_within_depth greatest_depth c.types type)
  pub takes : call_type d k ≡ Some type

-- What a form wants to answer, where sound values have the facts that it needs, is a reply that the call waits for.
abbrev pub GivesReply : Module → Module → Calling → Form → Type 0
GivesReply c d k form = (name : Name → Name) (has : Fact → Bool) (b : Frame Name) (caller call : ℕ) (reply : CellReply Name) → AreSound c has b.variables
    → ((f : Fact) → IsIn f (needs c.types c.variables form) → IsTrue (has f)) → wants name c form b ≡ Some (to_answer caller call reply) → IsReply d k reply

-- What a return gives back is a reply that the caller's call waits for: full values of the parameters that come back,
-- without what they hold beyond, and with a declared exception those that it keeps. Language reference, "Calls".
pub record ReturnsGiveReplies (c d : Module) (k : Calling) : Type 0 where
  pub plain : (i : ℕ) (q : List ℕ) → IsCallAt c d k (i ∷ q) → GivesReply c d k (Return (i ∷ q))
  pub by_exception : (i : ℕ) (q : List ℕ) (e : ℕ) (at : IsCallAt c d k (i ∷ q)) → IsTrue (any_pass (λ (r : Raised). nat_eq r.exception e) at.raises) → GivesReply c d k (ReturnBy (i ∷ q) e)

-- The facts that are left while a call is open: none at or below an argument of mode inout, as `HasFact` says.
abbrev pub without_lent : Module → Calling → (Fact → Bool) → Fact → Bool
without_lent c k has f = cond (any_pass (λ p. is_at_or_below p (path_of f)) (lent_paths c k)) false (has f)

-- Each argument that a call sets is a path.
abbrev pub HasTargets : Module → Calling → Type 0
HasTargets c k = (p : Path) → IsIn p (set_by_call c.types c.variables k.port k.arguments) → (t : ℕ) × (type_at c.types c.variables p ≡ Some t)

-- A call that is placed leaves sound values, but none at or below an argument of mode inout, whatever else these held. Where
-- its callmessage comes back, and where it is answered with nothing, the outcome is the exception Disconnected, for which
-- no parameter is kept. Language reference, "Calls".
pub record CallsKeepSound (c : Module) (k : Calling) : Type 0 where
  pub placed : (name : Name → Name) (place : ℕ) (n : ℕ) (message : Cell Name) (has : Fact → Bool) (b b' : Frame Name) → AreSound c has b.variables
      → settle name c (Call k.port k.arguments) place (put (Some n) message) b ≡ stays b' → AreSound c (without_lent c k has) b'.variables
  pub came_back : HasTargets c k → kept_for (call_raises c.types c.variables k.port) disconnected ≡ []
      → (name : Name → Name) (place : ℕ) (message : Cell Name) (has : Fact → Bool) (b b' : Frame Name) (o : Outcome) → AreSound c has b.variables
      → settle name c (Call k.port k.arguments) place (put None message) b ≡ goes o b' → AreSound c (held_after c.types c.variables (Call k.port k.arguments) o has) b'.variables
  pub unanswered : HasTargets c k → kept_for (call_raises c.types c.variables k.port) disconnected ≡ []
      → (n call : ℕ) (has : Fact → Bool) (b b' : Frame Name) (o : Outcome) → AreSound c (without_lent c k has) b.variables
      → settle_reply c (Call k.port k.arguments) call (hear n gone) b ≡ goes o b' → AreSound c (held_after c.types c.variables (Call k.port k.arguments) o has) b'.variables

-- The paths have these types, each within the limit of depth.
abbrev pub HaveTypesAt : Module → List Path → List ℕ → Type 0
HaveTypesAt c [] [] = ⊤
HaveTypesAt c [] (t ∷ ts) = ⊥
HaveTypesAt c (x ∷ xs) [] = ⊥
HaveTypesAt c (x ∷ xs) (t ∷ ts) = (type_at c.types c.variables x ≡ Some t) × IsTrue (is_within_depth greatest_depth c.types t) × HaveTypesAt c xs ts

-- A reply that an open call waits for: behind its outcome, `ok` or the exception, values are sound with what is held there,
-- where the arguments that are set are apart from each other. Language reference, "Calls".
pub record RepliesKeepSound (c : Module) (k : Calling) : Type 0 where
  pub returned : HaveTypesAt c (set_by_call c.types c.variables k.port k.arguments) (returned_types c k) → AreApart (set_by_call c.types c.variables k.port k.arguments)
      → (n call : ℕ) (cells : List (Cell Name)) (has : Fact → Bool) (b b' : Frame Name) (o : Outcome) → IsReply c k (values cells) → AreSound c (without_lent c k has) b.variables
      → settle_reply c (Call k.port k.arguments) call (hear n (values cells)) b ≡ goes o b' → AreSound c (held_after c.types c.variables (Call k.port k.arguments) o has) b'.variables
  pub by_exception : (e : ℕ) → HasTargets c k → HaveTypesAt c (kept_by_call c.types c.variables k.port k.arguments e) (kept_types c k e) → AreApart (kept_by_call c.types c.variables k.port k.arguments e)
      → ((p : Path) → IsIn p (kept_by_call c.types c.variables k.port k.arguments e) → IsIn p (set_by_call c.types c.variables k.port k.arguments))
      → (n call : ℕ) (cells : List (Cell Name)) (has : Fact → Bool) (b b' : Frame Name) (o : Outcome) → IsReply c k (raised e cells) → AreSound c (without_lent c k has) b.variables
      → settle_reply c (Call k.port k.arguments) call (hear n (raised e cells)) b ≡ goes o b' → AreSound c (held_after c.types c.variables (Call k.port k.arguments) o has) b'.variables

-- The values of the arguments of mode in are full ones of their types.
abbrev pub AreFullInputs : Module → Parts Name → List Parameter → List Atom → Type 0
AreFullInputs c ps [] atoms = ⊤
AreFullInputs c ps (p ∷ parameters) [] = ⊤
AreFullInputs c ps (p ∷ parameters) (a ∷ atoms) = (p.mode ≡ by_in → (value : Value) → atom_value ps a ≡ gives value → IsFull c.types p.content value) × AreFullInputs c ps parameters atoms

-- What a typed call that finds what it needs wants to put is a message of the port to which its outport leads: a callmessage with
-- full copies of its arguments of mode in, and those of mode inout without what they hold beyond a full value.
-- Language reference, "Calls".
abbrev pub CallsAreMessages : Type 0
CallsAreMessages = (exceptions : ℕ) (processes : List Process) (c : Module) (k : Calling) → IsTypedIn exceptions processes c (Call k.port k.arguments)
    → (name : Name → Name) (has : Fact → Bool) (b : Frame Name) (n : ℕ) (message : Cell Name) → AreSound c has b.variables → ((f : Fact) → IsIn f (needs c.types c.variables (Call k.port k.arguments)) → IsTrue (has f))
    → wants name c (Call k.port k.arguments) b ≡ Some (to_put n message) → (port : ℕ) × (inport_at c.types c.variables k.port ≡ Some port) × IsMessage c.types port message
