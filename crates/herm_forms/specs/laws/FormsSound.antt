-- What is claimed of typed forms: sound values that have what a form needs stay sound, a field for each row of the statement
-- table; what a form gives away suits where it goes; and so of calls while they are open.
use Rattle.std.specs.Prelude.{◌≡◌, ◌⊎◌, ℕ, List, ◌∷◌, map, Bool, Some, None, IsTrue}
use Rattle.herm_model.specs.Lists.{IsIn}
use Rattle.herm_model.specs.Paths.{Path, Fact}
use Rattle.herm_model.specs.Types.{type_at}
use Rattle.herm_model.specs.Expressions.{Expression, Atom}
use Rattle.herm_model.specs.Calls.{inport_at}
use Rattle.herm_model.specs.Statements.{Form, Assign, Move, New, Discard, Unite, Dissolve, Reveal, Case, Wrap, Unwrap, Insert, Remove, Get, For, Connect, Send, Receive, Select, Arm, Call, Return, ReturnBy, Create, If, While, Raise, Leave, Process}
use Rattle.herm_model.specs.FactsOfStatements.{needs}
use Rattle.herm_model.specs.Outcomes.{Outcome}
use Rattle.herm_model.specs.Values.{Cell, Parts}
use Rattle.herm_model.specs.Typed.{Fits, many}
use Rattle.herm_journal.specs.Actions.{to_put, put, hear}
use Rattle.herm_journal.specs.Messages.{CellAction, CellReply, IsMessage}
use Rattle.herm_forms.specs.Frames.{Name, Loop, Frame, goes, stays}
use Rattle.herm_forms.specs.LoopForms.{rows_for}
use Rattle.herm_forms.specs.Modules.{Module}
use Rattle.herm_forms.specs.Acts.{is_action, act, wants, settle, settle_reply}
use Rattle.herm_forms.specs.OpenCalls.{Calling, call_type, IsReply}
use Rattle.herm_forms.specs.laws.EdgeLaws.{AreSound, held_after}
use Rattle.herm_forms.specs.laws.FormLaws.{PreservesNeeds}
use Rattle.herm_forms.specs.laws.CallLaws.{GivesReply, without_lent}
use Rattle.herm_forms.specs.Incoming.{ComesIn}
use Rattle.herm_forms.specs.laws.TypedForms.{IsTypedIn}

-- The answer of a form's action, where what comes in suits, does what the statement table says of the form: sound values that
-- have the facts that it needs stay sound, with what is held behind the outcome. Language reference, "Sound states".
abbrev pub KeepsAnswering : Module → Form → Type 0
KeepsAnswering c form = (name : Name → Name) (place : ℕ) (action : CellAction Name) (has : Fact → Bool) (b b' : Frame Name) (o : Outcome) → AreSound c has b.variables
    → ((f : Fact) → IsIn f (needs c.types c.variables form) → IsTrue (has f)) → ComesIn name c form b place action
    → settle name c form place action b ≡ goes o b' → AreSound c (held_after c.types c.variables form o has) b'.variables

-- The lists are of the same loops in the same order; but where the statement had none, its own is in front.
abbrev pub AreSameLoops : (statement : ℕ) → (before behind : List (Loop Name)) → Type 0
AreSameLoops s ls ks =
    (map (λ l. l.statement) ks ≡ map (λ l. l.statement) ls) ⊎ ((rows_for s ls ≡ None) × (map (λ l. l.statement) ks ≡ s ∷ map (λ l. l.statement) ls))

-- A test of `for` keeps sound values so where the rows that its loop has yet to visit are full. Each loop behind it is one that was
-- there, or the statement's with full rows; and none is lost or doubled. Language reference, "Loops".
abbrev pub KeepsVisiting : Module → (row : ℕ) → (target table : Path) → Type 0
KeepsVisiting c row r t = (name : Name → Name) (statement : ℕ) (has : Fact → Bool) (b b' : Frame Name) (o : Outcome) → AreSound c has b.variables
    → ((rs : Parts Name) → rows_for statement b.loops ≡ Some rs → Fits c.types (many row) rs) → act name c statement (For r t) b ≡ goes o b'
    → AreSound c (held_after c.types c.variables (For r t) o has) b'.variables
    × ((l : Loop Name) → IsIn l b'.loops → IsIn l b.loops ⊎ ((l.statement ≡ statement) × Fits c.types (many row) l.rows)) × AreSameLoops statement b.loops b'.loops

module _ (exceptions : ℕ) (processes : List Process) (c : Module) where
  -- of a typed form that is a local step, and of one that is an action
  abbrev pub LocalKeeps : Form → Type 0
  LocalKeeps form = IsTypedIn exceptions processes c form → PreservesNeeds c form

  abbrev pub AnswerKeeps : Form → Type 0
  AnswerKeeps form = IsTypedIn exceptions processes c form → IsTrue (is_action c form) → KeepsAnswering c form

  -- A field for each row of the statement table; `new` of an inport has one of its own. Language reference, "Sound states".
  pub record FormsKeepSound : Type 0 where
    pub assign : (x : Path) (e : Expression) → LocalKeeps (Assign x e)
    pub move : (y x : Path) → LocalKeeps (Move y x)
    pub new : (x : Path) → LocalKeeps (New x)
    pub new_inport : (x : Path) → AnswerKeeps (New x)
    pub discard : (x : Path) → LocalKeeps (Discard x)
    pub unite : (v : Path) (k : ℕ) (y : Path) → LocalKeeps (Unite v k y)
    pub dissolve : (v : Path) (k : ℕ) (y : Path) → LocalKeeps (Dissolve v k y)
    pub reveal : (v : Path) (k : ℕ) → LocalKeeps (Reveal v k)
    pub choose : (v : Path) (ks : List ℕ) → LocalKeeps (Case v ks)
    pub wrap : (y p : Path) → LocalKeeps (Wrap y p)
    pub unwrap : (p : Path) (t : ℕ) (y : Path) → LocalKeeps (Unwrap p t y)
    pub insert : (r t : Path) → LocalKeeps (Insert r t)
    pub remove : (r t : Path) (keys : List Atom) → LocalKeeps (Remove r t keys)
    pub get : (r t : Path) (keys : List Atom) → LocalKeeps (Get r t keys)
    pub visit : (r t : Path) → IsTypedIn exceptions processes c (For r t) → (row : ℕ) → type_at c.types c.variables r ≡ Some row → KeepsVisiting c row r t
    pub connect : (o i : Path) → LocalKeeps (Connect o i)
    pub send : (x o : Path) → AnswerKeeps (Send x o)
    pub receive : (x i : Path) → AnswerKeeps (Receive x i)
    pub select : (arms : List Arm) → AnswerKeeps (Select arms)
    pub call : (o : Path) (arguments : List Atom) → AnswerKeeps (Call o arguments)
    pub return : (m : Path) → AnswerKeeps (Return m)
    pub return_by : (m : Path) (e : ℕ) → AnswerKeeps (ReturnBy m e)
    pub create : (o : Path) (process : ℕ) → AnswerKeeps (Create o process)
    pub if_test : (e : Expression) → LocalKeeps (If e)
    pub while_test : (e : Expression) → LocalKeeps (While e)
    pub raise : (e : ℕ) → LocalKeeps (Raise e)
    pub leave : LocalKeeps Leave

  -- While a call that was placed is open, values are sound but at and below its arguments of mode inout; the reply that it
  -- waits for leaves them sound with what is held behind its outcome. Language reference, "Calls".
  pub record OpenCallsKeepSound (k : Calling) : Type 0 where
    pub placed : (name : Name → Name) (place n : ℕ) (message : Cell Name) (has : Fact → Bool) (b b' : Frame Name) → AreSound c has b.variables
        → settle name c (Call k.port k.arguments) place (put (Some n) message) b ≡ stays b' → AreSound c (without_lent c k has) b'.variables
    pub replied : IsTypedIn exceptions processes c (Call k.port k.arguments)
        → (n call : ℕ) (r : CellReply Name) (has : Fact → Bool) (b b' : Frame Name) (o : Outcome) → IsReply c k r → AreSound c (without_lent c k has) b.variables
        → settle_reply c (Call k.port k.arguments) call (hear n r) b ≡ goes o b' → AreSound c (held_after c.types c.variables (Call k.port k.arguments) o has) b'.variables

  -- What a form that finds what it needs wants to put is a message of the port to which the outport leads.
  abbrev pub GivesMessage : (port : Path) → Form → Type 0
  GivesMessage to form = (name : Name → Name) (has : Fact → Bool) (b : Frame Name) (n : ℕ) (m : Cell Name) → AreSound c has b.variables → ((f : Fact) → IsIn f (needs c.types c.variables form) → IsTrue (has f))
      → wants name c form b ≡ Some (to_put n m) → (t : ℕ) × (inport_at c.types c.variables to ≡ Some t) × IsMessage c.types t m

  -- What `send` and `call` put are messages of their ports; what a return gives back is a reply that a call waits for whose
  -- callmessage has the type of the one that is returned. Language reference, "Messages".
  pub record FormsGiveWhatSuits : Type 0 where
    pub sent : (x o : Path) → IsTypedIn exceptions processes c (Send x o) → GivesMessage o (Send x o)
    pub called : (o : Path) (arguments : List Atom) → IsTypedIn exceptions processes c (Call o arguments) → GivesMessage o (Call o arguments)
    pub returned : (m : Path) → IsTypedIn exceptions processes c (Return m) → (d : Module) (k : Calling) → d.types ≡ c.types → call_type d k ≡ type_at c.types c.variables m → GivesReply c d k (Return m)
    pub returned_by : (m : Path) (e : ℕ) → IsTypedIn exceptions processes c (ReturnBy m e) → (d : Module) (k : Calling) → d.types ≡ c.types → call_type d k ≡ type_at c.types c.variables m → GivesReply c d k (ReturnBy m e)
