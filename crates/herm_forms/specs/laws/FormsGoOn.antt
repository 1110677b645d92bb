-- What is claimed of typed forms that are local steps: none is stuck.
use Rattle.std.specs.Prelude.{◌≡◌, ℕ, List, Bool, Some, IsTrue, IsFalse}
use Rattle.herm_model.specs.Lists.{IsIn}
use Rattle.herm_model.specs.Paths.{Path, Fact}
use Rattle.herm_model.specs.Expressions.{Expression, Atom}
use Rattle.herm_model.specs.Statements.{Form, Assign, Move, New, Discard, Unite, Dissolve, Reveal, Case, Wrap, Unwrap, Insert, Remove, Get, For, Connect, If, While, Raise, Leave, Process}
use Rattle.herm_model.specs.FactsOfStatements.{needs}
use Rattle.herm_model.specs.Outcomes.{Outcome}
use Rattle.herm_model.specs.Types.{type_at}
use Rattle.herm_model.specs.Values.{Parts}
use Rattle.herm_model.specs.Typed.{Fits, many}
use Rattle.herm_forms.specs.LoopForms.{rows_for}
use Rattle.herm_forms.specs.Frames.{Name, Frame, goes}
use Rattle.herm_forms.specs.Modules.{Module}
use Rattle.herm_forms.specs.Acts.{is_action, act}
use Rattle.herm_forms.specs.laws.EdgeLaws.{AreSound}
use Rattle.herm_forms.specs.laws.TypedForms.{IsTypedIn}

-- In sound values that have what the form needs, it comes to an outcome. Language reference, "Sound states".
abbrev pub GoesOn : Module → Form → Type 0
GoesOn c form = (name : Name → Name) (statement : ℕ) (has : Fact → Bool) (b : Frame Name) → AreSound c has b.variables → ((f : Fact) → IsIn f (needs c.types c.variables form) → IsTrue (has f))
    → (o : Outcome) × (b' : Frame Name) × (act name c statement form b ≡ goes o b')

-- So does a test of `for`, where the rows that its loop has yet to visit are full.
abbrev pub VisitGoesOn : Module → (row : ℕ) → (target table : Path) → Type 0
VisitGoesOn c row r t = (name : Name → Name) (statement : ℕ) (has : Fact → Bool) (b : Frame Name) → AreSound c has b.variables → ((f : Fact) → IsIn f (needs c.types c.variables (For r t)) → IsTrue (has f))
    → ((rs : Parts Name) → rows_for statement b.loops ≡ Some rs → Fits c.types (many row) rs) → (o : Outcome) × (b' : Frame Name) × (act name c statement (For r t) b ≡ goes o b')

module _ (exceptions : ℕ) (processes : List Process) (c : Module) where
  abbrev pub LocalGoesOn : Form → Type 0
  LocalGoesOn form = IsTypedIn exceptions processes c form → GoesOn c form

  -- A field for each row of the statement table whose form is a local step. Language reference, "Sound states".
  pub record FormsGoOn : Type 0 where
    pub assign : (x : Path) (e : Expression) → LocalGoesOn (Assign x e)
    pub move : (y x : Path) → LocalGoesOn (Move y x)
    pub new : (x : Path) → IsTypedIn exceptions processes c (New x) → IsFalse (is_action c (New x)) → GoesOn c (New x)
    pub discard : (x : Path) → LocalGoesOn (Discard x)
    pub unite : (v : Path) (k : ℕ) (y : Path) → LocalGoesOn (Unite v k y)
    pub dissolve : (v : Path) (k : ℕ) (y : Path) → LocalGoesOn (Dissolve v k y)
    pub reveal : (v : Path) (k : ℕ) → LocalGoesOn (Reveal v k)
    pub choose : (v : Path) (ks : List ℕ) → LocalGoesOn (Case v ks)
    pub wrap : (y p : Path) → LocalGoesOn (Wrap y p)
    pub unwrap : (p : Path) (t : ℕ) (y : Path) → LocalGoesOn (Unwrap p t y)
    pub insert : (r t : Path) → LocalGoesOn (Insert r t)
    pub remove : (r t : Path) (keys : List Atom) → LocalGoesOn (Remove r t keys)
    pub get : (r t : Path) (keys : List Atom) → LocalGoesOn (Get r t keys)
    pub visit : (r t : Path) → IsTypedIn exceptions processes c (For r t) → (row : ℕ) → type_at c.types c.variables r ≡ Some row → VisitGoesOn c row r t
    pub connect : (o i : Path) → LocalGoesOn (Connect o i)
    pub if_test : (e : Expression) → LocalGoesOn (If e)
    pub while_test : (e : Expression) → LocalGoesOn (While e)
    pub raise : (e : ℕ) → LocalGoesOn (Raise e)
    pub leave : LocalGoesOn Leave
