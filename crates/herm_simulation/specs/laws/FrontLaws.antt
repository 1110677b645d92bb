-- What is claimed of fronts: they do what their forms do.
use Rattle.std.specs.Prelude.{ℕ, List, Some, None, ◌≡◌, ⊤}
use Rattle.herm_model.specs.Paths.{Path}
use Rattle.herm_model.specs.Expressions.{Expression, Atom}
use Rattle.herm_model.specs.Statements.{Form, Assign, Move, New, Discard, Unite, Dissolve, Reveal, Case, Wrap, Unwrap, Insert, Remove, Get, For, Connect, If, While, Raise, Leave}
use Rattle.herm_model.specs.Values.{Name, Parts}
use Rattle.herm_forms.specs.LoopForms.{rows_for}
use Rattle.herm_code_machine.specs.ReadyCode.{ReadyCode}
use Rattle.herm_simulation.specs.FrontsInPlace.{LeadsOut}

module _ (name : Name → Name) (c : ReadyCode) (number : ℕ) where
  -- the front of the form does what the form does
  abbrev pub FrontDoes : Form → Type 0
  FrontDoes form = LeadsOut name c number form 0 (λ b. ⊤)

  -- The front of each form that is a local step does what the form does: operands, and then the instruction of its name, lead to the edge of the
  -- outcome that the form comes to, with what the form leaves. A `for` begins at its first step where it has no list of rows yet, and at its second
  -- one where it has. Code reference, "Blocks".
  pub record FrontsDo : Type 0 where
    pub assign : (x : Path) (e : Expression) → FrontDoes (Assign x e)
    pub move : (y x : Path) → FrontDoes (Move y x)
    pub new : (x : Path) → FrontDoes (New x)
    pub discard : (x : Path) → FrontDoes (Discard x)
    pub unite : (v : Path) (k : ℕ) (y : Path) → FrontDoes (Unite v k y)
    pub dissolve : (v : Path) (k : ℕ) (y : Path) → FrontDoes (Dissolve v k y)
    pub reveal : (v : Path) (k : ℕ) → FrontDoes (Reveal v k)
    pub choose : (v : Path) (ks : List ℕ) → FrontDoes (Case v ks)
    pub wrap : (y p : Path) → FrontDoes (Wrap y p)
    pub unwrap : (p : Path) (t : ℕ) (y : Path) → FrontDoes (Unwrap p t y)
    pub insert : (r t : Path) → FrontDoes (Insert r t)
    pub remove : (r t : Path) (keys : List Atom) → FrontDoes (Remove r t keys)
    pub get : (r t : Path) (keys : List Atom) → FrontDoes (Get r t keys)
    pub first_visit : (r t : Path) → LeadsOut name c number (For r t) 0 (λ b. rows_for number b.loops ≡ None)
    pub visit : (r t : Path) → LeadsOut name c number (For r t) 3 (λ b. (rows : Parts Name) × (rows_for number b.loops ≡ Some rows))
    pub connect : (o i : Path) → FrontDoes (Connect o i)
    pub if_test : (e : Expression) → FrontDoes (If e)
    pub while_test : (e : Expression) → FrontDoes (While e)
    pub raise : (e : ℕ) → FrontDoes (Raise e)
    pub leave : FrontDoes Leave

abbrev pub FrontsDoForms : Type 0
FrontsDoForms = (name : Name → Name) (c : ReadyCode) (number : ℕ) → FrontsDo name c number
