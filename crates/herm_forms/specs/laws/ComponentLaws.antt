-- What is claimed of the forms on variants, polymorphs and rows, for targets and sources at any paths.
use Rattle.std.specs.Prelude.{Bool, ◌⊎◌, ℕ, List, ◌∷◌, Some, slice_get, ◌≡◌, IsTrue}
use Rattle.herm_model.specs.Lists.{IsIn}
use Rattle.herm_model.specs.Paths.{Path, Fact}
use Rattle.herm_model.specs.Types.{fields, cases, rows, polymorph, type_at, is_within_depth, greatest_depth}
use Rattle.herm_model.specs.Expressions.{Atom}
use Rattle.herm_model.specs.Statements.{Unite, Dissolve, Reveal, Case, Wrap, Unwrap, Insert, Remove, Get, For}
use Rattle.herm_model.specs.Outcomes.{Outcome}
use Rattle.herm_model.specs.Values.{Parts}
use Rattle.herm_model.specs.Typed.{many, Fits}
use Rattle.herm_forms.specs.Frames.{Name, Loop, Frame, goes}
use Rattle.herm_forms.specs.LoopForms.{rows_for}
use Rattle.herm_forms.specs.Modules.{Module}
use Rattle.herm_forms.specs.Acts.{act}
use Rattle.herm_forms.specs.laws.EdgeLaws.{AreSound, held_after, PreservesSoundness}
use Rattle.herm_forms.specs.laws.FormLaws.{PreservesNeeds}

-- The content of a variant or a polymorph moves to a target of its type, wherever there is a place for it: also where
-- facts that the form needs are wanting. Language reference, "Sound states".
pub record ContentsMove (c : Module) : Type 0 where
  pub dissolve : (i : ℕ) (q : List ℕ) (k j : ℕ) (r : List ℕ) (t u : ℕ) (ts : List ℕ) → type_at c.types c.variables (i ∷ q) ≡ Some u → slice_get c.types u ≡ Some (cases ts) → slice_get ts k ≡ Some t
      → type_at c.types c.variables (j ∷ r) ≡ Some t → IsTrue (is_within_depth greatest_depth c.types t) → PreservesSoundness c (Dissolve (i ∷ q) k (j ∷ r))
  pub unwrap : (i : ℕ) (q : List ℕ) (j : ℕ) (r : List ℕ) (t u : ℕ) → type_at c.types c.variables (i ∷ q) ≡ Some u → slice_get c.types u ≡ Some polymorph
      → type_at c.types c.variables (j ∷ r) ≡ Some t → IsTrue (is_within_depth greatest_depth c.types t) → PreservesSoundness c (Unwrap (i ∷ q) t (j ∷ r))

-- The component that a variant was found to have is a fact from then on; the variant may itself lie in a component.
-- Language reference, "Sound states".
pub record ComponentsAreKnown (c : Module) : Type 0 where
  pub reveal : (v : Path) (k : ℕ) → PreservesNeeds c (Reveal v k)
  pub choose : (v : Path) (ks : List ℕ) → PreservesNeeds c (Case v ks)

-- A source that has its full facts, and perhaps more, becomes the content of a variant or a polymorph at any place;
-- also where the polymorph would be too deep. Language reference, "Sound states".
pub record ContentsAreHeld (c : Module) : Type 0 where
  pub unite : (i : ℕ) (q : List ℕ) (k j : ℕ) (r : List ℕ) (t u : ℕ) (ts : List ℕ) → type_at c.types c.variables (j ∷ r) ≡ Some u → slice_get c.types u ≡ Some (cases ts) → slice_get ts k ≡ Some t
      → type_at c.types c.variables (i ∷ q) ≡ Some t → IsTrue (is_within_depth greatest_depth c.types t) → PreservesNeeds c (Unite (j ∷ r) k (i ∷ q))
  pub wrap : (i : ℕ) (q : List ℕ) (j : ℕ) (r : List ℕ) (t u : ℕ) → type_at c.types c.variables (j ∷ r) ≡ Some u → slice_get c.types u ≡ Some polymorph
      → type_at c.types c.variables (i ∷ q) ≡ Some t → IsTrue (is_within_depth greatest_depth c.types t) → PreservesNeeds c (Wrap (i ∷ q) (j ∷ r))

-- A row that is found by its key, or a copy of it, is set at any place of the row's type; the table may lie in a
-- component. Also where no row has the key. Language reference, "Sound states".
pub record RowsAreFound (c : Module) : Type 0 where
  pub get : (i : ℕ) (q : List ℕ) (j : ℕ) (r : List ℕ) (row u : ℕ) (key : List ℕ) (keys : List Atom) → type_at c.types c.variables (i ∷ q) ≡ Some u → slice_get c.types u ≡ Some (rows row key)
      → type_at c.types c.variables (j ∷ r) ≡ Some row → IsTrue (is_within_depth greatest_depth c.types row) → PreservesSoundness c (Get (j ∷ r) (i ∷ q) keys)
  pub remove : (i : ℕ) (q : List ℕ) (j : ℕ) (r : List ℕ) (row u : ℕ) (key : List ℕ) (keys : List Atom) → type_at c.types c.variables (i ∷ q) ≡ Some u → slice_get c.types u ≡ Some (rows row key)
      → type_at c.types c.variables (j ∷ r) ≡ Some row → IsTrue (is_within_depth greatest_depth c.types row) → PreservesSoundness c (Remove (j ∷ r) (i ∷ q) keys)

-- A row that has its full facts, and perhaps more, goes into a table of records of its type, which may lie in a
-- component. Also where a row has its key, or the table has no room. Language reference, "Sound states".
abbrev pub RowsAreInserted : Module → Type 0
RowsAreInserted c = (i : ℕ) (q : List ℕ) (j : ℕ) (r : List ℕ) (row u : ℕ) (key ts : List ℕ) → type_at c.types c.variables (j ∷ r) ≡ Some u → slice_get c.types u ≡ Some (rows row key) → slice_get c.types row ≡ Some (fields ts)
    → type_at c.types c.variables (i ∷ q) ≡ Some row → IsTrue (is_within_depth greatest_depth c.types row) → PreservesNeeds c (Insert (i ∷ q) (j ∷ r))

-- Where the rows that a loop has yet to visit are full, its test sets the next one at any place of the row's type, and
-- each loop behind it is one that was there, or the statement's with full rows. Language reference, "Loops".
abbrev pub RowsAreVisited : Module → Type 0
RowsAreVisited c = (i : ℕ) (q : List ℕ) (j : ℕ) (r : List ℕ) (row u : ℕ) (key : List ℕ) → type_at c.types c.variables (i ∷ q) ≡ Some u → slice_get c.types u ≡ Some (rows row key)
    → type_at c.types c.variables (j ∷ r) ≡ Some row → IsTrue (is_within_depth greatest_depth c.types row)
    → (name : Name → Name) (statement : ℕ) (has : Fact → Bool) (b b' : Frame Name) (o : Outcome) → AreSound c has b.variables
    → ((rs : Parts Name) → rows_for statement b.loops ≡ Some rs → Fits c.types (many row) rs) → act name c statement (For (j ∷ r) (i ∷ q)) b ≡ goes o b'
    → AreSound c (held_after c.types c.variables (For (j ∷ r) (i ∷ q)) o has) b'.variables
    × ((l : Loop Name) → IsIn l b'.loops → IsIn l b.loops ⊎ ((l.statement ≡ statement) × Fits c.types (many row) l.rows))
