-- What is claimed of the atoms of typed forms: keys and arguments are full values of their types.
use Rattle.std.specs.Prelude.{◌≡◌, ℕ, List, [], ◌∷◌, Some, slice_get, ⊤}
use Rattle.herm_model.specs.Paths.{Path}
use Rattle.herm_model.specs.Types.{TypeTable}
use Rattle.herm_model.specs.Expressions.{Atom}
use Rattle.herm_model.specs.Calls.{call_parameters}
use Rattle.herm_model.specs.Statements.{Process, Remove, Get, Call}
use Rattle.herm_model.specs.Values.{Scalar, Parts}
use Rattle.herm_model.specs.Typed.{IsFull}
use Rattle.herm_forms.specs.Frames.{Name}
use Rattle.herm_forms.specs.Modules.{Module}
use Rattle.herm_forms.specs.Evaluate.{scalar_value, key_values}
use Rattle.herm_forms.specs.Acts.{inputs_of}
use Rattle.herm_forms.specs.laws.CallLaws.{AreFullInputs}
use Rattle.herm_forms.specs.laws.ExpressionLaws.{WhereFound}
use Rattle.herm_forms.specs.laws.TypedForms.{IsTypedIn}

-- the scalars are full values of the fields of a key, where the fields of the rows have these types
abbrev pub AreKeyOf : TypeTable → (ts : List ℕ) → (key : List ℕ) → List Scalar → Type 0
AreKeyOf types ts [] [] = ⊤
AreKeyOf types ts [] (x ∷ xs) = ⊥
AreKeyOf types ts (i ∷ key) [] = ⊥
AreKeyOf types ts (i ∷ key) (x ∷ xs) = ((t : ℕ) × (slice_get ts i ≡ Some t) × IsFull types t (scalar_value x)) × AreKeyOf types ts key xs

-- the keys come to a key of a table with such rows
abbrev pub ComeToKey : Module → (ts key : List ℕ) → List Atom → Parts Name → Type 0
ComeToKey c ts key keys ps = (k : List Scalar) × (key_values ps keys ≡ Some k) × AreKeyOf c.types ts key k

-- the arguments of mode in come to full values of their parameters' types, and all of them are there
abbrev pub ComeToInputs : Module → Path → List Atom → Parts Name → Type 0
ComeToInputs c o arguments ps =
    AreFullInputs c ps (call_parameters c.types c.variables o) arguments × (inputs : Parts ⊤) × (inputs_of (call_parameters c.types c.variables o) arguments ps ≡ Some inputs)

-- In sound values that have what a typed form needs, its keys and its arguments of mode in come to full values of their
-- types. Language reference, "Sound states".
pub record TypedAtomsAreFull (exceptions : ℕ) (processes : List Process) (c : Module) : Type 0 where
  pub removed : (r t : Path) (keys : List Atom) (is : IsTypedIn exceptions processes c (Remove r t keys)) → WhereFound c (Remove r t keys) (ComeToKey c is.typed.1.1 is.typed.1.0 keys)
  pub got : (r t : Path) (keys : List Atom) (is : IsTypedIn exceptions processes c (Get r t keys)) → WhereFound c (Get r t keys) (ComeToKey c is.typed.1.1 is.typed.1.0 keys)
  pub called : (o : Path) (arguments : List Atom) → IsTypedIn exceptions processes c (Call o arguments) → WhereFound c (Call o arguments) (ComeToInputs c o arguments)
