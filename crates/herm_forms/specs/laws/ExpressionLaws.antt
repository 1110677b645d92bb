-- What is claimed of typed expressions: in sound values that have what is needed, they come to full values of their types.
use Rattle.std.specs.Prelude.{ℕ, pos, List, [], ◌∷◌, ◌++◌, Some, Bool, true, IsTrue, ⊤, ◌≡◌}
use Rattle.herm_model.specs.Lists.{IsIn}
use Rattle.herm_model.specs.Paths.{Path, Fact}
use Rattle.herm_model.specs.Types.{TypeTable, by_in, by_out, predefined, boolean, rows, cases, callmessage, type_at}
use Rattle.herm_model.specs.Expressions.{Literal, logical_and, less, plus, concatenated, Expression, literal, copy, negation, logical_not, operation, size_of, decimal, length_of}
use Rattle.herm_model.specs.TypedExpressions.{HasShape, IsTyped, passes_out}
use Rattle.herm_model.specs.Statements.{Form, Assign, If, While}
use Rattle.herm_model.specs.FactsOfStatements.{needs}
use Rattle.herm_model.specs.Outcomes.{raised_by}
use Rattle.herm_model.specs.Values.{a_boolean, a_scalar, cell, no_parts, Parts}
use Rattle.herm_model.specs.Typed.{IsFull}
use Rattle.herm_forms.specs.Frames.{Name}
use Rattle.herm_forms.specs.Evaluate.{Evaluated, gives, raises, no_value, evaluate}
use Rattle.herm_forms.specs.Modules.{Module}
use Rattle.herm_forms.specs.laws.EdgeLaws.{AreSound, AreDeep}
use Rattle.herm_forms.specs.laws.FormLaws.{PreservesNeeds}
use Rattle.herm_forms.specs.laws.TargetLaws.{GivesFull}

-- A typed expression that is assigned gives a full value of its type. Language reference, "Values of expressions".
abbrev pub TypedExpressionsGiveFull : Type 0
TypedExpressionsGiveFull = (c : Module) (x : Path) (e : Expression) (t : ℕ) → AreDeep c → IsTyped c.types c.variables e t → GivesFull c t x e

-- the evaluation comes to a full value of the type, or to an exception
abbrev pub ComesTo : Module → ℕ → Evaluated → Type 0
ComesTo c t (gives value) = IsFull c.types t value
ComesTo c t (raises exception) = ⊤
ComesTo c t no_value = ⊥

-- the evaluation comes to a boolean, or to an exception
abbrev pub Decides : Evaluated → Type 0
Decides (gives (cell n (a_scalar (a_boolean b)) no_parts)) = ⊤
Decides (gives value) = ⊥
Decides (raises exception) = ⊤
Decides no_value = ⊥

-- An evaluation raises only exceptions that the expression can raise, whatever the values. Language reference, "Exceptions".
abbrev pub RaisesItsExceptions : Type 0
RaisesItsExceptions = (ps : Parts Name) (e : Expression) (exception : ℕ) → evaluate ps e ≡ raises exception → IsIn exception (raised_by e)

-- in sound values that have the facts that the form needs
abbrev pub WhereFound : Module → Form → (Parts Name → Type 0) → Type 0
WhereFound c form P = (has : Fact → Bool) (ps : Parts Name) → AreSound c has ps → ((f : Fact) → IsIn f (needs c.types c.variables form) → IsTrue (has f)) → P ps

-- An evaluation is never stuck: it comes to a full value of the type or to an exception, and in a test to a boolean or to
-- an exception. Language reference, "Values of expressions".
pub record TypedExpressionsHaveValues (c : Module) : Type 0 where
  pub assigned : (x : Path) (e : Expression) (t : ℕ) → IsTyped c.types c.variables e t → WhereFound c (Assign x e) (λ ps. ComesTo c t (evaluate ps e))
  pub if_test : (e : Expression) (t : ℕ) → HasShape c.types t boolean → IsTyped c.types c.variables e t → WhereFound c (If e) (λ ps. Decides (evaluate ps e))
  pub while_test : (e : Expression) (t : ℕ) → HasShape c.types t boolean → IsTyped c.types c.variables e t → WhereFound c (While e) (λ ps. Decides (evaluate ps e))

-- So an assignment of a typed expression to a path of its type does what the statement table says of it.
-- Language reference, "Sound states".
abbrev pub TypedAssignmentsKeepSound : Type 0
TypedAssignmentsKeepSound = (c : Module) (i : ℕ) (q : List ℕ) (e : Expression) (t : ℕ) → AreDeep c → type_at c.types c.variables (i ∷ q) ≡ Some t → IsTyped c.types c.variables e t → PreservesNeeds c (Assign (i ∷ q) e)

-- a table of main messages by their first field (8), a callmessage with an integer in and one out (9), and a variant of it (10)
abbrev pub example_types : TypeTable
example_types = predefined ++ rows 6 (0 ∷ []) ∷ callmessage (record { mode = by_in; content = 1 } ∷ record { mode = by_out; content = 1 } ∷ []) [] ∷ cases (9 ∷ []) ∷ []

-- `b: boolean, x: integer, t: table, m: callmessage, v: variant`
abbrev pub example_variables : List ℕ
example_variables = 0 ∷ 1 ∷ 8 ∷ 9 ∷ 10 ∷ []

-- `length("a" & text(-x + 1)) < size(t) and not b`
abbrev pub example_test : Expression
example_test = operation logical_and (operation less (length_of (operation concatenated (literal (Literal.text (97 ∷ []))) (decimal (operation plus (negation (copy (1 ∷ []))) (literal (Literal.integer (pos 1))))))) (size_of (2 ∷ []))) (logical_not (copy (0 ∷ [])))

-- Which expressions have types: the test is a boolean; `not x` of an integer has none, nor has a copy of a callmessage;
-- an `out` parameter is no path behind a component, and one elsewhere.
pub record ExampleTyping : Type 0 where
  pub test : IsTyped example_types example_variables example_test 0
  pub no_boolean : (t : ℕ) → IsTyped example_types example_variables (logical_not (copy (1 ∷ []))) t → ⊥
  pub no_copy : (t : ℕ) → IsTyped example_types example_variables (copy (3 ∷ [])) t → ⊥
  pub behind : passes_out example_types example_variables (4 ∷ 0 ∷ 1 ∷ []) ≡ true
  pub elsewhere : IsTyped example_types example_variables (copy (3 ∷ 1 ∷ [])) 1
