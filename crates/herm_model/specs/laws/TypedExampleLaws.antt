-- What is said of the examples of tables, statements, bodies and programs.
use Rattle.std.specs.Prelude.{ℕ, ◌↔◌, List, [], ◌∷◌, ◌++◌, ◌≡◌}
use Rattle.herm_model.specs.Lists.{IsIn}
use Rattle.herm_model.specs.Types.{TypeTable, predefined}
use Rattle.herm_model.specs.Statements.{Statement}
use Rattle.herm_model.specs.WellFormedTables.{IsWellFormedTable}
use Rattle.herm_model.specs.TypedPrograms.{IsTypedProcess}
use Rattle.herm_model.specs.tests.TableTests.{broken_table_rules}
use Rattle.herm_model.specs.tests.BodyTests.{ProcessRule, typed, broken_process_rules}
use Rattle.herm_model.specs.examples.StatementTypes.{statement_types, helper, main_of}
use Rattle.herm_model.specs.examples.TableRuleExamples.{TableExample}

-- there is one exception of the program, Busy
abbrev pub example_exceptions : ℕ
example_exceptions = 8

abbrev pub example_table : TypeTable
example_table = predefined ++ statement_types

-- the rules that main breaks with this body, and that it is typed with it
abbrev pub broken_by : List Statement → List ProcessRule
broken_by body = broken_process_rules example_exceptions example_table (helper ∷ main_of body ∷ []) (main_of body)

abbrev pub IsTypedBody : List Statement → Type 0
IsTypedBody body = IsTypedProcess example_exceptions example_table (helper ∷ main_of body ∷ []) (main_of body)

-- Each statement is typed.
abbrev pub AreTyped : List Statement → Type 0
AreTyped statements = (s : Statement) → IsIn s statements → IsTypedBody (s ∷ [])

-- Each statement is not typed, and breaks no other rule.
abbrev pub BreakTheirFormAlone : List Statement → Type 0
BreakTheirFormAlone statements = (s : Statement) → IsIn s statements → (broken_by (s ∷ []) ≡ typed ∷ []) × (IsTypedBody (s ∷ []) → ⊥)

-- Each body breaks just these rules, and is typed where there is none.
abbrev pub BreakTheseRules : List (List Statement × List ProcessRule) → Type 0
BreakTheseRules bodies = (b : List Statement × List ProcessRule) → IsIn b bodies → (broken_by b.0 ≡ b.1) × ((b.1 ≡ []) ↔ IsTypedBody b.0)

-- Each table breaks just these rules, and is well formed where there is none.
abbrev pub BreakTheseTableRules : List TableExample → Type 0
BreakTheseTableRules tables = (t : TableExample) → IsIn t tables → (broken_table_rules t.exceptions t.defined ≡ t.broken) × ((t.broken ≡ []) ↔ IsWellFormedTable t.exceptions (predefined ++ t.defined))
