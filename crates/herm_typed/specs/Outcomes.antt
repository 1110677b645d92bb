-- The outcomes of a statement, in the order of the statement table. Language reference, "Outcomes".
use Rattle.std.specs.Prelude.{ℕ, ◌≤◌, List, ◌∷◌, ◌++◌, map, length, take, drop, Some, slice_get, option_and_then, ⊤, ◌≡◌}
use Rattle.herm_model.specs.Lists.{list_of}
use Rattle.herm_model.specs.Types.{Raised, TypeTable, type_at}
use Rattle.herm_model.specs.Calls.{led_to, message_type, raises_of}
use Rattle.herm_model.specs.Outcomes as model
use Rattle.herm_base.specs.declared.numbers.ExcNo.{ExcNo}
use Rattle.herm_typed.specs.declared.expressions.TypedPath.{TypedPath}
use Rattle.herm_typed.specs.declared.statements.TypedForm.{TypedForm}
use Rattle.herm_typed.specs.declared.statements.TypedForm.TheBlock as forms
use Rattle.herm_typed.specs.View.{typed_path_view, typed_form_view, form_of_statement}

-- The type beside a path is that of the value at the path.
abbrev pub IsOf : TypeTable → List ℕ → TypedPath → Type 0
IsOf table variables p = type_at table variables (typed_path_view p) ≡ Some p.of.0

-- the types beside the paths on which the outcomes of a form depend
abbrev pub KnowsOutcomes : TypeTable → List ℕ → TypedForm → Type 0
KnowsOutcomes table variables (forms.New x) = IsOf table variables x
KnowsOutcomes table variables (forms.Call o arguments) = IsOf table variables o
KnowsOutcomes table variables _ = ⊤

-- The normal outcomes, the exceptions and all outcomes of a statement. A `try` has none.
abbrev pub normal_of : TypedForm → List model.Outcome
normal_of form = list_of model.normal_outcomes (form_of_statement (typed_form_view form))

abbrev pub exceptions_of : TypeTable → List ℕ → TypedForm → List ℕ
exceptions_of table variables form = list_of (model.exceptions table variables) (form_of_statement (typed_form_view form))

abbrev pub outcomes_of : TypeTable → List ℕ → TypedForm → List model.Outcome
outcomes_of table variables form = list_of (model.outcomes table variables) (form_of_statement (typed_form_view form))

-- rising numbers with one more are these with it at a place
abbrev pub IsPlaceFor : List ExcNo → ExcNo → ℕ → Type 0
IsPlaceFor numbers e place = (place ≤ length numbers) × (model.with_number e.0 (map (λ n. n.0) numbers) ≡ map (λ n. n.0) (take place numbers) ++ (e.0 ∷ map (λ n. n.0) (drop place numbers)))

-- the exceptions that the callmessages of an outport type declare
abbrev pub raises_from : TypeTable → ℕ → List Raised
raises_from table t = list_of raises_of (option_and_then (slice_get table) (option_and_then message_type (option_and_then (slice_get table) (option_and_then led_to (slice_get table t)))))
