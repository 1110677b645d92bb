-- The statement table at a statement by its form. A `try` has no row.
use Rattle.std.specs.Prelude.{ℕ, Bool, List, Option}
use Rattle.herm_model.specs.Lists.{list_of}
use Rattle.herm_model.specs.Paths.{Path, Fact}
use Rattle.herm_model.specs.Types.{Mode}
use Rattle.herm_model.specs.Expressions.{Atom}
use Rattle.herm_model.specs.Calls.{call_parameters, call_raises, returned_places, kept_for, argument_path, is_given, is_returned}
use Rattle.herm_model.specs.FactsOfStatements.{row, needs, makes, kills, closed, full_of_each, at_ok_or_exception}
use Rattle.herm_typed.specs.declared.expressions.TypedPath.{TypedPath}
use Rattle.herm_typed.specs.declared.statements.TypedForm.{TypedForm}
use Rattle.herm_typed.specs.declared.outcome_list.Outcome.{Outcome}
use Rattle.herm_typed.specs.View.{typed_path_view, typed_form_view, form_of_statement, outcome_view}
use Rattle.herm_judge.specs.declared.frame.Frame.{Frame}
use Rattle.herm_judge.specs.View.{table_of, variables_of}
use Rattle.herm_effects.specs.declared.arguments.Way.{Way}
use Rattle.herm_effects.specs.declared.arguments.Way.TheVariants.{Given, Returned}

-- What a form needs, in the order written, each fact after its prefixes and without repeats.
abbrev pub needs_at : Frame → TypedForm → List Fact
needs_at frame form = list_of (needs (table_of frame) (variables_of frame)) (form_of_statement (typed_form_view form))

-- What an outcome of a form makes, with the prefixes of each fact.
abbrev pub makes_at : Frame → TypedForm → Outcome → List Fact
makes_at frame form outcome = list_of (λ f. makes (table_of frame) (variables_of frame) f (outcome_view outcome)) (form_of_statement (typed_form_view form))

-- The paths that an outcome of a form takes away.
abbrev pub kills_at : Frame → TypedForm → Outcome → List Path
kills_at frame form outcome = list_of (λ f. kills (table_of frame) (variables_of frame) f (outcome_view outcome)) (form_of_statement (typed_form_view form))

-- The places of the parameters of a call that come back at an outcome: all that can, and at an exception those that it keeps.
abbrev pub places_at : Frame → TypedPath → Outcome → List ℕ
places_at frame o outcome = at_ok_or_exception (returned_places 0 (call_parameters (table_of frame) (variables_of frame) (typed_path_view o))) (kept_for (call_raises (table_of frame) (variables_of frame) (typed_path_view o))) (outcome_view outcome)

-- What an argument of a call makes where it comes back, with the prefixes of each fact; nothing where it is no path.
abbrev pub made_by : Frame → Option Atom → List Fact
made_by frame argument = closed (table_of frame) (variables_of frame) (full_of_each (table_of frame) (variables_of frame) (argument_path argument))

-- The needs and what is made as the table's row has them, without prefixes.
abbrev pub needed_at : Frame → TypedForm → List Fact
needed_at frame form = list_of (λ f. (row (table_of frame) (variables_of frame) f).needed) (form_of_statement (typed_form_view form))

abbrev pub made_at : Frame → TypedForm → Outcome → List Fact
made_at frame form outcome = list_of (λ f. (row (table_of frame) (variables_of frame) f).made (outcome_view outcome)) (form_of_statement (typed_form_view form))

-- the arguments that go a way
abbrev pub goes : Way → Mode → Bool
goes Given = is_given
goes Returned = is_returned
