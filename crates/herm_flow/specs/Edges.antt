-- The edges of a statement, from its outcomes in order.
use Rattle.std.specs.Prelude.{◌≡◌, ℕ, List, [], ◌∷◌, ◌++◌, map, Option, Some, None}
use Rattle.herm_model.specs.Lists.{list_of, IsIn}
use Rattle.herm_model.specs.Types.{TypeTable}
use Rattle.herm_model.specs.Outcomes.{Outcome, raised}
use Rattle.herm_model.specs.Targets.{Target}
use Rattle.herm_model.specs.Handlers.{Catch, caught}
use Rattle.herm_model.specs.Exits.{Exit}
use Rattle.herm_model.specs.ControlPaths.{Edge, Point}
use Rattle.herm_model.specs.FactsOfStatements.{needs, makes, kills}
use Rattle.herm_typed.specs.declared.statements.TypedForm.{TypedForm}
use Rattle.herm_typed.specs.View.{typed_form_view, form_of_statement}
use Rattle.herm_typed.specs.Outcomes.{outcomes_of}

-- the exception of an outcome that is one
abbrev pub raised_in : Outcome → Option ℕ
raised_in (raised e) = Some e
raised_in _ = None

abbrev pub an_exit : Outcome → Target → Exit
an_exit o t = record { outcome = o; target = t }

-- the exit of an outcome, where it has one: an exception finds its handler, a normal outcome takes the first of the targets
abbrev pub exit_of : Outcome → Option ℕ → List Target → List Catch → List Exit
exit_of o (Some e) leads catches = an_exit o (caught catches e) ∷ []
exit_of o None [] catches = []
exit_of o None (t ∷ leads) catches = an_exit o t ∷ []

-- the targets that are then left
abbrev pub left_of : Option ℕ → List Target → List Target
left_of (Some e) leads = leads
left_of None [] = []
left_of None (t ∷ leads) = leads

abbrev pub exits_from : List Outcome → List Target → List Catch → List Exit
exits_from [] leads catches = []
exits_from (o ∷ os) leads catches = exit_of o (raised_in o) leads catches ++ exits_from os (left_of (raised_in o) leads) catches

-- the edge of an exit, by the statement table
abbrev pub edge_at : TypeTable → List ℕ → TypedForm → Exit → Edge
edge_at table variables form e = record {
  outcome = e.outcome;
  makes = list_of (λ f. makes table variables f e.outcome) (form_of_statement (typed_form_view form));
  kills = list_of (λ f. kills table variables f e.outcome) (form_of_statement (typed_form_view form));
  target = e.target;
}

-- A statement by its number as a point, whose normal outcomes lead to these targets.
abbrev pub point_at : TypeTable → List ℕ → TypedForm → (number : ℕ) → List Target → List Catch → Point
point_at table variables form number leads catches = record {
  number = number;
  needs = list_of (needs table variables) (form_of_statement (typed_form_view form));
  edges = map (edge_at table variables form) (exits_from (outcomes_of table variables form) leads catches);
}

-- Each of these edges is that of its outcome.
abbrev pub AreEdgesOf : TypeTable → List ℕ → TypedForm → List Edge → Type 0
AreEdgesOf table variables form es = (e : Edge) → IsIn e es → e ≡ edge_at table variables form (an_exit e.outcome e.target)
