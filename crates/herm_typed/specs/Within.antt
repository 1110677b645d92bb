-- All statements of a typed body, in the order of the text, compound ones before their parts.
use Rattle.std.specs.Prelude.{List, [], ◌∷◌, ◌++◌}
use Rattle.herm_typed.specs.declared.statements.TypedStmt.{TypedStmt}
use Rattle.herm_typed.specs.declared.statements.TypedForm.{TypedForm}
use Rattle.herm_typed.specs.declared.statements.TypedForm.TheBlock as forms

abbrev mutual
  pub statements_within : TypedForm → List TypedStmt
  statements_within (forms.Case' v shape arms) = statements_in_arms arms
  statements_within (forms.For' r t shape body) = statements_in body
  statements_within (forms.Select' shape arms) = statements_in_port_arms arms
  statements_within (forms.If' e shape body other) = statements_in body ++ statements_otherwise other
  statements_within (forms.While' e shape body) = statements_in body
  statements_within (forms.Try' shape body shape_of_handlers handled) = statements_in body ++ statements_in_handlers handled
  statements_within form = []

  pub statements_in : {m : _} → forms.Row_of-TypedStmt m → List TypedStmt
  statements_in forms.end_of-TypedStmt = []
  statements_in (forms.more_of-TypedStmt number span form rest) = record { no = number; span = span; form = form } ∷ statements_within form ++ statements_in rest

  pub statements_in_arms : {m : _} → forms.Row_of-TypedForm-Case-1-3 m → List TypedStmt
  statements_in_arms forms.end_of-TypedForm-Case-1-3 = []
  statements_in_arms (forms.more_of-TypedForm-Case-1-3 component shape body rest) = statements_in body ++ statements_in_arms rest

  pub statements_in_port_arms : {m : _} → forms.Row_of-TypedForm-Select-0-4 m → List TypedStmt
  statements_in_port_arms forms.end_of-TypedForm-Select-0-4 = []
  statements_in_port_arms (forms.more_of-TypedForm-Select-0-4 port target shape body rest) = statements_in body ++ statements_in_port_arms rest

  pub statements_otherwise : forms.Held-TypedForm-If-2 → List TypedStmt
  statements_otherwise forms.None' = []
  statements_otherwise (forms.Some' shape body) = statements_in body

  pub statements_in_handlers : {m : _} → forms.Row_of-TypedForm-Try-1-3 m → List TypedStmt
  statements_in_handlers forms.end_of-TypedForm-Try-1-3 = []
  statements_in_handlers (forms.more_of-TypedForm-Try-1-3 exception shape body rest) = statements_in body ++ statements_in_handlers rest

abbrev pub all_statements : List TypedStmt → List TypedStmt
all_statements [] = []
all_statements (t ∷ rest) = t ∷ statements_within t.form ++ all_statements rest
