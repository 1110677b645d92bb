-- The arms of the code's lists are the arms that contracts see.
use Rattle.std.proofs.Common.{◌≡◌, ℕ, suc, List, [], ◌∷◌, ◌++◌, map, length, Option, Some, None, refl, sym, ap, ◌∙◌, Vec, Global}
use mathlib.Core.Former.{Count}
use Rattle.herm_base.specs.declared.numbers.ExcNo.{ExcNo}
use Rattle.herm_model.specs.Lists.{range, list_of}
use Rattle.herm_model.specs.Types.{TypeTable}
use Rattle.herm_model.specs.Statements.{Form}
use Rattle.herm_model.specs.Outcomes.{component, arm, raised, arms_from, normal_outcomes, exceptions, outcomes}
use Rattle.herm_typed.specs.declared.expressions.TypedPath.{TypedPath}
use Rattle.herm_typed.specs.declared.statements.TypedStmt.{TypedStmt}
use Rattle.herm_typed.specs.declared.statements.TypedForm.{TypedForm, Case, Select}
use Rattle.herm_typed.specs.declared.statements.TypedForm.TheBlock as forms
use Rattle.herm_typed.specs.View.{components_view, typed_arms_view, typed_form_view, form_of_statement}
use Rattle.herm_typed.specs.Outcomes.{normal_of, exceptions_of, outcomes_of}

abbrev case_arms : TypedForm → (m : Count) × forms.Row_of-TypedForm-Case-1-3 m
case_arms (forms.Case' v shape arms) = (_, arms)
case_arms form = (_, forms.end_of-TypedForm-Case-1-3)

abbrev select_arms : TypedForm → (m : Count) × forms.Row_of-TypedForm-Select-0-4 m
select_arms (forms.Select' shape arms) = (_, arms)
select_arms form = (_, forms.end_of-TypedForm-Select-0-4)

case_rows : {m : _} (arms : forms.Row_of-TypedForm-Case-1-3 m) → map component (components_view arms) ≡ map (λ a. component a.0) (forms.items-the_row-TypedForm-Case-1-3 m arms)
case_rows forms.end_of-TypedForm-Case-1-3 = refl
case_rows (forms.more_of-TypedForm-Case-1-3 c shape body rest) = ap (component c ∷◌) (case_rows rest)

pub case_normal : (v : TypedPath) (arms : Vec (ℕ × Vec TypedStmt Global) Global) → map (λ a. component a.0) arms.items ≡ normal_of (Case v arms)
case_normal v arms = sym (case_rows (case_arms (Case v arms)).1 ∙ ap (map (λ a. component a.0)) (forms.items_hidden-the_row-TypedForm-Case-1-3-1 arms))

select_rows : {m : _} (arms : forms.Row_of-TypedForm-Select-0-4 m) (k : ℕ) → arms_from k (typed_arms_view arms) ≡ map arm (range k (length (forms.items-the_row-TypedForm-Select-0-4 m arms)))
select_rows forms.end_of-TypedForm-Select-0-4 k = refl
select_rows (forms.more_of-TypedForm-Select-0-4 port target shape body rest) k = ap (arm k ∷◌) (select_rows rest (suc k))

pub select_normal : (arms : Vec (TypedPath × TypedPath × Vec TypedStmt Global) Global) → map arm (range 0 (length arms.items)) ≡ normal_of (Select arms)
select_normal arms = sym (select_rows (select_arms (Select arms)).1 0 ∙ ap (λ list. map arm (range 0 (length list))) (forms.items_hidden-the_row-TypedForm-Select-0-4-2 arms))

-- the normal outcomes and then the exceptions are all outcomes
pub all_outcomes : (table : TypeTable) (variables : List ℕ) (form : TypedForm) → normal_of form ++ map raised (exceptions_of table variables form) ≡ outcomes_of table variables form
all_outcomes table variables form = by (form_of_statement (typed_form_view form))
  where
    by : (o : Option Form) → list_of normal_outcomes o ++ map raised (list_of (exceptions table variables) o) ≡ list_of (outcomes table variables) o
    by None = refl
    by (Some f) = refl

pub map_raised : (numbers : List ExcNo) → map (λ n. raised n.0) numbers ≡ map raised (map (λ n. n.0) numbers)
map_raised [] = refl
map_raised (n ∷ numbers) = ap (raised n.0 ∷◌) (map_raised numbers)
