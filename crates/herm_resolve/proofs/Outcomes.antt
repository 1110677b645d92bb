-- The types beside the paths of a statement suffice for its outcomes.
use Rattle.std.proofs.Common.{◌≡◌, ℕ, List, [], ◌∷◌, Option, Some, refl}
use Rattle.std.specs.Bool.{⊤}
use Rattle.herm_model.specs.Types.{TypeTable}
use Rattle.herm_typed.specs.Outcomes.{KnowsOutcomes}
use Rattle.herm_typed.specs.declared.statements.TypedForm.{TypedForm}
use Rattle.herm_typed.specs.declared.statements.TypedForm.TheBlock as forms
use Rattle.herm_typed.specs.Beside.{HasTypes}

first-same : {X : Type 0} (a b : X) (xs ys : List X) → a ∷ xs ≡ b ∷ ys → a ≡ b
first-same a b xs ys e = cc e

pub knows_outcomes : (table : TypeTable) (variables : List ℕ) (form : TypedForm) → HasTypes table variables form → KnowsOutcomes table variables form
knows_outcomes table variables (forms.New x) h = first-same _ _ _ _ h
knows_outcomes table variables (forms.Call o arguments) h = first-same _ _ _ _ h
knows_outcomes table variables (forms.Assign x e) h = tt
knows_outcomes table variables (forms.Move y x) h = tt
knows_outcomes table variables (forms.Discard x) h = tt
knows_outcomes table variables (forms.Unite v c y) h = tt
knows_outcomes table variables (forms.Dissolve v c y) h = tt
knows_outcomes table variables (forms.Reveal v c) h = tt
knows_outcomes table variables (forms.Case' v shape arms) h = tt
knows_outcomes table variables (forms.Wrap y p) h = tt
knows_outcomes table variables (forms.Unwrap p t y) h = tt
knows_outcomes table variables (forms.Insert r t) h = tt
knows_outcomes table variables (forms.Remove r t keys) h = tt
knows_outcomes table variables (forms.Get r t keys) h = tt
knows_outcomes table variables (forms.For' r t shape body) h = tt
knows_outcomes table variables (forms.Connect o i) h = tt
knows_outcomes table variables (forms.Send x o) h = tt
knows_outcomes table variables (forms.Receive x i) h = tt
knows_outcomes table variables (forms.Select' shape arms) h = tt
knows_outcomes table variables (forms.Return m) h = tt
knows_outcomes table variables (forms.ReturnBy m e) h = tt
knows_outcomes table variables (forms.Create o n) h = tt
knows_outcomes table variables (forms.If' e shape body other) h = tt
knows_outcomes table variables (forms.While' e shape body) h = tt
knows_outcomes table variables (forms.Raise e) h = tt
knows_outcomes table variables forms.Leave h = tt
knows_outcomes table variables (forms.Try' shape body shape_of_handlers handled) h = tt
