-- The arms of a `select` that the code has are those of its form.
use Rattle.std.proofs.Common.{◌≡◌, List, map, sym, ap, ◌∙◌, Vec, Global}
use Rattle.herm_model.specs.Lists.{list_of}
use Rattle.herm_model.specs.Statements as model
use Rattle.herm_typed.specs.declared.expressions.TypedPath.{TypedPath}
use Rattle.herm_typed.specs.declared.statements.TypedStmt.{TypedStmt}
use Rattle.herm_typed.specs.declared.statements.TypedForm.{TypedForm, Select}
use Rattle.herm_typed.specs.Blocks.{typed_arm_view}
use Rattle.herm_typed.specs.View.{typed_form_view, form_of_statement}
use Rattle.herm_typed.proofs.SeenBlocks.{select_view}

pub of_select : {X : Type 0} (f : model.Form → List X) (form : TypedForm) (arms : Vec (TypedPath × TypedPath × Vec TypedStmt Global) Global) (list : List (TypedPath × TypedPath × Vec TypedStmt Global)) → form ≡ Select arms → list ≡ arms.items → f (model.Select (map typed_arm_view list)) ≡ list_of f (form_of_statement (typed_form_view form))
of_select f form arms list e same =
    ap (λ items. f (model.Select (map typed_arm_view items))) same
    ∙ sym (ap (λ x. list_of f (form_of_statement (typed_form_view x))) e ∙ ap (λ s. list_of f (form_of_statement s)) (select_view arms))
