-- The arms of a `select` that the code has are those of its form.
use Rattle.std.proofs.Common.{◌≡◌, List, map, sym, ap, ◌∙◌, Vec, Global}
use Rattle.herm_model.specs.Lists.{map_or}
use Rattle.herm_model.specs.Statements as model
use Rattle.herm_typed.specs.declared.expressions.TypedPath.{TypedPath}
use Rattle.herm_typed.specs.declared.statements.TypedStmt.{TypedStmt}
use Rattle.herm_typed.specs.declared.statements.TypedForm.{TypedForm, Select}
use Rattle.herm_typed.specs.Blocks.{typed_arm_view}
use Rattle.herm_typed.specs.View.{form_of_statement}
use Rattle.herm_typed.proofs.SeenBlocks.{select_view}
use Rattle.herm_fronts.specs.Forms.{form_seen}

pub select_seen : (form : TypedForm) (arms : Vec (TypedPath × TypedPath × Vec TypedStmt Global) Global) (list : List (TypedPath × TypedPath × Vec TypedStmt Global)) → form ≡ Select arms → list ≡ arms.items → model.Form.Select (map typed_arm_view list) ≡ form_seen form
select_seen form arms list e same =
    ap (λ items. model.Form.Select (map typed_arm_view items)) same
    ∙ sym (ap form_seen e ∙ ap (λ s. map_or model.Form.Leave (λ f. f) (form_of_statement s)) (select_view arms))
