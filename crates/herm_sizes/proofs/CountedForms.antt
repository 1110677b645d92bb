-- How many statements a statement with blocks is: one more than stand in the lists that the code has.
use Rattle.std.proofs.Common.{◌≡◌, ℕ, ◌+◌, List, Option, Vec, Global, ap, ap₂, sym, ◌∙◌}
use Rattle.herm_base.specs.declared.numbers.ExcNo.{ExcNo}
use Rattle.herm_model.specs.Statements.{numbers_of, numbers_of_block, numbers_of_blocks, numbers_of_handlers}
use Rattle.herm_typed.specs.declared.expressions.TypedPath.{TypedPath}
use Rattle.herm_typed.specs.declared.expressions.TypedExpr.{TypedExpr}
use Rattle.herm_typed.specs.declared.statements.TypedStmt.{TypedStmt}
use Rattle.herm_typed.specs.declared.statements.TypedForm.{TypedForm, Case, Select, For, If, While, Try}
use Rattle.herm_typed.specs.View.{typed_form_view, typed_stmts_view}
use Rattle.herm_typed.specs.Blocks.{case_blocks, select_blocks, else_block, handlers_list}
use Rattle.herm_typed.proofs.SeenBlocks.{case_view, select_view, if_view, for_view, while_view, try_view}

module _ (form : TypedForm) where
  pub case_count : (v : TypedPath) (arms : Vec (ℕ × Vec TypedStmt Global) Global) (list : List (ℕ × Vec TypedStmt Global)) → form ≡ Case v arms → list ≡ arms.items → numbers_of (typed_form_view form) ≡ 1 + numbers_of_blocks (case_blocks list)
  case_count v arms list e h = ap (λ f. numbers_of (typed_form_view f)) e ∙ (ap numbers_of (case_view v arms) ∙ ap (λ list. 1 + numbers_of_blocks (case_blocks list)) (sym h))

  pub select_count : (arms : Vec (TypedPath × TypedPath × Vec TypedStmt Global) Global) (list : List (TypedPath × TypedPath × Vec TypedStmt Global)) → form ≡ Select arms → list ≡ arms.items → numbers_of (typed_form_view form) ≡ 1 + numbers_of_blocks (select_blocks list)
  select_count arms list e h = ap (λ f. numbers_of (typed_form_view f)) e ∙ (ap numbers_of (select_view arms) ∙ ap (λ list. 1 + numbers_of_blocks (select_blocks list)) (sym h))

  pub if_count : (x : TypedExpr) (body : Vec TypedStmt Global) (other : Option (Vec TypedStmt Global)) (list : List TypedStmt) → form ≡ If x body other → list ≡ body.items → numbers_of (typed_form_view form) ≡ 1 + (numbers_of_block (typed_stmts_view list) + (numbers_of_block (else_block other) + 0))
  if_count x body other list e h = ap (λ f. numbers_of (typed_form_view f)) e ∙ (ap numbers_of (if_view x body other) ∙ ap (λ list. 1 + (numbers_of_block (typed_stmts_view list) + (numbers_of_block (else_block other) + 0))) (sym h))

  pub for_count : (r t : TypedPath) (body : Vec TypedStmt Global) (list : List TypedStmt) → form ≡ For r t body → list ≡ body.items → numbers_of (typed_form_view form) ≡ 1 + numbers_of_block (typed_stmts_view list)
  for_count r t body list e h = ap (λ f. numbers_of (typed_form_view f)) e ∙ (ap numbers_of (for_view r t body) ∙ ap (λ list. 1 + numbers_of_block (typed_stmts_view list)) (sym h))

  pub while_count : (x : TypedExpr) (body : Vec TypedStmt Global) (list : List TypedStmt) → form ≡ While x body → list ≡ body.items → numbers_of (typed_form_view form) ≡ 1 + numbers_of_block (typed_stmts_view list)
  while_count x body list e h = ap (λ f. numbers_of (typed_form_view f)) e ∙ (ap numbers_of (while_view x body) ∙ ap (λ list. 1 + numbers_of_block (typed_stmts_view list)) (sym h))

  pub try_count : (body : Vec TypedStmt Global) (handled : Vec (ExcNo × Vec TypedStmt Global) Global) (list : List TypedStmt) (handlers : List (ExcNo × Vec TypedStmt Global)) → form ≡ Try body handled → list ≡ body.items → handlers ≡ handled.items → numbers_of (typed_form_view form) ≡ 1 + (numbers_of_block (typed_stmts_view list) + numbers_of_handlers (handlers_list handlers))
  try_count body handled list handlers e h k = ap (λ f. numbers_of (typed_form_view f)) e ∙ (ap numbers_of (try_view body handled) ∙ ap₂ (λ list handlers. 1 + (numbers_of_block (typed_stmts_view list) + numbers_of_handlers (handlers_list handlers))) (sym h) (sym k))
