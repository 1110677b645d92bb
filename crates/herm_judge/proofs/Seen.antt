-- What the tests of statements with blocks look at.
use Rattle.std.proofs.Common.{◌≡◌, ℕ, List, [], ◌∷◌, map, Bool, true, not, ◌&&◌, nat_lt, refl, sym, ap, ◌∙◌, Vec, Global}
use Rattle.herm_base.specs.declared.numbers.ExcNo.{ExcNo}
use Rattle.herm_model.specs.Lists.{all_pass}
use Rattle.herm_model.specs.Types.{TypeTable}
use Rattle.herm_model.specs.Statements as model
use Rattle.herm_model.specs.TypedPrograms.{handled, is_some_block, is_some_handler}
use Rattle.herm_typed.specs.declared.expressions.TypedPath.{TypedPath}
use Rattle.herm_typed.specs.declared.statements.TypedStmt.{TypedStmt}
use Rattle.herm_typed.specs.declared.statements.TypedForm.{TypedForm, Case, Select, Try}
use Rattle.herm_typed.specs.View.{typed_path_view, typed_form_view}
use Rattle.herm_typed.specs.Blocks.{case_blocks, typed_arm_view, select_blocks, handlers_list}
use Rattle.herm_typed.proofs.SeenBlocks.{case_view, select_view, try_view}
use Rattle.herm_naming.specs.Fits.{fits_form, fits_statement}
use Rattle.herm_naming.specs.Copies.{copies_statement}
use Rattle.herm_judge.specs.View.{is_nil}
use Rattle.herm_naming.specs.UnknownNames.{is_form_there, is_statement_there}

handled_in : (hs : List (ExcNo × Vec TypedStmt Global)) → handled (handlers_list hs) ≡ map (λ h. h.0.0) hs
handled_in [] = refl
handled_in (h ∷ hs) = ap (h.0.0 ∷◌) (handled_in hs)

module _ (table : TypeTable) (types : List ℕ) (exceptions processes : ℕ) (l : Bool) where
  pub case_there : (form : TypedForm) (v : TypedPath) (arms : Vec (ℕ × Vec TypedStmt Global) Global) (list : List (ℕ × Vec TypedStmt Global)) (b : Bool) → form ≡ Case v arms → list ≡ arms.items
      → b ≡ is_form_there table types exceptions processes (model.Case (typed_path_view v) (map (λ a. a.0) list)) → b ≡ is_statement_there table types exceptions processes l (typed_form_view form)
  case_there form v arms list b e f h =
      h ∙ (ap (λ items. is_form_there table types exceptions processes (model.Case (typed_path_view v) (map (λ a. a.0) items))) f
      ∙ sym (ap (λ x. is_statement_there table types exceptions processes l (typed_form_view x)) e ∙ ap (is_statement_there table types exceptions processes l) (case_view v arms)))

  pub select_there : (form : TypedForm) (arms : Vec (TypedPath × TypedPath × Vec TypedStmt Global) Global) (list : List (TypedPath × TypedPath × Vec TypedStmt Global)) (b : Bool) → form ≡ Select arms → list ≡ arms.items
      → b ≡ is_form_there table types exceptions processes (model.Select (map typed_arm_view list)) → b ≡ is_statement_there table types exceptions processes l (typed_form_view form)
  select_there form arms list b e f h =
      h ∙ (ap (λ items. is_form_there table types exceptions processes (model.Select (map typed_arm_view items))) f
      ∙ sym (ap (λ x. is_statement_there table types exceptions processes l (typed_form_view x)) e ∙ ap (is_statement_there table types exceptions processes l) (select_view arms)))

  pub try_there : (form : TypedForm) (body : Vec TypedStmt Global) (hs : Vec (ExcNo × Vec TypedStmt Global) Global) (list : List (ExcNo × Vec TypedStmt Global)) (b : Bool) → form ≡ Try body hs → list ≡ hs.items
      → b ≡ all_pass (λ e. nat_lt e exceptions) (map (λ h. h.0.0) list) → b ≡ is_statement_there table types exceptions processes l (typed_form_view form)
  try_there form body hs list b e f h =
      h ∙ (ap (λ items. all_pass (λ e. nat_lt e exceptions) (map (λ h. h.0.0) items)) f
      ∙ sym (ap (λ x. is_statement_there table types exceptions processes l (typed_form_view x)) e ∙ (ap (is_statement_there table types exceptions processes l) (try_view body hs) ∙ ap (all_pass (λ e. nat_lt e exceptions)) (handled_in hs.items))))

module _ (table : TypeTable) (types ports : List ℕ) where
  some_case : (arms : List (ℕ × Vec TypedStmt Global)) → is_some_block (case_blocks arms) ≡ not (is_nil arms)
  some_case [] = refl
  some_case (a ∷ arms) = refl

  some_select : (arms : List (TypedPath × TypedPath × Vec TypedStmt Global)) → is_some_block (select_blocks arms) ≡ not (is_nil arms)
  some_select [] = refl
  some_select (a ∷ arms) = refl

  some_handler : (hs : List (ExcNo × Vec TypedStmt Global)) → is_some_handler (handlers_list hs) ≡ not (is_nil hs)
  some_handler [] = refl
  some_handler (h ∷ hs) = refl

  pub case_fits : (form : TypedForm) (v : TypedPath) (arms : Vec (ℕ × Vec TypedStmt Global) Global) (list : List (ℕ × Vec TypedStmt Global)) (b : Bool) → form ≡ Case v arms → list ≡ arms.items
      → b ≡ (fits_form table types ports (model.Case (typed_path_view v) (map (λ a. a.0) list)) && not (is_nil list)) → b ≡ fits_statement table types ports (typed_form_view form)
  case_fits form v arms list b e f h =
      h ∙ (ap (λ items. fits_form table types ports (model.Case (typed_path_view v) (map (λ a. a.0) items)) && not (is_nil items)) f
      ∙ (ap (λ t. fits_form table types ports (model.Case (typed_path_view v) (map (λ a. a.0) arms.items)) && t) (sym (some_case arms.items))
      ∙ sym (ap (λ x. fits_statement table types ports (typed_form_view x)) e ∙ ap (fits_statement table types ports) (case_view v arms))))

  pub select_fits : (form : TypedForm) (arms : Vec (TypedPath × TypedPath × Vec TypedStmt Global) Global) (list : List (TypedPath × TypedPath × Vec TypedStmt Global)) (b : Bool) → form ≡ Select arms → list ≡ arms.items
      → b ≡ (fits_form table types ports (model.Select (map typed_arm_view list)) && not (is_nil list)) → b ≡ fits_statement table types ports (typed_form_view form)
  select_fits form arms list b e f h =
      h ∙ (ap (λ items. fits_form table types ports (model.Select (map typed_arm_view items)) && not (is_nil items)) f
      ∙ (ap (λ t. fits_form table types ports (model.Select (map typed_arm_view arms.items)) && t) (sym (some_select arms.items))
      ∙ sym (ap (λ x. fits_statement table types ports (typed_form_view x)) e ∙ ap (fits_statement table types ports) (select_view arms))))

  pub try_fits : (form : TypedForm) (body : Vec TypedStmt Global) (hs : Vec (ExcNo × Vec TypedStmt Global) Global) (list : List (ExcNo × Vec TypedStmt Global)) (b : Bool) → form ≡ Try body hs → list ≡ hs.items
      → b ≡ not (is_nil list) → b ≡ fits_statement table types ports (typed_form_view form)
  try_fits form body hs list b e f h =
      h ∙ (ap (λ items. not (is_nil items)) f
      ∙ sym (ap (λ x. fits_statement table types ports (typed_form_view x)) e ∙ (ap (fits_statement table types ports) (try_view body hs) ∙ some_handler hs.items)))

module _ (table : TypeTable) (types : List ℕ) where
  pub try_copies : (form : TypedForm) (body : Vec TypedStmt Global) (hs : Vec (ExcNo × Vec TypedStmt Global) Global) → form ≡ Try body hs → true ≡ copies_statement table types (typed_form_view form)
  try_copies form body hs e = sym (ap (λ x. copies_statement table types (typed_form_view x)) e ∙ ap (copies_statement table types) (try_view body hs))
