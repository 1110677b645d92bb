-- The statements of a process stand in the order of their numbers.
use Rattle.std.proofs.Common.{◌≡◌, ℕ, suc, zero, ◌+◌, ◌<◌, List, [], ◌∷◌, ◌++◌, map, length, Option, Some, None, option_map, slice_get, refl, sym, ap, ap₂, subst, ◌∙◌, arith}
use Rattle.std.specs.Prelude.{pred}
use Rattle.std.proofs.lemmas.List.{map-append}
use Rattle.herm_model.specs.Statements as model
use Rattle.herm_model.specs.Statements.{Form}
use Rattle.herm_model.specs.Types.{type_at}
use Rattle.herm_model.proofs.Lists.{slice_get-map, length-map}
use Rattle.herm_typed.specs.declared.statements.TypedStmt.{TypedStmt}
use Rattle.herm_typed.specs.declared.statements.TypedForm.{TypedForm}
use Rattle.herm_typed.specs.declared.statements.TypedForm.TheBlock as forms
use Rattle.herm_typed.specs.View.{typed_path_view, typed_expr_view, components_view, typed_arms_view, typed_form_view, typed_block_view, case_blocks_view, select_blocks_view, typed_otherwise_view, typed_handlers_view, typed_stmts_view, form_of_statement}
use Rattle.herm_typed.specs.Within.{statements_within, statements_in, statements_in_arms, statements_in_port_arms, statements_otherwise, statements_in_handlers, all_statements}
use Rattle.herm_words.specs.Sites.{sites_in, variant_of}
use Rattle.herm_words.specs.MissingFactWords.{variable_types}
use Rattle.herm_words.specs.laws.NodeLaws.{SitesAreOfNodes, SitesAreAsMany, NodesNameVariants}
use Rattle.herm_words.proofs.NumbersSaid.{said, said_block, said_blocks, said_handlers, size_block, stand_in}
use Rattle.herm_words.proofs.Variants.{components-named}

abbrev form_at : TypedStmt → Option Form
form_at s = form_of_statement (typed_form_view s.form)

both : (xs ys : List (Option Form)) (ss ts : List TypedStmt) → xs ≡ map form_at ss → ys ≡ map form_at ts → xs ++ ys ≡ map form_at (ss ++ ts)
both xs ys ss ts e f = ap₂ (λ x y. x ++ y) e f ∙ sym (map-append form_at ss ts)

either : (xs ys : List (Option Form)) (ss ts : List TypedStmt) → xs ≡ map form_at ss → ys ≡ map form_at ts → xs ++ (ys ++ []) ≡ map form_at (ss ++ ts)
either xs ys ss ts e f = ap (λ zs. xs ++ zs) (nothing-behind ys) ∙ both xs ys ss ts e f
  where
    nothing-behind : (zs : List (Option Form)) → zs ++ [] ≡ zs
    nothing-behind [] = refl
    nothing-behind (z ∷ zs) = ap (z ∷◌) (nothing-behind zs)

mutual
  form_said : (form : TypedForm) → said (typed_form_view form) ≡ form_of_statement (typed_form_view form) ∷ map form_at (statements_within form)
  form_said (forms.Case' v shape arms) = ap (λ (xs : List (Option Form)). Some (model.Case (typed_path_view v) (components_view arms)) ∷ xs) (arms_said arms)
  form_said (forms.For' r t shape body) = ap (λ (xs : List (Option Form)). Some (model.For (typed_path_view r) (typed_path_view t)) ∷ xs) (row_said body)
  form_said (forms.Select' shape arms) = ap (λ (xs : List (Option Form)). Some (model.Select (typed_arms_view arms)) ∷ xs) (ports_said arms)
  form_said (forms.If' e shape body other) = ap (λ (xs : List (Option Form)). Some (model.If (typed_expr_view e)) ∷ xs) (either (said_block (typed_block_view body)) (said_block (typed_otherwise_view other)) (statements_in body) (statements_otherwise other) (row_said body) (otherwise_said other))
  form_said (forms.While' e shape body) = ap (λ (xs : List (Option Form)). Some (model.While (typed_expr_view e)) ∷ xs) (row_said body)
  form_said (forms.Try' shape body others handled) = ap (λ (xs : List (Option Form)). None ∷ xs) (both (said_block (typed_block_view body)) (said_handlers (typed_handlers_view handled)) (statements_in body) (statements_in_handlers handled) (row_said body) (handlers_said handled))
  form_said form = refl

  row_said : {m : _} (row : forms.Row_of-TypedStmt m) → said_block (typed_block_view row) ≡ map form_at (statements_in row)
  row_said forms.end_of-TypedStmt = refl
  row_said (forms.more_of-TypedStmt number span form rest) =
      both (said (typed_form_view form)) (said_block (typed_block_view rest)) (record { no = number; span = span; form = form } ∷ statements_within form) (statements_in rest) (form_said form) (row_said rest)

  arms_said : {m : _} (arms : forms.Row_of-TypedForm-Case-1-3 m) → said_blocks (case_blocks_view arms) ≡ map form_at (statements_in_arms arms)
  arms_said forms.end_of-TypedForm-Case-1-3 = refl
  arms_said (forms.more_of-TypedForm-Case-1-3 component shape body rest) =
      both (said_block (typed_block_view body)) (said_blocks (case_blocks_view rest)) (statements_in body) (statements_in_arms rest) (row_said body) (arms_said rest)

  ports_said : {m : _} (arms : forms.Row_of-TypedForm-Select-0-4 m) → said_blocks (select_blocks_view arms) ≡ map form_at (statements_in_port_arms arms)
  ports_said forms.end_of-TypedForm-Select-0-4 = refl
  ports_said (forms.more_of-TypedForm-Select-0-4 port target shape body rest) =
      both (said_block (typed_block_view body)) (said_blocks (select_blocks_view rest)) (statements_in body) (statements_in_port_arms rest) (row_said body) (ports_said rest)

  otherwise_said : (other : forms.Held-TypedForm-If-2) → said_block (typed_otherwise_view other) ≡ map form_at (statements_otherwise other)
  otherwise_said forms.None' = refl
  otherwise_said (forms.Some' shape body) = row_said body

  handlers_said : {m : _} (handled : forms.Row_of-TypedForm-Try-1-3 m) → said_handlers (typed_handlers_view handled) ≡ map form_at (statements_in_handlers handled)
  handlers_said forms.end_of-TypedForm-Try-1-3 = refl
  handlers_said (forms.more_of-TypedForm-Try-1-3 exception shape body rest) =
      both (said_block (typed_block_view body)) (said_handlers (typed_handlers_view rest)) (statements_in body) (statements_in_handlers rest) (row_said body) (handlers_said rest)

list_said : (list : List TypedStmt) → said_block (typed_stmts_view list) ≡ map form_at (all_statements list)
list_said [] = refl
list_said (s ∷ rest) = both (said (typed_form_view s.form)) (said_block (typed_stmts_view rest)) (s ∷ statements_within s.form) (all_statements rest) (form_said s.form) (list_said rest)

there : (o : Option TypedStmt) (f : Form) → option_map form_at o ≡ Some (Some f) → (s : TypedStmt) × (o ≡ Some s) × (form_at s ≡ Some f)
there None f e = absurd (let c : ⊥ = cc in c)
there (Some s) f e = let c : form_at s ≡ Some f = cc in (s, refl, c)

pub nodes-placed : SitesAreOfNodes
nodes-placed p n m =
    let all = all_statements p.body.items in
    let a = (stand_in (typed_stmts_view p.body.items) 1 0 _).each n m in
    let s = there (slice_get all a.0) n.form (sym (slice_get-map form_at all a.0) ∙ (ap (λ xs. slice_get xs a.0) (sym (list_said p.body.items)) ∙ a.2)) in
    let e : 1 + a.0 ≡ suc a.0 = omega arith in
    let f = a.1 in
    (s.0, omega (arith, f), ap (λ k. slice_get all (pred k)) (f ∙ e) ∙ s.1, s.2)

pub sites-as-many : SitesAreAsMany
sites-as-many p = sym (length-map form_at (all_statements p.body.items)) ∙ (ap length (sym (list_said p.body.items)) ∙ size_block (typed_stmts_view p.body.items))

pub variants-named : NodesNameVariants
variants-named types p known n v cs m is =
    let s = nodes-placed p n m in
    let low = s.1 in
    let e : pred n.number + 1 ≡ n.number = up n.number low in
    subst (λ k. variant_of (sites_in p) k ≡ type_at types.shapes (variable_types p) v) e
    (components-named types p known (pred n.number) s.0 v cs s.2 (s.3 ∙ ap Some is))
  where
    up : (k : ℕ) → 0 < k → pred k + 1 ≡ k
    up zero h = absurd (omega (arith, h))
    up (suc k) h = omega arith
