-- Typed statements with blocks mean what the written ones mean, where their parts do.
use Rattle.std.proofs.Common.{◌≡◌, ℕ, List, [], ◌∷◌, ◌++◌, map, Option, Some, None, refl, sym, ap, ap₂, ◌∙◌, Vec, Global}
use Rattle.herm_base.specs.declared.numbers.ExcNo.{ExcNo}
use Rattle.herm_base.specs.declared.word.Name.{Name}
use Rattle.herm_model.specs.Paths as paths
use Rattle.herm_model.specs.Statements as model
use Rattle.herm_model.specs.Statements.{choosing, repeating, trying, Block, no_statements, statement, Blocks, no_blocks, block, Handlers, no_handlers, handler}
use Rattle.herm_syntax.specs.Trees as trees
use Rattle.herm_syntax.specs.Trees.{Letters, Path, Expression}
use Rattle.herm_syntax.specs.ReadStatements.{arms_of, port_arms_of}
use Rattle.herm_syntax.specs.View.{name_view, path_form_view, stmt_form_view, stmts_view}
use Rattle.herm_syntax.specs.declared.expressions.PathForm.{PathForm}
use Rattle.herm_syntax.specs.declared.statements.Stmt.{Stmt}
use Rattle.herm_naming.specs.Numbers.{Scope, path_number, expression_number, part_number, type_seen, exception_number}
use Rattle.herm_naming.specs.Meaning.{arm_names, arm_forms, statement_number, block_number, arm_blocks, port_arm_blocks, otherwise_number, handlers_number}
use Rattle.herm_typed.specs.declared.expressions.TypedPath.{TypedPath}
use Rattle.herm_typed.specs.declared.expressions.TypedExpr.{TypedExpr}
use Rattle.herm_typed.specs.declared.statements.TypedStmt.{TypedStmt}
use Rattle.herm_typed.specs.declared.statements.TypedForm.{Case, Select, For, If, While, Try}
use Rattle.herm_typed.specs.View.{typed_path_view, typed_expr_view, typed_form_view, typed_stmts_view}
use Rattle.herm_typed.specs.Blocks.{case_blocks, typed_arm_view, select_blocks, else_block, handlers_list}
use Rattle.herm_typed.proofs.SeenBlocks.{case_view, select_view, for_view, if_view, while_view, try_view}
use Rattle.herm_numbers.specs.Statements.{arm_view, port_arm_view, else_view, meant, written, arms_meant, handlers_meant, arms_written, port_arms_meant, port_arms_written, else_meant, else_written}

-- blocks of statements, and of lists of statements
blocked : List model.Statement → Block
blocked [] = no_statements
blocked (x ∷ xs) = statement x (blocked xs)

abbrev Arm : Type 0
Arm = ℕ × List model.Statement

all_blocked : List Arm → Blocks
all_blocked [] = no_blocks
all_blocked (a ∷ arms) = block (blocked a.1) (all_blocked arms)

all_handled : List Arm → Handlers
all_handled [] = no_handlers
all_handled (a ∷ arms) = handler a.0 (blocked a.1) (all_handled arms)

abbrev PortArm : Type 0
PortArm = (paths.Path × paths.Path) × List model.Statement

ports_blocked : List PortArm → Blocks
ports_blocked [] = no_blocks
ports_blocked (a ∷ arms) = block (blocked a.1) (ports_blocked arms)

arm_by : PortArm → model.Arm
arm_by a = record { target = a.0.1; port = a.0.0 }

two-blocks : (a b : Block) (r s : Blocks) → a ≡ b → r ≡ s → block a r ≡ block b s
two-blocks a b r s e f = ap (λ t. block t r) e ∙ ap (λ t. block b t) f

two-handlers : (n : ℕ) (a b : Block) (r s : Handlers) → a ≡ b → r ≡ s → handler n a r ≡ handler n b s
two-handlers n a b r s e f = ap (λ t. handler n t r) e ∙ ap (λ t. handler n b t) f

-- typed
body_blocked : (ts : List TypedStmt) → typed_stmts_view ts ≡ blocked (meant ts)
unfolding blocked
body_blocked [] = refl
body_blocked (t ∷ ts) = ap (λ b. statement (typed_form_view t.form) b) (body_blocked ts)

case_blocked : (arms : List (ℕ × Vec TypedStmt Global)) → case_blocks arms ≡ all_blocked (arms_meant arms)
unfolding all_blocked
case_blocked [] = refl
case_blocked (a ∷ arms) = two-blocks _ _ _ _ (body_blocked a.1.items) (case_blocked arms)

case_names : (arms : List (ℕ × Vec TypedStmt Global)) → map (λ a. a.0) arms ≡ map (λ (a : Arm). a.0) (arms_meant arms)
case_names [] = refl
case_names (a ∷ arms) = ap (a.0 ∷◌) (case_names arms)

select_blocked : (arms : List (TypedPath × TypedPath × Vec TypedStmt Global)) → select_blocks arms ≡ ports_blocked (port_arms_meant arms)
unfolding ports_blocked
select_blocked [] = refl
select_blocked (a ∷ arms) = two-blocks _ _ _ _ (body_blocked a.2.items) (select_blocked arms)

select_arms : (arms : List (TypedPath × TypedPath × Vec TypedStmt Global)) → map typed_arm_view arms ≡ map arm_by (port_arms_meant arms)
unfolding arm_by
select_arms [] = refl
select_arms (a ∷ arms) = ap (typed_arm_view a ∷◌) (select_arms arms)

handlers_blocked : (arms : List (ExcNo × Vec TypedStmt Global)) → handlers_list arms ≡ all_handled (handlers_meant arms)
unfolding all_handled
handlers_blocked [] = refl
handlers_blocked (a ∷ arms) = two-handlers a.0.0 _ _ _ _ (body_blocked a.1.items) (handlers_blocked arms)

else_blocked : (other : Option (Vec TypedStmt Global)) → else_block other ≡ blocked (else_meant other)
unfolding blocked
else_blocked None = refl
else_blocked (Some body) = body_blocked body.items

-- written
module _ (s : Scope) where
  number_blocked : (xs : List Stmt) → block_number s (stmts_view xs) ≡ blocked (written s xs)
  unfolding blocked
  number_blocked [] = refl
  number_blocked (x ∷ xs) = ap (λ b. statement (statement_number s (stmt_form_view x.form)) b) (number_blocked xs)

  arms_blocked : (number : Letters → ℕ) (arms : List (Name × Vec Stmt Global)) → arm_blocks s (arms_of (map arm_view arms)) ≡ all_blocked (arms_written s number arms)
  unfolding all_blocked
  arms_blocked number [] = refl
  arms_blocked number (a ∷ arms) = two-blocks _ _ _ _ (number_blocked a.1.items) (arms_blocked number arms)

  arms_names : (number : Letters → ℕ) (arms : List (Name × Vec Stmt Global)) → map number (arm_names (arms_of (map arm_view arms))) ≡ map (λ (a : Arm). a.0) (arms_written s number arms)
  arms_names number [] = refl
  arms_names number (a ∷ arms) = ap (number (name_view a.0) ∷◌) (arms_names number arms)

  number_ports : (arms : List (PathForm × PathForm × Vec Stmt Global)) → port_arm_blocks s (port_arms_of (map port_arm_view arms)) ≡ ports_blocked (port_arms_written s arms)
  unfolding ports_blocked
  number_ports [] = refl
  number_ports (a ∷ arms) = two-blocks _ _ _ _ (number_blocked a.2.items) (number_ports arms)

  number_arms : (arms : List (PathForm × PathForm × Vec Stmt Global)) → arm_forms s (port_arms_of (map port_arm_view arms)) ≡ map arm_by (port_arms_written s arms)
  unfolding arm_by
  number_arms [] = refl
  number_arms (a ∷ arms) = ap (λ t. record { target = path_number s (path_form_view a.1); port = path_number s (path_form_view a.0) } ∷ t) (number_arms arms)

  number_handlers : (arms : List (Name × Vec Stmt Global)) → handlers_number s (arms_of (map arm_view arms)) ≡ all_handled (arms_written s (exception_number s.known) arms)
  unfolding all_handled
  number_handlers [] = refl
  number_handlers (a ∷ arms) = two-handlers (exception_number s.known (name_view a.0)) _ _ _ _ (number_blocked a.1.items) (number_handlers arms)

  number_else : (other : Option (Vec Stmt Global)) → otherwise_number s (else_view other) ≡ blocked (else_written s other)
  unfolding blocked
  number_else None = refl
  number_else (Some body) = number_blocked body.items

  -- the two together
  pub body_meaning : (ts : List TypedStmt) (xs : List Stmt) → meant ts ≡ written s xs → typed_stmts_view ts ≡ block_number s (stmts_view xs)
  body_meaning ts xs e = body_blocked ts ∙ (ap blocked e ∙ sym (number_blocked xs))

  pub for_meaning : (r t : TypedPath) (body : Vec TypedStmt Global) (p q : Path) (xs : List Stmt) → typed_path_view r ≡ path_number s p → typed_path_view t ≡ path_number s q → meant body.items ≡ written s xs
      → typed_form_view (For r t body) ≡ statement_number s (trees.For p q (stmts_view xs))
  for_meaning r t body p q xs e f h =
      for_view r t body ∙ (ap (λ x. repeating (model.For x (typed_path_view t)) (typed_stmts_view body.items)) e
      ∙ (ap (λ x. repeating (model.For (path_number s p) x) (typed_stmts_view body.items)) f
      ∙ ap (λ b. repeating (model.For (path_number s p) (path_number s q)) b) (body_meaning body.items xs h)))

  pub while_meaning : (e : TypedExpr) (body : Vec TypedStmt Global) (c : Expression) (xs : List Stmt) → typed_expr_view e ≡ expression_number s c → meant body.items ≡ written s xs
      → typed_form_view (While e body) ≡ statement_number s (trees.While c (stmts_view xs))
  while_meaning e body c xs f h =
      while_view e body ∙ (ap (λ x. repeating (model.While x) (typed_stmts_view body.items)) f
      ∙ ap (λ b. repeating (model.While (expression_number s c)) b) (body_meaning body.items xs h))

  pub if_meaning : (e : TypedExpr) (body : Vec TypedStmt Global) (other : Option (Vec TypedStmt Global)) (c : Expression) (xs : List Stmt) (o : Option (Vec Stmt Global)) → typed_expr_view e ≡ expression_number s c → meant body.items ≡ written s xs → else_meant other ≡ else_written s o
      → typed_form_view (If e body other) ≡ statement_number s (trees.If c (stmts_view xs) (else_view o))
  if_meaning e body other c xs o f h k =
      if_view e body other ∙ (ap (λ x. choosing (model.If x) (block (typed_stmts_view body.items) (block (else_block other) no_blocks))) f
      ∙ (ap (λ b. choosing (model.If (expression_number s c)) (block b (block (else_block other) no_blocks))) (body_meaning body.items xs h)
      ∙ ap (λ b. choosing (model.If (expression_number s c)) (block (block_number s (stmts_view xs)) (block b no_blocks))) (else_blocked other ∙ (ap blocked k ∙ sym (number_else o)))))

  pub case_meaning : (v : TypedPath) (arms : Vec (ℕ × Vec TypedStmt Global) Global) (p : Path) (list : List (Name × Vec Stmt Global)) → typed_path_view v ≡ path_number s p
      → arms_meant arms.items ≡ arms_written s (part_number s.known (type_seen s (typed_path_view v))) list
      → typed_form_view (Case v arms) ≡ statement_number s (trees.Case p (arms_of (map arm_view list)))
  case_meaning v arms p list e h =
      let number : Letters → ℕ = part_number s.known (type_seen s (path_number s p)) in
      let same : arms_meant arms.items ≡ arms_written s number list = h ∙ ap (λ x. arms_written s (part_number s.known (type_seen s x)) list) e in
      case_view v arms ∙ (ap (λ x. choosing (model.Case x (map (λ a. a.0) arms.items)) (case_blocks arms.items)) e
      ∙ (ap (λ cs. choosing (model.Case (path_number s p) cs) (case_blocks arms.items)) (case_names arms.items ∙ (ap (map (λ (a : Arm). a.0)) same ∙ sym (arms_names number list)))
      ∙ ap (λ bs. choosing (model.Case (path_number s p) (map number (arm_names (arms_of (map arm_view list))))) bs) (case_blocked arms.items ∙ (ap all_blocked same ∙ sym (arms_blocked number list)))))

  pub select_meaning : (arms : Vec (TypedPath × TypedPath × Vec TypedStmt Global) Global) (list : List (PathForm × PathForm × Vec Stmt Global)) → port_arms_meant arms.items ≡ port_arms_written s list
      → typed_form_view (Select arms) ≡ statement_number s (trees.Select (port_arms_of (map port_arm_view list)))
  select_meaning arms list h =
      select_view arms ∙ (ap (λ cs. choosing (model.Select cs) (select_blocks arms.items)) (select_arms arms.items ∙ (ap (map arm_by) h ∙ sym (number_arms list)))
      ∙ ap (λ bs. choosing (model.Select (arm_forms s (port_arms_of (map port_arm_view list)))) bs) (select_blocked arms.items ∙ (ap ports_blocked h ∙ sym (number_ports list))))

  pub try_meaning : (body : Vec TypedStmt Global) (handled : Vec (ExcNo × Vec TypedStmt Global) Global) (xs : List Stmt) (list : List (Name × Vec Stmt Global)) → meant body.items ≡ written s xs → handlers_meant handled.items ≡ arms_written s (exception_number s.known) list
      → typed_form_view (Try body handled) ≡ statement_number s (trees.Try (stmts_view xs) (arms_of (map arm_view list)))
  try_meaning body handled xs list h k =
      try_view body handled ∙ (ap (λ b. trying b (handlers_list handled.items)) (body_meaning body.items xs h)
      ∙ ap (λ hs. trying (block_number s (stmts_view xs)) hs) (handlers_blocked handled.items ∙ (ap all_handled k ∙ sym (number_handlers list))))
