-- What the typed trees of the code stand for: expressions, statements and processes of the model.
use Rattle.std.specs.Prelude.{ℕ, List, [], ◌∷◌, map, Option, Some, None}
use Rattle.herm_model.specs.Paths as paths
use Rattle.herm_model.specs.Expressions as model
use Rattle.herm_model.specs.Statements as statements
use Rattle.herm_syntax.specs.declared.expressions.CompOp.{CompOp}
use Rattle.herm_syntax.specs.declared.expressions.CompOp.TheVariants as compares
use Rattle.herm_syntax.specs.declared.expressions.ProdOp.{ProdOp}
use Rattle.herm_syntax.specs.declared.expressions.ProdOp.TheVariants as products
use Rattle.herm_syntax.specs.declared.expressions.SumOp.{SumOp}
use Rattle.herm_syntax.specs.declared.expressions.SumOp.TheVariants as sums
use Rattle.herm_syntax.specs.declared.expressions.UnaryOp.{UnaryOp}
use Rattle.herm_syntax.specs.declared.expressions.UnaryOp.TheVariants as signs
use Rattle.herm_types.specs.View.{path_view}
use Rattle.herm_typed.specs.declared.expressions.TypedPath.{TypedPath}
use Rattle.herm_typed.specs.declared.expressions.TypedLiteral.{TypedLiteral}
use Rattle.herm_typed.specs.declared.expressions.TypedLiteral.TheVariants as literals
use Rattle.herm_typed.specs.declared.expressions.TypedAtom.{TypedAtom}
use Rattle.herm_typed.specs.declared.expressions.TypedAtom.TheVariants as atoms
use Rattle.herm_typed.specs.declared.expressions.TypedExpr.{TypedExpr}
use Rattle.herm_typed.specs.declared.expressions.TypedConj.{TypedConj}
use Rattle.herm_typed.specs.declared.expressions.TypedComp.{TypedComp}
use Rattle.herm_typed.specs.declared.expressions.TypedSum.{TypedSum}
use Rattle.herm_typed.specs.declared.expressions.TypedProd.{TypedProd}
use Rattle.herm_typed.specs.declared.expressions.TypedPrimary.{TypedPrimary}
use Rattle.herm_typed.specs.declared.expressions.TypedPrimary.TheBlock as expressions
use Rattle.herm_typed.specs.declared.statements.TypedStmt.{TypedStmt}
use Rattle.herm_typed.specs.declared.statements.TypedForm.{TypedForm}
use Rattle.herm_typed.specs.declared.statements.TypedForm.TheBlock as forms
use Rattle.herm_typed.specs.declared.statements.TypedProcess.{TypedProcess}
use Rattle.herm_model.specs.Expressions.{Expression}
use Rattle.herm_typed.specs.declared.expressions.TypedUnary.{TypedUnary}
use Rattle.herm_model.specs.Outcomes as model_outcomes
use Rattle.herm_typed.specs.declared.outcome_list.Outcome.{Outcome}
use Rattle.herm_typed.specs.declared.outcome_list.Outcome.TheVariants as outcomes

abbrev pub typed_path_view : TypedPath → paths.Path
typed_path_view p = path_view p.path

abbrev pub typed_literal_view : TypedLiteral → model.Literal
typed_literal_view (literals.Int n) = model.integer n
typed_literal_view (literals.Text t) = model.text t
typed_literal_view (literals.Bool b) = model.boolean b
typed_literal_view (literals.Tag t place) = model.tag t.0 place

abbrev pub typed_atom_view : TypedAtom → model.Atom
typed_atom_view (atoms.Literal l) = model.Atom.literal (typed_literal_view l)
typed_atom_view (atoms.Path p) = model.path (typed_path_view p)

abbrev pub typed_comp_op_view : CompOp → model.Operator
typed_comp_op_view compares.Eq = model.equal
typed_comp_op_view compares.Ne = model.unequal
typed_comp_op_view compares.Lt = model.less
typed_comp_op_view compares.Le = model.at_most
typed_comp_op_view compares.Gt = model.greater
typed_comp_op_view compares.Ge = model.at_least

abbrev pub typed_sum_op_view : SumOp → model.Operator
typed_sum_op_view sums.Add = model.plus
typed_sum_op_view sums.Sub = model.minus
typed_sum_op_view sums.Cat = model.concatenated

abbrev pub typed_prod_op_view : ProdOp → model.Operator
typed_prod_op_view products.Mul = model.times
typed_prod_op_view products.Div = model.divided
typed_prod_op_view products.Mod = model.modulo

abbrev pub typed_unary_op_view : UnaryOp → model.Expression → model.Expression
typed_unary_op_view signs.Neg e = model.negation e
typed_unary_op_view signs.Not e = model.logical_not e

abbrev pub signed_view : Option UnaryOp → model.Expression → model.Expression
signed_view None e = e
signed_view (Some sign) e = typed_unary_op_view sign e

-- An expression: operands of one level are taken from the left.
abbrev mutual
  pub typed_expr_view : TypedExpr → model.Expression
  typed_expr_view (expressions.struct-TypedExpr first shape rest) = typed_conjs_view rest (typed_conj_view first)

  pub typed_conjs_view : {m : _} → expressions.Row_of-TypedConj m → model.Expression → model.Expression
  typed_conjs_view expressions.end_of-TypedConj left = left
  typed_conjs_view (expressions.more_of-TypedConj c rest) left = typed_conjs_view rest (model.operation model.logical_or left (typed_conj_view c))

  pub typed_conj_view : TypedConj → model.Expression
  typed_conj_view (expressions.struct-TypedConj first shape rest) = typed_comps_view rest (typed_comp_view first)

  pub typed_comps_view : {m : _} → expressions.Row_of-TypedComp m → model.Expression → model.Expression
  typed_comps_view expressions.end_of-TypedComp left = left
  typed_comps_view (expressions.more_of-TypedComp c rest) left = typed_comps_view rest (model.operation model.logical_and left (typed_comp_view c))

  pub typed_comp_view : TypedComp → model.Expression
  typed_comp_view (expressions.struct-TypedComp left right) = typed_compared_view right (typed_sum_view left)

  pub typed_compared_view : expressions.Held-TypedComp-right → model.Expression → model.Expression
  typed_compared_view expressions.None' left = left
  typed_compared_view (expressions.Some' operator right) left = model.operation (typed_comp_op_view operator) left (typed_sum_view right)

  pub typed_sum_view : TypedSum → model.Expression
  typed_sum_view (expressions.struct-TypedSum first shape rest) = typed_prods_view rest (typed_prod_view first)

  pub typed_prods_view : {m : _} → expressions.Row_of-TypedSum-rest-2 m → model.Expression → model.Expression
  typed_prods_view expressions.end_of-TypedSum-rest-2 left = left
  typed_prods_view (expressions.more_of-TypedSum-rest-2 operator p rest) left = typed_prods_view rest (model.operation (typed_sum_op_view operator) left (typed_prod_view p))

  pub typed_prod_view : TypedProd → model.Expression
  typed_prod_view (expressions.struct-TypedProd sign p shape rest) = typed_unaries_view rest (signed_view sign (typed_primary_view p))

  pub typed_unaries_view : {m : _} → expressions.Row_of-TypedProd-rest-2 m → model.Expression → model.Expression
  typed_unaries_view expressions.end_of-TypedProd-rest-2 left = left
  typed_unaries_view (expressions.more_of-TypedProd-rest-2 operator sign p rest) left = typed_unaries_view rest (model.operation (typed_prod_op_view operator) left (signed_view sign (typed_primary_view p)))

  pub typed_primary_view : TypedPrimary → model.Expression
  typed_primary_view (expressions.Literal l) = model.Expression.literal (typed_literal_view l)
  typed_primary_view (expressions.Path p) = model.copy (typed_path_view p)
  typed_primary_view (expressions.Paren' pointer e) = typed_expr_view e
  typed_primary_view (expressions.Size p) = model.size_of (typed_path_view p)
  typed_primary_view (expressions.Text' pointer e) = model.decimal (typed_expr_view e)
  typed_primary_view (expressions.Length' pointer e) = model.length_of (typed_expr_view e)

-- the components of the arms of a `case`, and the arms of a `select`, without their blocks
abbrev pub components_view : {m : _} → forms.Row_of-TypedForm-Case-1-3 m → List ℕ
components_view forms.end_of-TypedForm-Case-1-3 = []
components_view (forms.more_of-TypedForm-Case-1-3 component shape body rest) = component ∷ components_view rest

abbrev pub typed_arms_view : {m : _} → forms.Row_of-TypedForm-Select-0-4 m → List statements.Arm
typed_arms_view forms.end_of-TypedForm-Select-0-4 = []
typed_arms_view (forms.more_of-TypedForm-Select-0-4 port target shape body rest) = record { target = typed_path_view target; port = typed_path_view port } ∷ typed_arms_view rest

-- A statement.
abbrev mutual
  pub typed_form_view : TypedForm → statements.Statement
  typed_form_view (forms.Assign x e) = statements.simple (statements.Assign (typed_path_view x) (typed_expr_view e))
  typed_form_view (forms.Move y x) = statements.simple (statements.Move (typed_path_view y) (typed_path_view x))
  typed_form_view (forms.New x) = statements.simple (statements.New (typed_path_view x))
  typed_form_view (forms.Discard x) = statements.simple (statements.Discard (typed_path_view x))
  typed_form_view (forms.Unite v c y) = statements.simple (statements.Unite (typed_path_view v) c (typed_path_view y))
  typed_form_view (forms.Dissolve v c y) = statements.simple (statements.Dissolve (typed_path_view v) c (typed_path_view y))
  typed_form_view (forms.Reveal v c) = statements.simple (statements.Reveal (typed_path_view v) c)
  typed_form_view (forms.Case' v shape arms) = statements.choosing (statements.Case (typed_path_view v) (components_view arms)) (case_blocks_view arms)
  typed_form_view (forms.Wrap y p) = statements.simple (statements.Wrap (typed_path_view y) (typed_path_view p))
  typed_form_view (forms.Unwrap p t y) = statements.simple (statements.Unwrap (typed_path_view p) t.0 (typed_path_view y))
  typed_form_view (forms.Insert r t) = statements.simple (statements.Insert (typed_path_view r) (typed_path_view t))
  typed_form_view (forms.Remove r t keys) = statements.simple (statements.Remove (typed_path_view r) (typed_path_view t) (map typed_atom_view keys.items))
  typed_form_view (forms.Get r t keys) = statements.simple (statements.Get (typed_path_view r) (typed_path_view t) (map typed_atom_view keys.items))
  typed_form_view (forms.For' r t shape body) = statements.repeating (statements.For (typed_path_view r) (typed_path_view t)) (typed_block_view body)
  typed_form_view (forms.Connect o i) = statements.simple (statements.Connect (typed_path_view o) (typed_path_view i))
  typed_form_view (forms.Send x o) = statements.simple (statements.Send (typed_path_view x) (typed_path_view o))
  typed_form_view (forms.Receive x i) = statements.simple (statements.Receive (typed_path_view x) (typed_path_view i))
  typed_form_view (forms.Select' shape arms) = statements.choosing (statements.Select (typed_arms_view arms)) (select_blocks_view arms)
  typed_form_view (forms.Call o arguments) = statements.simple (statements.Call (typed_path_view o) (map typed_atom_view arguments.items))
  typed_form_view (forms.Return m) = statements.simple (statements.Return (typed_path_view m))
  typed_form_view (forms.ReturnBy m e) = statements.simple (statements.ReturnBy (typed_path_view m) e.0)
  typed_form_view (forms.Create o n) = statements.simple (statements.Create (typed_path_view o) n)
  typed_form_view (forms.If' e shape body other) = statements.choosing (statements.If (typed_expr_view e)) (statements.block (typed_block_view body) (statements.block (typed_otherwise_view other) statements.no_blocks))
  typed_form_view (forms.While' e shape body) = statements.repeating (statements.While (typed_expr_view e)) (typed_block_view body)
  typed_form_view (forms.Raise e) = statements.simple (statements.Raise e.0)
  typed_form_view forms.Leave = statements.leaving
  typed_form_view (forms.Try' shape body shape_of_handlers handled) = statements.trying (typed_block_view body) (typed_handlers_view handled)

  pub typed_block_view : {m : _} → forms.Row_of-TypedStmt m → statements.Block
  typed_block_view forms.end_of-TypedStmt = statements.no_statements
  typed_block_view (forms.more_of-TypedStmt number span form rest) = statements.statement (typed_form_view form) (typed_block_view rest)

  pub case_blocks_view : {m : _} → forms.Row_of-TypedForm-Case-1-3 m → statements.Blocks
  case_blocks_view forms.end_of-TypedForm-Case-1-3 = statements.no_blocks
  case_blocks_view (forms.more_of-TypedForm-Case-1-3 component shape body rest) = statements.block (typed_block_view body) (case_blocks_view rest)

  pub select_blocks_view : {m : _} → forms.Row_of-TypedForm-Select-0-4 m → statements.Blocks
  select_blocks_view forms.end_of-TypedForm-Select-0-4 = statements.no_blocks
  select_blocks_view (forms.more_of-TypedForm-Select-0-4 port target shape body rest) = statements.block (typed_block_view body) (select_blocks_view rest)

  pub typed_otherwise_view : forms.Held-TypedForm-If-2 → statements.Block
  typed_otherwise_view forms.None' = statements.no_statements
  typed_otherwise_view (forms.Some' shape body) = typed_block_view body

  pub typed_handlers_view : {m : _} → forms.Row_of-TypedForm-Try-1-3 m → statements.Handlers
  typed_handlers_view forms.end_of-TypedForm-Try-1-3 = statements.no_handlers
  typed_handlers_view (forms.more_of-TypedForm-Try-1-3 exception shape body rest) = statements.handler exception.0 (typed_block_view body) (typed_handlers_view rest)

-- the form of a statement without the blocks within it; a `try` has none
abbrev pub form_of_statement : statements.Statement → Option statements.Form
form_of_statement (statements.simple f) = Some f
form_of_statement (statements.choosing f _) = Some f
form_of_statement (statements.repeating f body) = Some f
form_of_statement statements.leaving = Some statements.Leave
form_of_statement (statements.trying _ _) = None

-- A process.
abbrev pub typed_stmts_view : List TypedStmt → statements.Block
typed_stmts_view [] = statements.no_statements
typed_stmts_view (s ∷ rest) = statements.statement (typed_form_view s.form) (typed_stmts_view rest)

abbrev pub typed_process_view : TypedProcess → statements.Process
typed_process_view p = record { variables = map (λ v. v.of.0) p.vars.items; body = typed_stmts_view p.body.items }

abbrev pub typed_unary_view : TypedUnary → Expression
typed_unary_view u = signed_view u.op (typed_primary_view u.primary)

abbrev pub outcome_view : Outcome → model_outcomes.Outcome
outcome_view outcomes.Ok = model_outcomes.ok
outcome_view outcomes.True = model_outcomes.is_true
outcome_view outcomes.False = model_outcomes.is_false
outcome_view outcomes.Turn = model_outcomes.turn
outcome_view outcomes.Done = model_outcomes.done
outcome_view (outcomes.Component c) = model_outcomes.component c
outcome_view (outcomes.Arm place) = model_outcomes.arm place
outcome_view (outcomes.Raised e) = model_outcomes.raised e.0
