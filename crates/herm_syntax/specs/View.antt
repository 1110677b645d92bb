-- How contracts see the trees of the program: without places in the text, without room, and without numbers.
use Rattle.std.specs.Prelude.{List, [], ◌∷◌, map, option_map}
use Rattle.herm_syntax.specs.declared.definitions.DFact.{DFact}
use Rattle.herm_syntax.specs.declared.definitions.DFact.TheVariants as facts
use Rattle.herm_syntax.specs.declared.definitions.DefForm.{DefForm}
use Rattle.herm_syntax.specs.declared.definitions.DefForm.TheVariants as items
use Rattle.herm_syntax.specs.declared.definitions.DefItem.{DefItem}
use Rattle.herm_syntax.specs.declared.definitions.Field.{Field as FieldForm}
use Rattle.herm_syntax.specs.declared.definitions.ModeForm.{ModeForm}
use Rattle.herm_syntax.specs.declared.definitions.ModeForm.TheVariants as modes
use Rattle.herm_syntax.specs.declared.definitions.ParamForm.{ParamForm}
use Rattle.herm_syntax.specs.declared.definitions.RaiseForm.{RaiseForm}
use Rattle.herm_syntax.specs.declared.definitions.ShapeForm.{ShapeForm}
use Rattle.herm_syntax.specs.declared.definitions.ShapeForm.TheVariants as shapes
use Rattle.herm_syntax.specs.declared.expressions.Atom.{Atom as AtomForm}
use Rattle.herm_syntax.specs.declared.expressions.Atom.TheVariants as atoms
use Rattle.herm_syntax.specs.declared.expressions.Comp.{Comp}
use Rattle.herm_syntax.specs.declared.expressions.CompOp.{CompOp}
use Rattle.herm_syntax.specs.declared.expressions.CompOp.TheVariants as compares
use Rattle.herm_syntax.specs.declared.expressions.Conj.{Conj}
use Rattle.herm_syntax.specs.declared.expressions.Expr.{Expr}
use Rattle.herm_syntax.specs.declared.expressions.Literal.{Literal as LiteralForm}
use Rattle.herm_syntax.specs.declared.expressions.Literal.TheVariants as literals
use Rattle.herm_syntax.specs.declared.expressions.PathForm.{PathForm}
use Rattle.herm_syntax.specs.declared.expressions.Primary.{Primary as PrimaryForm}
use Rattle.herm_syntax.specs.declared.expressions.Primary.TheBlock as expressions
use Rattle.herm_syntax.specs.declared.expressions.Prod.{Prod}
use Rattle.herm_syntax.specs.declared.expressions.ProdOp.{ProdOp}
use Rattle.herm_syntax.specs.declared.expressions.ProdOp.TheVariants as products
use Rattle.herm_syntax.specs.declared.expressions.Sum.{Sum}
use Rattle.herm_syntax.specs.declared.expressions.SumOp.{SumOp}
use Rattle.herm_syntax.specs.declared.expressions.SumOp.TheVariants as sums
use Rattle.herm_syntax.specs.declared.expressions.UnaryOp.{UnaryOp}
use Rattle.herm_syntax.specs.declared.expressions.UnaryOp.TheVariants as signs
use Rattle.herm_syntax.specs.declared.modules.Module.{Module as ModuleForm}
use Rattle.herm_syntax.specs.declared.modules.Module.TheVariants as modules
use Rattle.herm_syntax.specs.declared.statements.Stmt.{Stmt}
use Rattle.herm_syntax.specs.declared.statements.StmtForm.{StmtForm}
use Rattle.herm_syntax.specs.declared.statements.StmtForm.TheBlock as forms
use Rattle.herm_base.specs.declared.word.Name.{Name}
use Rattle.herm_syntax.specs.Symbols.{Symbol, equal, unequal, less, at_most, greater, at_least, plus, minus, star, ampersand}
use Rattle.herm_syntax.specs.KeywordSymbols.{kw_and, kw_or, kw_not, kw_div, kw_mod}
use Rattle.herm_syntax.specs.Trees.{Letters, Path, Literal, Integer, Text, Boolean, Tag, Atom, Constant, Place, Expression, Chain, Compare, Unary, Operands, NoOperand, Operand, Comparison, NoComparison, With, Primary, Simple, Size, Paren, TextOf, LengthOf, Move, Unite, Dissolve, Wrap, Insert, Connect, Send, Receive, New, Discard, Reveal, Remove, Get, Statement, Assign, Unwrap, Call, Return, ReturnBy, Create, Raise, Leave, Case, For, Select, If, While, Try, Statements, NoStatement, Further, Arms, NoArm, Arm, PortArms, NoPortArm, PortArm, Otherwise, NoElse, Else, Field, Mode, In, Inout, Out, Param, Raising, DeclaredFact, InitFact, FullFact, CaseFact, Shape, Names, Fields, Cases, Rows, Inport, Outport, CallMessage, Item, TypeItem, ExceptionItem, Module, Definitions, Process}
use Rattle.std.specs.Option.{option_map}
use Rattle.herm_syntax.specs.declared.expressions.Unary.{Unary as UnaryForm}

abbrev pub name_view : Name → Letters
name_view n = n.text

abbrev pub path_form_view : PathForm → Path
path_form_view p = map name_view p.parts.items

abbrev pub literal_view : LiteralForm → Literal
literal_view (literals.Int n) = Integer n
literal_view (literals.Text t) = Text t
literal_view (literals.Bool b) = Boolean b
literal_view (literals.Tag name value) = Tag (name_view name) (name_view value)

abbrev pub atom_view : AtomForm → Atom
atom_view (atoms.Literal l) = Constant (literal_view l)
atom_view (atoms.Path p) = Place (path_form_view p)

abbrev pub comp_op_view : CompOp → Symbol
comp_op_view compares.Eq = equal
comp_op_view compares.Ne = unequal
comp_op_view compares.Lt = less
comp_op_view compares.Le = at_most
comp_op_view compares.Gt = greater
comp_op_view compares.Ge = at_least

abbrev pub sum_op_view : SumOp → Symbol
sum_op_view sums.Add = plus
sum_op_view sums.Sub = minus
sum_op_view sums.Cat = ampersand

abbrev pub prod_op_view : ProdOp → Symbol
prod_op_view products.Mul = star
prod_op_view products.Div = kw_div
prod_op_view products.Mod = kw_mod

abbrev pub unary_op_view : UnaryOp → Symbol
unary_op_view signs.Neg = minus
unary_op_view signs.Not = kw_not

abbrev mutual
  pub expr_view : Expr → Expression
  expr_view (expressions.struct-Expr first shape rest) = Chain (conj_view first) (conjs_view rest)

  pub conjs_view : {m : _} → expressions.Row_of-Conj m → Operands
  conjs_view expressions.end_of-Conj = NoOperand
  conjs_view (expressions.more_of-Conj c rest) = Operand kw_or (conj_view c) (conjs_view rest)

  pub conj_view : Conj → Expression
  conj_view (expressions.struct-Conj first shape rest) = Chain (comp_view first) (comps_view rest)

  pub comps_view : {m : _} → expressions.Row_of-Comp m → Operands
  comps_view expressions.end_of-Comp = NoOperand
  comps_view (expressions.more_of-Comp c rest) = Operand kw_and (comp_view c) (comps_view rest)

  pub comp_view : Comp → Expression
  comp_view (expressions.struct-Comp left right) = Compare (sum_view left) (compared_view right)

  pub compared_view : expressions.Held-Comp-right → Comparison
  compared_view expressions.None' = NoComparison
  compared_view (expressions.Some' operator pointer right) = With (comp_op_view operator) (sum_view right)

  pub sum_view : Sum → Expression
  sum_view (expressions.struct-Sum first shape rest) = Chain (prod_view first) (prods_view rest)

  pub prods_view : {m : _} → expressions.Row_of-Sum-rest-2 m → Operands
  prods_view expressions.end_of-Sum-rest-2 = NoOperand
  prods_view (expressions.more_of-Sum-rest-2 operator p rest) = Operand (sum_op_view operator) (prod_view p) (prods_view rest)

  pub prod_view : Prod → Expression
  prod_view (expressions.struct-Prod operator p shape rest) = Chain (Unary (option_map unary_op_view operator) (primary_view p)) (unaries_view rest)

  pub unaries_view : {m : _} → expressions.Row_of-Prod-rest-2 m → Operands
  unaries_view expressions.end_of-Prod-rest-2 = NoOperand
  unaries_view (expressions.more_of-Prod-rest-2 operator s p rest) = Operand (prod_op_view operator) (Unary (option_map unary_op_view s) (primary_view p)) (unaries_view rest)

  pub primary_view : PrimaryForm → Primary
  primary_view (expressions.Literal l) = Simple (Constant (literal_view l))
  primary_view (expressions.Path p) = Simple (Place (path_form_view p))
  primary_view (expressions.Paren' pointer e) = Paren (expr_view e)
  primary_view (expressions.Size p) = Size (path_form_view p)
  primary_view (expressions.Text' pointer e) = TextOf (expr_view e)
  primary_view (expressions.Length' pointer e) = LengthOf (expr_view e)

abbrev mutual
  pub stmt_form_view : StmtForm → Statement
  stmt_form_view (forms.Assign x e) = Assign (path_form_view x) (expr_view e)
  stmt_form_view (forms.Move y x) = Move (path_form_view y) (path_form_view x)
  stmt_form_view (forms.New x) = New (path_form_view x)
  stmt_form_view (forms.Discard x) = Discard (path_form_view x)
  stmt_form_view (forms.Unite v y) = Unite (path_form_view v) (path_form_view y)
  stmt_form_view (forms.Dissolve v y) = Dissolve (path_form_view v) (path_form_view y)
  stmt_form_view (forms.Reveal v) = Reveal (path_form_view v)
  stmt_form_view (forms.Case' v shape arms) = Case (path_form_view v) (arms_view arms)
  stmt_form_view (forms.Wrap y p) = Wrap (path_form_view y) (path_form_view p)
  stmt_form_view (forms.Unwrap p name y) = Unwrap (path_form_view p) (name_view name) (path_form_view y)
  stmt_form_view (forms.Insert r t) = Insert (path_form_view r) (path_form_view t)
  stmt_form_view (forms.Remove r t keys) = Remove (path_form_view r) (path_form_view t) (map atom_view keys.items)
  stmt_form_view (forms.Get r t keys) = Get (path_form_view r) (path_form_view t) (map atom_view keys.items)
  stmt_form_view (forms.For' r t shape body) = For (path_form_view r) (path_form_view t) (stmt_rows_view body)
  stmt_form_view (forms.Connect o i) = Connect (path_form_view o) (path_form_view i)
  stmt_form_view (forms.Send x o) = Send (path_form_view x) (path_form_view o)
  stmt_form_view (forms.Receive x i) = Receive (path_form_view x) (path_form_view i)
  stmt_form_view (forms.Select' shape arms) = Select (port_arms_view arms)
  stmt_form_view (forms.Call o arguments) = Call (path_form_view o) (map atom_view arguments.items)
  stmt_form_view (forms.Return m) = Return (path_form_view m)
  stmt_form_view (forms.ReturnBy m name) = ReturnBy (path_form_view m) (name_view name)
  stmt_form_view (forms.Create o name) = Create (path_form_view o) (name_view name)
  stmt_form_view (forms.If' e shape body other) = If (expr_view e) (stmt_rows_view body) (otherwise_view other)
  stmt_form_view (forms.While' e shape body) = While (expr_view e) (stmt_rows_view body)
  stmt_form_view (forms.Raise name) = Raise (name_view name)
  stmt_form_view forms.Leave = Leave
  stmt_form_view (forms.Try' shape body shape_of_handlers handled) = Try (stmt_rows_view body) (arms_view handled)

  pub stmt_rows_view : {m : _} → forms.Row_of-Stmt m → Statements
  stmt_rows_view forms.end_of-Stmt = NoStatement
  stmt_rows_view (forms.more_of-Stmt number span form rest) = Further (stmt_form_view form) (stmt_rows_view rest)

  pub arms_view : {m : _} → forms.Row_of-StmtForm-Case-1-3 m → Arms
  arms_view forms.end_of-StmtForm-Case-1-3 = NoArm
  arms_view (forms.more_of-StmtForm-Case-1-3 name shape body rest) = Arm (name_view name) (stmt_rows_view body) (arms_view rest)

  pub port_arms_view : {m : _} → forms.Row_of-StmtForm-Select-0-4 m → PortArms
  port_arms_view forms.end_of-StmtForm-Select-0-4 = NoPortArm
  port_arms_view (forms.more_of-StmtForm-Select-0-4 port target shape body rest) = PortArm (path_form_view port) (path_form_view target) (stmt_rows_view body) (port_arms_view rest)

  pub otherwise_view : forms.Held-StmtForm-If-2 → Otherwise
  otherwise_view forms.None' = NoElse
  otherwise_view (forms.Some' shape body) = Else (stmt_rows_view body)

-- The statements of a process.
abbrev pub stmts_view : List Stmt → Statements
stmts_view [] = NoStatement
stmts_view (s ∷ rest) = Further (stmt_form_view s.form) (stmts_view rest)

abbrev pub field_view : FieldForm → Field
field_view f = (name_view f.name, name_view f.of)

abbrev pub mode_form_view : ModeForm → Mode
mode_form_view modes.In = In
mode_form_view modes.Inout = Inout
mode_form_view modes.Out = Out

abbrev pub param_form_view : ParamForm → Param
param_form_view p = (mode_form_view p.mode, field_view p.field)

abbrev pub raise_form_view : RaiseForm → Raising
raise_form_view r = (name_view r.name, map name_view r.keeps.items)

abbrev pub dfact_view : DFact → DeclaredFact
dfact_view (facts.Init p) = InitFact (map name_view p.items)
dfact_view (facts.Full p) = FullFact (map name_view p.items)
dfact_view (facts.Case p component) = CaseFact (map name_view p.items) (name_view component)

abbrev pub shape_form_view : ShapeForm → Shape
shape_form_view (shapes.Names names) = Names (map name_view names.items)
shape_form_view (shapes.Fields fs) = Fields (map field_view fs.items)
shape_form_view (shapes.Cases fs) = Cases (map field_view fs.items)
shape_form_view (shapes.Rows row keys) = Rows (name_view row) (map name_view keys.items)
shape_form_view (shapes.Inport message fs) = Inport (name_view message) (map dfact_view fs.items)
shape_form_view (shapes.Outport port) = Outport (name_view port)
shape_form_view (shapes.CallMessage params raises) = CallMessage (map param_form_view params.items) (map raise_form_view raises.items)

abbrev pub def_form_view : Letters → DefForm → Item
def_form_view name (items.Shaped shape) = TypeItem name (shape_form_view shape)
def_form_view name items.Exception = ExceptionItem name

abbrev pub def_item_view : DefItem → Item
def_item_view i = def_form_view (name_view i.name) i.form

abbrev pub module_view : ModuleForm → Module
module_view (modules.Definitions name list) = Definitions (name_view name) (map def_item_view list.items)
module_view (modules.Process name port vars body) = Process (name_view name) (field_view port) (map field_view vars.items) (stmts_view body.items)

-- An operand with its sign.
abbrev pub unary_view : UnaryForm → Expression
unary_view u = Unary (option_map unary_op_view u.op) (primary_view u.primary)
