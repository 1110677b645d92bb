-- The types beside the paths of typed trees, in the order of the text, and that they are those of the values at the paths.
use Rattle.std.specs.Prelude.{◌≡◌, ℕ, List, [], ◌∷◌, ◌++◌, map, flat_map, Some, Vec}
use Rattle.std.specs.Global.{Global}
use Rattle.herm_model.specs.Lists.{IsIn, list_of}
use Rattle.herm_model.specs.Paths.{Path}
use Rattle.herm_model.specs.Types.{TypeTable, type_at}
use Rattle.herm_model.specs.Statements.{Form, Unite, Dissolve, Reveal, Case, Statement}
use Rattle.herm_naming.specs.UnknownNames.{paths_named}
use Rattle.herm_typed.specs.declared.expressions.TypedAtom.{TypedAtom}
use Rattle.herm_typed.specs.declared.expressions.TypedAtom.TheVariants as atoms
use Rattle.herm_typed.specs.declared.expressions.TypedExpr.{TypedExpr}
use Rattle.herm_typed.specs.declared.expressions.TypedConj.{TypedConj}
use Rattle.herm_typed.specs.declared.expressions.TypedComp.{TypedComp}
use Rattle.herm_typed.specs.declared.expressions.TypedSum.{TypedSum}
use Rattle.herm_typed.specs.declared.expressions.TypedProd.{TypedProd}
use Rattle.herm_typed.specs.declared.expressions.TypedUnary.{TypedUnary}
use Rattle.herm_typed.specs.declared.expressions.TypedPrimary.{TypedPrimary}
use Rattle.herm_typed.specs.declared.expressions.TypedPrimary.TheBlock as expressions
use Rattle.herm_typed.specs.declared.expressions.TypedPath.{TypedPath}
use Rattle.herm_typed.specs.declared.statements.TypedStmt.{TypedStmt}
use Rattle.herm_typed.specs.declared.statements.TypedForm.{TypedForm}
use Rattle.herm_typed.specs.declared.statements.TypedForm.TheBlock as forms
use Rattle.herm_typed.specs.declared.statements.TypedProcess.{TypedProcess}
use Rattle.herm_typed.specs.View.{form_of_statement, typed_form_view}
use Rattle.herm_typed.specs.Within.{all_statements}

abbrev mutual
  pub expr_types : TypedExpr → List ℕ
  expr_types (expressions.struct-TypedExpr first shape rest) = conj_types first ++ conjs_types rest

  pub conjs_types : {m : _} → expressions.Row_of-TypedConj m → List ℕ
  conjs_types expressions.end_of-TypedConj = []
  conjs_types (expressions.more_of-TypedConj c rest) = conj_types c ++ conjs_types rest

  pub conj_types : TypedConj → List ℕ
  conj_types (expressions.struct-TypedConj first shape rest) = comp_types first ++ comps_types rest

  pub comps_types : {m : _} → expressions.Row_of-TypedComp m → List ℕ
  comps_types expressions.end_of-TypedComp = []
  comps_types (expressions.more_of-TypedComp c rest) = comp_types c ++ comps_types rest

  pub comp_types : TypedComp → List ℕ
  comp_types (expressions.struct-TypedComp left right) = compared_types right (sum_types left)

  pub compared_types : expressions.Held-TypedComp-right → List ℕ → List ℕ
  compared_types expressions.None' left = left
  compared_types (expressions.Some' operator right) left = left ++ sum_types right

  pub sum_types : TypedSum → List ℕ
  sum_types (expressions.struct-TypedSum first shape rest) = prod_types first ++ prods_types rest

  pub prods_types : {m : _} → expressions.Row_of-TypedSum-rest-2 m → List ℕ
  prods_types expressions.end_of-TypedSum-rest-2 = []
  prods_types (expressions.more_of-TypedSum-rest-2 operator p rest) = prod_types p ++ prods_types rest

  pub prod_types : TypedProd → List ℕ
  prod_types (expressions.struct-TypedProd sign p shape rest) = primary_types p ++ unaries_types rest

  pub unaries_types : {m : _} → expressions.Row_of-TypedProd-rest-2 m → List ℕ
  unaries_types expressions.end_of-TypedProd-rest-2 = []
  unaries_types (expressions.more_of-TypedProd-rest-2 operator sign p rest) = primary_types p ++ unaries_types rest

  pub primary_types : TypedPrimary → List ℕ
  primary_types (expressions.Literal l) = []
  primary_types (expressions.Path p) = p.of.0 ∷ []
  primary_types (expressions.Paren' pointer e) = expr_types e
  primary_types (expressions.Size p) = p.of.0 ∷ []
  primary_types (expressions.Text' pointer e) = expr_types e
  primary_types (expressions.Length' pointer e) = expr_types e

abbrev pub unary_types : TypedUnary → List ℕ
unary_types u = primary_types u.primary

abbrev pub atom_types : TypedAtom → List ℕ
atom_types (atoms.Literal l) = []
atom_types (atoms.Path p) = p.of.0 ∷ []

abbrev pub arm_types : {m : _} → forms.Row_of-TypedForm-Select-0-4 m → List ℕ
arm_types forms.end_of-TypedForm-Select-0-4 = []
arm_types (forms.more_of-TypedForm-Select-0-4 port target shape body rest) = port.of.0 ∷ target.of.0 ∷ arm_types rest

abbrev pub port_arm_types : TypedPath × TypedPath × Vec TypedStmt Global → List ℕ
port_arm_types a = a.0.of.0 ∷ a.1.of.0 ∷ []

-- those of a statement, apart from the statements within it
abbrev pub types_beside : TypedForm → List ℕ
types_beside (forms.Assign x e) = x.of.0 ∷ expr_types e
types_beside (forms.Move y x) = y.of.0 ∷ x.of.0 ∷ []
types_beside (forms.New x) = x.of.0 ∷ []
types_beside (forms.Discard x) = x.of.0 ∷ []
types_beside (forms.Unite v c y) = v.of.0 ∷ y.of.0 ∷ []
types_beside (forms.Dissolve v c y) = v.of.0 ∷ y.of.0 ∷ []
types_beside (forms.Reveal v c) = v.of.0 ∷ []
types_beside (forms.Case' v shape arms) = v.of.0 ∷ []
types_beside (forms.Wrap y p) = y.of.0 ∷ p.of.0 ∷ []
types_beside (forms.Unwrap p t y) = p.of.0 ∷ y.of.0 ∷ []
types_beside (forms.Insert r t) = r.of.0 ∷ t.of.0 ∷ []
types_beside (forms.Remove r t keys) = r.of.0 ∷ t.of.0 ∷ flat_map atom_types keys.items
types_beside (forms.Get r t keys) = r.of.0 ∷ t.of.0 ∷ flat_map atom_types keys.items
types_beside (forms.For' r t shape body) = r.of.0 ∷ t.of.0 ∷ []
types_beside (forms.Connect o i) = o.of.0 ∷ i.of.0 ∷ []
types_beside (forms.Send x o) = x.of.0 ∷ o.of.0 ∷ []
types_beside (forms.Receive x i) = x.of.0 ∷ i.of.0 ∷ []
types_beside (forms.Select' shape arms) = arm_types arms
types_beside (forms.Call o arguments) = o.of.0 ∷ flat_map atom_types arguments.items
types_beside (forms.Return m) = m.of.0 ∷ []
types_beside (forms.ReturnBy m e) = m.of.0 ∷ []
types_beside (forms.Create o n) = o.of.0 ∷ []
types_beside (forms.If' e shape body other) = expr_types e
types_beside (forms.While' e shape body) = expr_types e
types_beside (forms.Raise e) = []
types_beside forms.Leave = []
types_beside (forms.Try' shape body shape_of_handlers handled) = []

-- The paths of a form in the order written. The component behind the path of a variant is no part of it.
abbrev pub paths_written : Form → List Path
paths_written (Unite v c y) = v ∷ y ∷ []
paths_written (Dissolve v c y) = v ∷ y ∷ []
paths_written (Reveal v c) = v ∷ []
paths_written (Case v cs) = v ∷ []
paths_written form = paths_named form

-- those of a statement, apart from the statements within it
abbrev pub own_paths : Statement → List Path
own_paths x = list_of paths_written (form_of_statement x)

-- The types beside the paths of a statement, in order, are those of the values at its paths.
abbrev pub HasTypes : TypeTable → List ℕ → TypedForm → Type 0
HasTypes table variables form = map (type_at table variables) (own_paths (typed_form_view form)) ≡ map Some (types_beside form)

-- so it is at each statement of a process
abbrev pub KnowsTypes : TypeTable → TypedProcess → Type 0
KnowsTypes table p = (t : TypedStmt) → IsIn t (all_statements p.body.items) → HasTypes table (map (λ v. v.of.0) p.vars.items) t.form

-- and at each of each process
abbrev pub KnowTypes : TypeTable → List TypedProcess → Type 0
KnowTypes table ps = (p : TypedProcess) → IsIn p ps → KnowsTypes table p
