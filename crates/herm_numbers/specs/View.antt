-- The scope of the code as the definitions have it.
use Rattle.std.specs.Prelude.{ℕ, ◌<◌, ◌^◌, List, map, length, Option, Some, None, option_map, slice_get, ◌≡◌}
use Rattle.herm_base.specs.declared.numbers.TypeNo.{TypeNo}
use Rattle.herm_syntax.specs.Trees.{Letters}
use Rattle.herm_meaning.specs.Names.{NamedTable, IsWellNamed}
use Rattle.herm_naming.specs.Numbers as numbers
use Rattle.herm_model.specs.Expressions.{Expression, Operator, logical_or, logical_and}
use Rattle.herm_syntax.specs.declared.expressions.Unary.{Unary}
use Rattle.herm_syntax.specs.View.{unary_op_view, primary_view, prod_view, comp_view, conj_view}
use Rattle.herm_syntax.specs.declared.expressions.ProdOp.{ProdOp}
use Rattle.herm_syntax.specs.declared.expressions.SumOp.{SumOp}
use Rattle.herm_syntax.specs.declared.expressions.Prod.{Prod}
use Rattle.herm_syntax.specs.declared.expressions.Comp.{Comp}
use Rattle.herm_syntax.specs.declared.expressions.Conj.{Conj}
use Rattle.herm_typed.specs.declared.expressions.TypedUnary.{TypedUnary}
use Rattle.herm_typed.specs.declared.expressions.TypedProd.{TypedProd}
use Rattle.herm_typed.specs.declared.expressions.TypedComp.{TypedComp}
use Rattle.herm_typed.specs.declared.expressions.TypedConj.{TypedConj}
use Rattle.herm_typed.specs.View.{typed_sum_op_view, typed_prod_op_view, typed_conj_view, typed_comp_view, typed_prod_view, typed_unary_view}
use Rattle.herm_numbers.specs.declared.scope.Scope.{Scope}

abbrev pub scope_view : Scope → numbers.Scope
scope_view s = record {
  known = s.types.now;
  variables = s.variables;
  types = map (λ t. t.0) s.of.items;
  processes = s.processes.now;
  ports = map (λ t. t.0) s.ports.now;
}

-- the number of a type, or the one behind the last where the type is not known
abbrev pub number_of : NamedTable → Option ℕ → ℕ
number_of known None = length known.shapes
number_of known (Some t) = t

abbrev pub kind : Option TypeNo → Option ℕ
kind t = option_map (λ t. t.0) t

-- a table whose types each have their names of parts, and whose numbers of types and of parts are of 32 bits
pub record IsSized (known : NamedTable) : Type 0 where
  pub named : length known.names ≡ length known.shapes
  pub each : length known.parts ≡ length known.shapes
  pub few : length known.shapes < 2 ^ 32
  pub few_exceptions : length known.exceptions < 2 ^ 32
  pub few_parts : (t : ℕ) (names : List Letters) → slice_get known.parts t ≡ Some names → length names < 2 ^ 32

-- an operand with its sign
abbrev pub unary_number : numbers.Scope → Unary → Expression
unary_number s u = numbers.signed (option_map unary_op_view u.op) (numbers.primary_number s (primary_view u.primary))

-- operands behind their operators: of the typed trees, and of the grammar's trees by number
abbrev pub behind_product : ProdOp × TypedUnary → Operator × Expression
behind_product o = (typed_prod_op_view o.0, typed_unary_view o.1)

abbrev pub behind_sum : SumOp × TypedProd → Operator × Expression
behind_sum o = (typed_sum_op_view o.0, typed_prod_view o.1)

abbrev pub behind_and : TypedComp → Operator × Expression
behind_and o = (logical_and, typed_comp_view o)

abbrev pub behind_or : TypedConj → Operator × Expression
behind_or o = (logical_or, typed_conj_view o)

abbrev pub product_number : numbers.Scope → ProdOp × Unary → Operator × Expression
product_number s o = (typed_prod_op_view o.0, unary_number s o.1)

abbrev pub sum_number : numbers.Scope → SumOp × Prod → Operator × Expression
sum_number s o = (typed_sum_op_view o.0, numbers.expression_number s (prod_view o.1))

abbrev pub and_number : numbers.Scope → Comp → Operator × Expression
and_number s o = (logical_and, numbers.expression_number s (comp_view o))

abbrev pub or_number : numbers.Scope → Conj → Operator × Expression
or_number s o = (logical_or, numbers.expression_number s (conj_view o))

-- a scope whose numbers are of 32 bits, over a table that keeps the rules of definitions
pub record IsKnown (s : Scope) : Type 0 where
  pub sized : IsSized s.types.now
  pub well : IsWellNamed s.types.now
  pub few : length s.variables < 2 ^ 32
  pub exceptions : s.exceptions.now ≡ s.types.now.exceptions
  pub processes : length s.processes.now < 2 ^ 32
  pub alike : length s.processes.now ≡ length s.ports.now
