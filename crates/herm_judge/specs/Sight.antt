-- What is found of an expression: whether its names are there, its types fit, what it copies may be copied; and the type that it
-- gives.
use Rattle.std.specs.Prelude.{ℕ, Bool, true, ◌&&◌, List, [], ◌∷◌, Option, Some, None}
use Rattle.herm_model.specs.Lists.{all_pass}
use Rattle.herm_model.specs.Types.{TypeTable}
use Rattle.herm_model.specs.Expressions.{Operator, Expression, paths_read}
use Rattle.herm_model.specs.TypedExpressions.{is_boolean_shape, is_integer_shape, takes, shape_given}
use Rattle.herm_model.specs.tests.TypingTests.{number_of_shape}
use Rattle.herm_naming.specs.Fits.{may_be, may_equal, gives, is_fit}
use Rattle.herm_naming.specs.UnknownNames.{is_there, is_literal_there, literals_in}
use Rattle.herm_naming.specs.Copies.{copied, may_copy_each}
use Rattle.herm_syntax.specs.declared.expressions.UnaryOp.{UnaryOp}
use Rattle.herm_syntax.specs.declared.expressions.UnaryOp.TheVariants.{Neg, Not}
use Rattle.herm_judge.specs.declared.sight.Seen.{Seen}
use Rattle.herm_judge.specs.View.{kind}

pub record Sight : Type 0 where
  pub there : Bool
  pub literals : Bool
  pub fits : Bool
  pub copies : Bool
  pub gives : Option ℕ

abbrev pub seen_view : Seen → Sight
seen_view s = record { there = s.there; literals = s.literals; fits = s.fits; copies = s.copies; gives = kind s.gives }

-- what the definitions say of an expression
abbrev pub sight : TypeTable → List ℕ → Expression → Sight
sight table types e = record {
  there = all_pass (is_there table types) (paths_read e);
  literals = all_pass (is_literal_there table) (literals_in e);
  fits = is_fit table types e;
  copies = may_copy_each table types (copied e);
  gives = gives table types e;
}

-- of two operands with an operator between them
abbrev pub operated : TypeTable → Operator → Sight → Sight → Sight
operated table o a b = record {
  there = a.there && b.there;
  literals = a.literals && b.literals;
  fits = (may_be table (takes o) a.gives && may_be table (takes o) b.gives) && (may_equal table a.gives b.gives && (a.fits && b.fits));
  copies = a.copies && b.copies;
  gives = Some (number_of_shape (shape_given o));
}

-- of further operands, each behind its operator, taken from the left
abbrev pub operated_each : TypeTable → Sight → List (Operator × Sight) → Sight
operated_each table a [] = a
operated_each table a (o ∷ os) = operated_each table (operated table o.0 a o.1) os

-- of an operand behind a sign
abbrev pub signed_by : TypeTable → UnaryOp → Sight → Sight
signed_by table Neg a = record a { fits = may_be table is_integer_shape a.gives && a.fits; gives = Some 1 }
signed_by table Not a = record a { fits = may_be table is_boolean_shape a.gives && a.fits; gives = Some 0 }

abbrev pub signed : TypeTable → Option UnaryOp → Sight → Sight
signed table None a = a
signed table (Some sign) a = signed_by table sign a
