-- Which exceptions expressions can raise, operand by operand.
use Rattle.std.specs.Prelude.{true, false, ◌||◌, List, [], ◌∷◌, Option, Some, None}
use Rattle.herm_model.specs.Expressions.{Expression, Operator, operation, is_arithmetic, is_joining, can_overflow, can_deplete}
use Rattle.herm_syntax.specs.declared.expressions.UnaryOp.{UnaryOp}
use Rattle.herm_syntax.specs.declared.expressions.UnaryOp.TheVariants.{Neg, Not}
use Rattle.herm_typed.specs.declared.raises.Raises.{Raises}

abbrev pub none_raised : Raises
none_raised = record { overflow = false; depletion = false }

abbrev pub raised_together : Raises → Raises → Raises
raised_together a b = record { overflow = a.overflow || b.overflow; depletion = a.depletion || b.depletion }

-- together with each of a list
abbrev pub raised_each : Raises → List Raises → Raises
raised_each a [] = a
raised_each a (b ∷ bs) = raised_each (raised_together a b) bs

-- what an operator can raise by itself
abbrev pub raises_by : Operator → Raises
raises_by o = record { overflow = is_arithmetic o; depletion = is_joining o }

-- what an expression can raise
abbrev pub raises_of : Expression → Raises
raises_of e = record { overflow = can_overflow e; depletion = can_deplete e }

-- the minus of one operand can raise what that of two can
abbrev pub raised_by_sign : UnaryOp → Raises → Raises
raised_by_sign Neg a = record a { overflow = true }
raised_by_sign Not a = a

abbrev pub raised_signed : Option UnaryOp → Raises → Raises
raised_signed None a = a
raised_signed (Some sign) a = raised_by_sign sign a

-- what an operand behind an operator adds
abbrev pub raises_behind : Operator → Expression → Raises
raises_behind o e = raised_together (raises_by o) (raises_of e)

-- operands behind operators, taken from the left
abbrev pub chained : Expression → List (Operator × Expression) → Expression
chained left [] = left
chained left (o ∷ os) = chained (operation o.0 left o.1) os
