-- The value of an expression, and of the atoms of keys and arguments.
use Rattle.std.specs.Prelude.{ℕ, List, [], ◌∷◌, ◌++◌, Bool, true, false, cond, not, ◌&&◌, ◌||◌, ℤ, pos, ◌+ℤ◌, ◌-ℤ◌, ◌*ℤ◌, neg_ℤ, int_lt, int_le, int_div, int_rem, nat_eq, nat_lt, nat_le, length, Option, Some, None}
use Rattle.herm_model.specs.Expressions.{Literal, Operator, logical_or, logical_and, equal, unequal, less, at_most, greater, at_least, plus, minus, times, divided, modulo, concatenated, Expression, literal, copy, negation, logical_not, operation, decimal, length_of, Atom, path}
use Rattle.herm_model.specs.Values.{Scalar, a_boolean, an_integer, a_text, a_tag, Kind, a_scalar, a_table, Cell, cell, Parts, no_parts, read_at, Value}
use Rattle.herm_model.specs.CellNames.{forget}
use Rattle.herm_model.specs.Values
use Rattle.herm_model.specs.Tables.{same_scalar, same_integer}
use Rattle.herm_model.specs.Typed.{is_integer, greatest_text}
use Rattle.herm_model.specs.ValueTexts.{signed_numeral}
use Rattle.herm_model.specs.Outcomes.{overflow, depletion}

-- What an evaluation comes to: a value, or an exception. There is no value only where an operand is not there or not of
-- its type. Language reference, "Expressions".
pub data Evaluated : Type 0 where
  gives : Value → Evaluated
  raises : (exception : ℕ) → Evaluated
  no_value : Evaluated

-- a value of one cell
abbrev pub scalar_value : Scalar → Value
scalar_value s = cell tt (a_scalar s) no_parts

abbrev pub gives_scalar : Scalar → Evaluated
gives_scalar s = gives (scalar_value s)

-- on with the scalar that a value is
abbrev pub scalar_then : {N : Type 0} → (Scalar → Evaluated) → Cell N → Evaluated
scalar_then f (cell n (a_scalar s) ps) = f s
scalar_then f (cell n k ps) = no_value

-- on with the scalar that an evaluation gives
abbrev pub one_then : (Scalar → Evaluated) → Evaluated → Evaluated
one_then f (gives v) = scalar_then f v
one_then f (raises e) = raises e
one_then f no_value = no_value

-- On with both. The left operand's exception comes first. Language reference, "Expressions".
abbrev pub two_then : (Scalar → Scalar → Evaluated) → Evaluated → Evaluated → Evaluated
two_then f (gives v) right = scalar_then (λ s. one_then (f s) right) v
two_then f (raises e) right = raises e
two_then f no_value right = no_value

abbrev pub boolean_then : (Bool → Evaluated) → Scalar → Evaluated
boolean_then f (a_boolean b) = f b
boolean_then f s = no_value

abbrev pub integer_then : (ℤ → Evaluated) → Scalar → Evaluated
integer_then f (an_integer z) = f z
integer_then f s = no_value

abbrev pub text_then : (List ℕ → Evaluated) → Scalar → Evaluated
text_then f (a_text bytes) = f bytes
text_then f s = no_value

abbrev pub gives_boolean : Bool → Evaluated
gives_boolean b = gives_scalar (a_boolean b)

-- the number, or Overflow where it is outside the 64 bits; Language reference, "Exceptions"
abbrev pub within_bits : ℤ → Evaluated
within_bits z = cond (is_integer z) (gives_scalar (an_integer z)) (raises overflow)

-- Overflow where the divisor is 0
abbrev pub by_divisor : (ℤ → ℤ → ℤ) → ℤ → ℤ → Evaluated
by_divisor f y z = cond (same_integer z (pos 0)) (raises overflow) (within_bits (f y z))

-- the string, or Depletion where it is too long
abbrev pub within_length : List ℕ → Evaluated
within_length bytes = cond (nat_le (length bytes) greatest_text) (gives_scalar (a_text bytes)) (raises depletion)

-- the first string comes before the second, byte by byte
abbrev pub is_before : List ℕ → List ℕ → Bool
is_before s [] = false
is_before [] (b ∷ t) = true
is_before (a ∷ s) (b ∷ t) = nat_lt a b || (nat_eq a b && is_before s t)

-- two numbers, or two strings, by an order of each
abbrev pub compared : (ℤ → ℤ → Bool) → (List ℕ → List ℕ → Bool) → Scalar → Scalar → Evaluated
compared f g (an_integer y) right = integer_then (λ z. gives_boolean (f y z)) right
compared f g (a_text s) right = text_then (λ t. gives_boolean (g s t)) right
compared f g left right = no_value

abbrev pub on_booleans : (Bool → Bool → Bool) → Scalar → Scalar → Evaluated
on_booleans f left right = boolean_then (λ a. boolean_then (λ b. gives_boolean (f a b)) right) left

abbrev pub on_integers : (ℤ → ℤ → Evaluated) → Scalar → Scalar → Evaluated
on_integers f left right = integer_then (λ y. integer_then (f y) right) left

abbrev pub on_texts : (List ℕ → List ℕ → Evaluated) → Scalar → Scalar → Evaluated
on_texts f left right = text_then (λ s. text_then (f s) right) left

-- What an operator gives. `div` rounds toward zero, and `a mod b` is `a - b * (a div b)`.
-- Language reference, "Expressions".
abbrev pub operate : Operator → Scalar → Scalar → Evaluated
operate logical_or = on_booleans ◌||◌
operate logical_and = on_booleans ◌&&◌
operate equal = λ a b. gives_boolean (same_scalar a b)
operate unequal = λ a b. gives_boolean (not (same_scalar a b))
operate less = compared int_lt is_before
operate at_most = compared int_le (λ s t. not (is_before t s))
operate greater = compared (λ y z. int_lt z y) (λ s t. is_before t s)
operate at_least = compared (λ y z. int_le z y) (λ s t. not (is_before s t))
operate plus = on_integers (λ y z. within_bits (y +ℤ z))
operate minus = on_integers (λ y z. within_bits (y -ℤ z))
operate times = on_integers (λ y z. within_bits (y *ℤ z))
operate divided = on_integers (by_divisor int_div)
operate modulo = on_integers (by_divisor int_rem)
operate concatenated = on_texts (λ s t. within_length (s ++ t))

abbrev pub scalar_of : Literal → Scalar
scalar_of (Literal.boolean b) = a_boolean b
scalar_of (Literal.integer z) = an_integer z
scalar_of (Literal.text bytes) = a_text bytes
scalar_of (Literal.tag type place) = a_tag place

-- the value at a path, which may pass through components
abbrev pub value_there : {N : Type 0} → Option (Cell N) → Evaluated
value_there None = no_value
value_there (Some c) = gives (forget c)

-- the number of rows of a table
abbrev pub rows_there : {N : Type 0} → Option (Cell N) → Evaluated
rows_there None = no_value
rows_there (Some (cell n a_table rows)) = gives_scalar (an_integer (pos (Values.size rows)))
rows_there (Some (cell n k ps)) = no_value

-- What an expression comes to, where the variables have these values. Operands are evaluated from left to right.
-- Language reference, "Expressions".
abbrev pub evaluate : {N : Type 0} → Parts N → Expression → Evaluated
evaluate ps (literal l) = gives_scalar (scalar_of l)
evaluate ps (copy p) = value_there (read_at p ps)
evaluate ps (negation e) = one_then (integer_then (λ z. within_bits (neg_ℤ z))) (evaluate ps e)
evaluate ps (logical_not e) = one_then (boolean_then (λ b. gives_boolean (not b))) (evaluate ps e)
evaluate ps (operation o left right) = two_then (operate o) (evaluate ps left) (evaluate ps right)
evaluate ps (Expression.size_of p) = rows_there (read_at p ps)
evaluate ps (decimal e) = one_then (integer_then (λ z. gives_scalar (a_text (signed_numeral z)))) (evaluate ps e)
evaluate ps (length_of e) = one_then (text_then (λ bytes. gives_scalar (an_integer (pos (length bytes))))) (evaluate ps e)

-- the value of an atom
abbrev pub atom_value : {N : Type 0} → Parts N → Atom → Evaluated
atom_value ps (Atom.literal l) = gives_scalar (scalar_of l)
atom_value ps (path p) = value_there (read_at p ps)

-- a key in front of more; none where one of its scalars is missing
abbrev pub key_then : {N : Type 0} → Cell N → Option (List Scalar) → Option (List Scalar)
key_then (cell n (a_scalar s) ps) (Some key) = Some (s ∷ key)
key_then c key = None

abbrev pub key_of_value : Evaluated → Option (List Scalar) → Option (List Scalar)
key_of_value (gives v) key = key_then v key
key_of_value (raises e) key = None
key_of_value no_value key = None

-- the scalars of a key that is written as atoms
abbrev pub key_values : {N : Type 0} → Parts N → List Atom → Option (List Scalar)
key_values ps [] = Some []
key_values ps (a ∷ atoms) = key_of_value (atom_value ps a) (key_values ps atoms)
