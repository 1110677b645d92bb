-- Expressions: the paths that they read, and the exceptions that they can raise.
use Rattle.std.specs.Prelude.{ℕ, ℤ, Bool, true, false, ◌||◌, List, [], ◌∷◌, ◌++◌}
use Rattle.herm_model.specs.Paths.{Path}

-- A literal: a truth value, a whole number, a string as its bytes, or a value of an enumeration
-- as the enumeration's type and the value's place in it. Language reference, "Expressions".
pub data Literal : Type 0 where
  boolean : Bool → Literal
  integer : ℤ → Literal
  text : List ℕ → Literal
  tag : (type place : ℕ) → Literal

-- An operator between two operands. Language reference, "Expressions".
pub data Operator : Type 0 where
  logical_or logical_and : Operator
  equal unequal less at_most greater at_least : Operator
  plus minus times divided modulo : Operator
  concatenated : Operator

-- An expression: a literal; a copy of the value at a path; an operator on one operand or on two; the
-- number of rows of the table at a path; the decimal text of a number; the length of a string.
-- Language reference, "Expressions".
pub data Expression : Type 0 where
  literal : Literal → Expression
  copy : Path → Expression
  negation : Expression → Expression
  logical_not : Expression → Expression
  operation : Operator → (left right : Expression) → Expression
  size_of : Path → Expression
  decimal : Expression → Expression
  length_of : Expression → Expression

-- An argument or a key: a literal, or a path, of which it is a copy. Language reference, "Expressions".
pub data Atom : Type 0 where
  literal : Literal → Atom
  path : Path → Atom

-- the paths that an expression reads, in the order in which it is written
abbrev pub paths_read : Expression → List Path
paths_read (literal l) = []
paths_read (copy p) = p ∷ []
paths_read (negation e) = paths_read e
paths_read (logical_not e) = paths_read e
paths_read (operation o left right) = paths_read left ++ paths_read right
paths_read (size_of p) = p ∷ []
paths_read (decimal e) = paths_read e
paths_read (length_of e) = paths_read e

-- the paths among atoms, in order
abbrev pub paths_among : List Atom → List Path
paths_among [] = []
paths_among (Atom.literal l ∷ atoms) = paths_among atoms
paths_among (path p ∷ atoms) = p ∷ paths_among atoms

-- whether an operator's result may lie outside the 64 bits, or have no value
abbrev pub is_arithmetic : Operator → Bool
is_arithmetic logical_or = false
is_arithmetic logical_and = false
is_arithmetic equal = false
is_arithmetic unequal = false
is_arithmetic less = false
is_arithmetic at_most = false
is_arithmetic greater = false
is_arithmetic at_least = false
is_arithmetic plus = true
is_arithmetic minus = true
is_arithmetic times = true
is_arithmetic divided = true
is_arithmetic modulo = true
is_arithmetic concatenated = false

-- whether an operator's result may be longer than a string can be
abbrev pub is_joining : Operator → Bool
is_joining concatenated = true
is_joining _ = false

-- An expression can raise Overflow exactly where it contains arithmetic, the minus of one operand
-- included. Language reference, "Exceptions".
abbrev pub can_overflow : Expression → Bool
can_overflow (literal l) = false
can_overflow (copy p) = false
can_overflow (negation e) = true
can_overflow (logical_not e) = can_overflow e
can_overflow (operation o left right) = is_arithmetic o || (can_overflow left || can_overflow right)
can_overflow (size_of p) = false
can_overflow (decimal e) = can_overflow e
can_overflow (length_of e) = can_overflow e

-- It can raise Depletion exactly where it joins strings. Language reference, "Exceptions".
abbrev pub can_deplete : Expression → Bool
can_deplete (literal l) = false
can_deplete (copy p) = false
can_deplete (negation e) = can_deplete e
can_deplete (logical_not e) = can_deplete e
can_deplete (operation o left right) = is_joining o || (can_deplete left || can_deplete right)
can_deplete (size_of p) = false
can_deplete (decimal e) = can_deplete e
can_deplete (length_of e) = can_deplete e
