-- Typed expressions: which operands each operation takes, and the type of what it gives.
use Rattle.std.specs.Prelude.{ℕ, Bool, true, false, ◌&&◌, ◌||◌, List, [], ◌∷◌, Option, Some, None, slice_get, nat_lt, IsTrue, IsFalse, ◌≡◌}
use Rattle.herm_model.specs.Lists.{map_or}
use Rattle.herm_model.specs.Paths.{Path}
use Rattle.herm_model.specs.Types.{Mode, by_in, by_inout, by_out, TypeTable, Shape, boolean, integer, text, names, rows, callmessage, part_of, is_variant, type_at}
use Rattle.herm_model.specs.Copyable.{IsCopyable}
use Rattle.herm_model.specs.Expressions.{Literal, Operator, logical_or, logical_and, equal, unequal, less, at_most, greater, at_least, plus, minus, times, divided, modulo, concatenated, Expression, literal, copy, negation, logical_not, operation, size_of, decimal, length_of}
use Rattle.herm_model.specs.Typed.{is_integer, is_text}

abbrev pub is_boolean_shape : Shape → Bool
is_boolean_shape boolean = true
is_boolean_shape s = false

abbrev pub is_integer_shape : Shape → Bool
is_integer_shape integer = true
is_integer_shape s = false

abbrev pub is_text_shape : Shape → Bool
is_text_shape text = true
is_text_shape s = false

-- booleans, integers, strings and enumerations
abbrev pub is_scalar_shape : Shape → Bool
is_scalar_shape boolean = true
is_scalar_shape integer = true
is_scalar_shape text = true
is_scalar_shape (names count) = true
is_scalar_shape s = false

-- what has an order: integers and strings
abbrev pub is_ordered_shape : Shape → Bool
is_ordered_shape integer = true
is_ordered_shape text = true
is_ordered_shape s = false

-- whether an operator takes operands of a type of this shape; Language reference, "Expressions"
abbrev pub takes : Operator → Shape → Bool
takes logical_or = is_boolean_shape
takes logical_and = is_boolean_shape
takes equal = is_scalar_shape
takes unequal = is_scalar_shape
takes less = is_ordered_shape
takes at_most = is_ordered_shape
takes greater = is_ordered_shape
takes at_least = is_ordered_shape
takes plus = is_integer_shape
takes minus = is_integer_shape
takes times = is_integer_shape
takes divided = is_integer_shape
takes modulo = is_integer_shape
takes concatenated = is_text_shape

-- the shape of what an operator gives; Language reference, "Expressions"
abbrev pub shape_given : Operator → Shape
shape_given logical_or = boolean
shape_given logical_and = boolean
shape_given equal = boolean
shape_given unequal = boolean
shape_given less = boolean
shape_given at_most = boolean
shape_given greater = boolean
shape_given at_least = boolean
shape_given plus = integer
shape_given minus = integer
shape_given times = integer
shape_given divided = integer
shape_given modulo = integer
shape_given concatenated = text

abbrev pub is_out_mode : Mode → Bool
is_out_mode by_in = false
is_out_mode by_inout = false
is_out_mode by_out = true

-- the part at a place is a parameter that the caller does not fill
abbrev pub is_out_parameter : Shape → ℕ → Bool
is_out_parameter (callmessage ps raises) i = map_or false (λ p. is_out_mode p.mode) (slice_get ps i)
is_out_parameter s i = false

abbrev pub is_out_part : TypeTable → Option ℕ → ℕ → Bool
is_out_part table None i = false
is_out_part table (Some t) i = map_or false (λ s. is_out_parameter s i) (slice_get table t)

-- whether some step is to an `out` parameter anywhere behind a component
abbrev pub enters_out : TypeTable → Bool → Option ℕ → List ℕ → Bool
enters_out table behind t [] = false
enters_out table behind t (i ∷ p) = (behind && is_out_part table t i) || enters_out table (behind || is_variant table t) (part_of table t i) p

abbrev pub passes_out : TypeTable → List ℕ → Path → Bool
passes_out table variables [] = false
passes_out table variables (v ∷ p) = enters_out table false (slice_get variables v) p

module _ (table : TypeTable) where
  -- the type has this shape
  abbrev pub HasShape : ℕ → Shape → Type 0
  HasShape t s = slice_get table t ≡ Some s

  -- A literal is a truth value, a number of 64 bits, a string of the bytes and the length that strings have, or a name of
  -- its own enumeration. Language reference, "Expressions".
  abbrev pub IsLiteralOf : Literal → ℕ → Type 0
  IsLiteralOf (Literal.boolean b) t = HasShape t boolean
  IsLiteralOf (Literal.integer z) t = HasShape t integer × IsTrue (is_integer z)
  IsLiteralOf (Literal.text bytes) t = HasShape t text × IsTrue (is_text bytes)
  IsLiteralOf (Literal.tag type place) t = (t ≡ type) × (count : ℕ) × HasShape t (names count) × IsTrue (nat_lt place count)

  module _ (variables : List ℕ) where
    -- The path has the type. No path has an `out` parameter behind a component, since none is there in a full value.
    -- Language reference, "Paths".
    abbrev pub IsPathOf : Path → ℕ → Type 0
    IsPathOf p t = (type_at table variables p ≡ Some t) × IsFalse (passes_out table variables p)

    -- The expression has the type, where the variables have these types. Language reference, "Expressions".
    abbrev pub IsTyped : Expression → ℕ → Type 0
    -- a literal of the type
    IsTyped (literal l) t = IsLiteralOf l t
    -- a copy of what is at a path of the type, which is copyable
    IsTyped (copy p) t = IsPathOf p t × IsCopyable table t
    -- the minus of an integer, and `not` of a boolean
    IsTyped (negation e) t = HasShape t integer × (u : ℕ) × HasShape u integer × IsTyped e u
    IsTyped (logical_not e) t = HasShape t boolean × (u : ℕ) × HasShape u boolean × IsTyped e u
    -- an operator on two operands of one type that it takes
    IsTyped (operation o left right) t = HasShape t (shape_given o) × (u : ℕ) × (s : Shape) × HasShape u s × IsTrue (takes o s) × IsTyped left u × IsTyped right u
    -- the size of a table
    IsTyped (size_of p) t = HasShape t integer × (u : ℕ) × (row : ℕ) × (key : List ℕ) × IsPathOf p u × HasShape u (rows row key)
    -- the text of an integer, and the length of a string
    IsTyped (decimal e) t = HasShape t text × (u : ℕ) × HasShape u integer × IsTyped e u
    IsTyped (length_of e) t = HasShape t integer × (u : ℕ) × HasShape u text × IsTyped e u
