-- Where the types of a statement fit, over numbers in place of names. A type that is not known fits everywhere.
-- Language reference, "Types that fit".
use Rattle.std.specs.Prelude.{ℕ, Bool, true, false, not, ◌&&◌, ◌||◌, nat_eq, List, [], ◌∷◌, length, Option, Some, slice_get, option_map, option_and_then}
use Rattle.herm_model.specs.Lists.{all_pass, any_pass, map_or, range, list_of}
use Rattle.herm_model.specs.Paths.{Path}
use Rattle.herm_model.specs.Types.{Mode, by_in, by_inout, by_out, Parameter, Raised, TypeTable, Shape, polymorph, names, fields, cases, rows, inport, outport, callmessage, is_cases, type_at, passes_component}
use Rattle.herm_model.specs.Typed.{is_integer, is_text}
use Rattle.herm_model.specs.Expressions.{Literal, tag, Expression, literal, copy, negation, logical_not, operation, size_of, decimal, length_of, Atom, path}
use Rattle.herm_model.specs.TypedExpressions.{is_boolean_shape, is_integer_shape, is_text_shape, takes, shape_given, passes_out}
use Rattle.herm_model.specs.tests.TypingTests.{number_of_shape}
use Rattle.herm_model.specs.TypedStatements.{can_be_new}
use Rattle.herm_model.specs.TypedPrograms.{is_some_block, is_some_handler}
use Rattle.herm_model.specs.Statements.{Form, Assign, Move, New, Discard, Unite, Dissolve, Reveal, Case, Wrap, Unwrap, Insert, Remove, Get, For, Connect, Send, Receive, Select, Call, Return, ReturnBy, Create, If, While, Raise, Leave, Arm, Statement, simple, choosing, repeating, leaving, trying}

abbrev pub is_polymorph_shape : Shape → Bool
is_polymorph_shape polymorph = true
is_polymorph_shape s = false

abbrev pub is_names_shape : Shape → Bool
is_names_shape (names count) = true
is_names_shape s = false

abbrev pub is_rows_shape : Shape → Bool
is_rows_shape (rows row key) = true
is_rows_shape s = false

abbrev pub is_callmessage_shape : Shape → Bool
is_callmessage_shape (callmessage parameters raises) = true
is_callmessage_shape s = false

-- a variant, and each of its components has an arm
abbrev pub has_every_arm : List ℕ → Shape → Bool
has_every_arm cs (cases ts) = all_pass (λ c. any_pass (nat_eq c) cs) (range 0 (length ts))
has_every_arm cs s = false

-- a callmessage that may raise the exception
abbrev pub may_raise : ℕ → Shape → Bool
may_raise e (callmessage parameters raises) = any_pass (λ (r : Raised). nat_eq e r.exception) raises
may_raise e s = false

-- the types of the fields of a record
abbrev pub field_types : Shape → List ℕ
field_types (fields ts) = ts
field_types s = []

abbrev pub is_in_mode : Mode → Bool
is_in_mode by_in = true
is_in_mode by_inout = false
is_in_mode by_out = false

module _ (table : TypeTable) where
  -- the shape of a type, none where it is not known
  abbrev pub shape_of : Option ℕ → Option Shape
  shape_of t = option_and_then (slice_get table) t

  -- it holds of the type's shape, where the type is known
  abbrev pub may_be : (Shape → Bool) → Option ℕ → Bool
  may_be test t = map_or true test (shape_of t)

  -- the type, where it is known
  abbrev pub when_known : Option ℕ → Option ℕ
  when_known t = option_and_then (λ a. option_map (λ s. a) (slice_get table a)) t

  -- the two are one type, where both are known
  abbrev pub may_equal : Option ℕ → Option ℕ → Bool
  may_equal t u = map_or true (λ a. map_or true (nat_eq a) (when_known u)) (when_known t)

  -- a variant whose component may be of the type
  abbrev pub may_hold : ℕ → Option ℕ → Shape → Bool
  may_hold c t (cases ts) = may_equal (slice_get ts c) t
  may_hold c t s = false

  -- a table of rows of the type
  abbrev pub may_have_rows : Option ℕ → Shape → Bool
  may_have_rows t (rows row key) = may_equal (Some row) t
  may_have_rows t s = false

  -- an outport of the inport type
  abbrev pub may_lead : Option ℕ → Shape → Bool
  may_lead t (outport port) = may_equal (Some port) t
  may_lead t s = false

  -- an inport of messages of the type
  abbrev pub may_give : Option ℕ → Shape → Bool
  may_give t (inport message declared) = may_equal (Some message) t
  may_give t s = false

  -- an outport to an inport of messages of the type
  abbrev pub may_take : Option ℕ → Shape → Bool
  may_take t (outport port) = may_be (may_give t) (Some port)
  may_take t s = false

  -- Literals are of 64 bits and of the strings that there are, and `T#v` is of an enumeration.
  abbrev pub fits_literal : Literal → Bool
  fits_literal (Literal.boolean b) = true
  fits_literal (Literal.integer z) = is_integer z
  fits_literal (Literal.text bytes) = is_text bytes
  fits_literal (tag t i) = may_be is_names_shape (Some t)

  abbrev pub literal_gives : Literal → Option ℕ
  literal_gives (Literal.boolean b) = Some 0
  literal_gives (Literal.integer z) = Some 1
  literal_gives (Literal.text bytes) = Some 2
  literal_gives (tag t i) = Some t

  module _ (types : List ℕ) where
    -- the type of the value at a path
    abbrev pub type_of : Path → Option ℕ
    type_of p = type_at table types p

    -- No path has an `out` parameter behind a component. A path that is set, or whose value leaves, passes through none.
    -- Language reference, "Rules on paths".
    abbrev pub is_seen : Path → Bool
    is_seen p = not (passes_out table types p)

    abbrev pub is_own : Path → Bool
    is_own p = is_seen p && not (passes_component table types p)

    -- the type that an expression gives, whatever its operands are
    abbrev pub gives : Expression → Option ℕ
    gives (literal l) = literal_gives l
    gives (copy p) = type_of p
    gives (negation e) = Some 1
    gives (logical_not e) = Some 0
    gives (operation o left right) = Some (number_of_shape (shape_given o))
    gives (size_of p) = Some 1
    gives (decimal e) = Some 2
    gives (length_of e) = Some 1

    -- All operands fit their operations. Language reference, "Expressions".
    abbrev pub is_fit : Expression → Bool
    is_fit (literal l) = fits_literal l
    is_fit (copy p) = is_seen p
    is_fit (negation e) = may_be is_integer_shape (gives e) && is_fit e
    is_fit (logical_not e) = may_be is_boolean_shape (gives e) && is_fit e
    is_fit (operation o left right) = (may_be (takes o) (gives left) && may_be (takes o) (gives right)) && (may_equal (gives left) (gives right) && (is_fit left && is_fit right))
    is_fit (size_of p) = is_seen p && may_be is_rows_shape (type_of p)
    is_fit (decimal e) = may_be is_integer_shape (gives e) && is_fit e
    is_fit (length_of e) = may_be is_text_shape (gives e) && is_fit e

    abbrev pub atom_gives : Atom → Option ℕ
    atom_gives (Atom.literal l) = literal_gives l
    atom_gives (path p) = type_of p

    abbrev pub is_fit_atom : Atom → Bool
    is_fit_atom (Atom.literal l) = fits_literal l
    is_fit_atom (path p) = is_seen p

    -- One key for each field of the key, of its type, where the fields of the rows have these types.
    abbrev pub are_keys : List ℕ → List ℕ → List Atom → Bool
    are_keys ts [] [] = true
    are_keys ts [] (a ∷ atoms) = false
    are_keys ts (i ∷ key) [] = false
    are_keys ts (i ∷ key) (a ∷ atoms) = may_equal (slice_get ts i) (atom_gives a) && are_keys ts key atoms

    -- a table with such a key
    abbrev pub may_have_keys : List Atom → Shape → Bool
    may_have_keys atoms (rows row key) = are_keys (list_of field_types (slice_get table row)) key atoms
    may_have_keys atoms s = false

    -- An argument has its parameter's type; one of mode `inout` or `out` is a path that is set.
    abbrev pub is_set_atom : Atom → Bool
    is_set_atom (Atom.literal l) = false
    is_set_atom (path p) = is_own p

    abbrev pub is_argument : Parameter → Atom → Bool
    is_argument p a = may_equal (Some p.content) (atom_gives a) && (is_in_mode p.mode || is_set_atom a)

    -- One argument for each parameter.
    abbrev pub are_arguments : List Parameter → List Atom → Bool
    are_arguments [] [] = true
    are_arguments [] (a ∷ atoms) = false
    are_arguments (p ∷ parameters) [] = false
    are_arguments (p ∷ parameters) (a ∷ atoms) = is_argument p a && are_arguments parameters atoms

    -- a callmessage, an inport of one, and an outport to one, with such parameters
    abbrev pub has_parameters : List Atom → Shape → Bool
    has_parameters atoms (callmessage parameters raises) = are_arguments parameters atoms
    has_parameters atoms s = false

    abbrev pub gives_parameters : List Atom → Shape → Bool
    gives_parameters atoms (inport message declared) = may_be (has_parameters atoms) (Some message)
    gives_parameters atoms s = false

    abbrev pub takes_parameters : List Atom → Shape → Bool
    takes_parameters atoms (outport port) = may_be (gives_parameters atoms) (Some port)
    takes_parameters atoms s = false

    -- a message is received at a target of its type
    abbrev pub fits_arm : Arm → Bool
    fits_arm a = (is_own a.target && is_seen a.port) && may_be (may_give (type_of a.target)) (type_of a.port)

    -- The row is of the type of the table's rows.
    abbrev pub fits_row : (row table : Path) → Bool
    fits_row r t = (is_own r && is_seen t) && may_be (may_have_rows (type_of r)) (type_of t)

    abbrev pub fits_keys : (table : Path) → List Atom → Bool
    fits_keys t keys = all_pass is_fit_atom keys && may_be (may_have_keys keys) (type_of t)

    abbrev pub fits_test : Expression → Bool
    fits_test e = is_fit e && may_equal (gives e) (Some 0)

    -- The types of a form fit; `ports` are the types of the processes' ports. Language reference, "Types that fit".
    abbrev pub fits_form : (ports : List ℕ) → Form → Bool
    fits_form ports (Assign x e) = is_own x && (is_fit e && may_equal (type_of x) (gives e))
    fits_form ports (Move y x) = (is_own y && is_own x) && may_equal (type_of y) (type_of x)
    fits_form ports (New x) = is_own x && may_be can_be_new (type_of x)
    fits_form ports (Discard x) = is_own x
    fits_form ports (Unite v c y) = (is_own v && is_own y) && may_be (may_hold c (type_of y)) (type_of v)
    fits_form ports (Dissolve v c y) = (is_own v && is_own y) && may_be (may_hold c (type_of y)) (type_of v)
    fits_form ports (Reveal v c) = is_seen v && may_be is_cases (type_of v)
    fits_form ports (Case v cs) = is_seen v && may_be (has_every_arm cs) (type_of v)
    fits_form ports (Wrap y p) = (is_own y && is_own p) && may_be is_polymorph_shape (type_of p)
    fits_form ports (Unwrap p t y) = (is_own p && is_own y) && (may_be is_polymorph_shape (type_of p) && may_equal (Some t) (type_of y))
    fits_form ports (Insert r t) = fits_row r t
    fits_form ports (Remove r t keys) = fits_row r t && fits_keys t keys
    fits_form ports (Get r t keys) = fits_row r t && fits_keys t keys
    fits_form ports (For r t) = fits_row r t
    fits_form ports (Connect o i) = (is_own o && is_seen i) && may_be (may_lead (type_of i)) (type_of o)
    fits_form ports (Send x o) = (is_own x && is_seen o) && may_be (may_take (type_of x)) (type_of o)
    fits_form ports (Receive x i) = fits_arm (record { target = x; port = i })
    fits_form ports (Select arms) = all_pass fits_arm arms
    fits_form ports (Call o arguments) = (is_seen o && all_pass is_fit_atom arguments) && may_be (takes_parameters arguments) (type_of o)
    fits_form ports (Return m) = is_own m && may_be is_callmessage_shape (type_of m)
    fits_form ports (ReturnBy m e) = is_own m && may_be (may_raise e) (type_of m)
    fits_form ports (Create o n) = is_own o && may_be (may_lead (slice_get ports n)) (type_of o)
    fits_form ports (If e) = fits_test e
    fits_form ports (While e) = fits_test e
    fits_form ports (Raise e) = true
    fits_form ports Leave = true

    -- The types of a statement fit, apart from those of the statements within it; it has an arm or a handler at least.
    abbrev pub fits_statement : (ports : List ℕ) → Statement → Bool
    fits_statement ports (simple f) = fits_form ports f
    fits_statement ports (choosing f blocks) = fits_form ports f && is_some_block blocks
    fits_statement ports (repeating f body) = fits_form ports f
    fits_statement ports leaving = true
    fits_statement ports (trying _ handlers) = is_some_handler handlers
