-- Which names of a statement are there, over the numbers that stand for them. Language reference, "Unknown names".
use Rattle.std.specs.Prelude.{ℕ, Bool, true, false, not, ◌&&◌, ◌||◌, nat_lt, List, [], ◌∷◌, ◌++◌, map, flat_map, length, Option, is_some, slice_get}
use Rattle.herm_model.specs.Lists.{all_pass, map_or}
use Rattle.herm_model.specs.Paths.{Path}
use Rattle.herm_model.specs.Types.{TypeTable, Shape, names, part_of}
use Rattle.herm_model.specs.Expressions.{Literal, boolean, integer, text, tag, Expression, literal, copy, negation, logical_not, operation, size_of, decimal, length_of, Atom, path, paths_read, paths_among}
use Rattle.herm_model.specs.Statements.{Form, Assign, Move, New, Discard, Unite, Dissolve, Reveal, Case, Wrap, Unwrap, Insert, Remove, Get, For, Connect, Send, Receive, Select, Call, Return, ReturnBy, Create, If, While, Raise, Leave, Arm, Statement, simple, choosing, repeating, leaving, trying}
use Rattle.herm_model.specs.TypedPrograms.{handled}

-- The paths that a form names, in the order written. A component is named behind the path to its variant.
abbrev pub paths_named : Form → List Path
paths_named (Assign x e) = x ∷ paths_read e
paths_named (Move y x) = y ∷ x ∷ []
paths_named (New x) = x ∷ []
paths_named (Discard x) = x ∷ []
paths_named (Unite v c y) = v ∷ (v ++ (c ∷ [])) ∷ y ∷ []
paths_named (Dissolve v c y) = v ∷ (v ++ (c ∷ [])) ∷ y ∷ []
paths_named (Reveal v c) = v ∷ (v ++ (c ∷ [])) ∷ []
paths_named (Case v cs) = v ∷ map (λ c. v ++ (c ∷ [])) cs
paths_named (Wrap y p) = y ∷ p ∷ []
paths_named (Unwrap p t y) = p ∷ y ∷ []
paths_named (Insert r t) = r ∷ t ∷ []
paths_named (Remove r t keys) = r ∷ t ∷ paths_among keys
paths_named (Get r t keys) = r ∷ t ∷ paths_among keys
paths_named (For r t) = r ∷ t ∷ []
paths_named (Connect o i) = o ∷ i ∷ []
paths_named (Send x o) = x ∷ o ∷ []
paths_named (Receive x i) = x ∷ i ∷ []
paths_named (Select arms) = flat_map (λ (a : Arm). a.port ∷ a.target ∷ []) arms
paths_named (Call o arguments) = o ∷ paths_among arguments
paths_named (Return m) = m ∷ []
paths_named (ReturnBy m e) = m ∷ []
paths_named (Create o n) = o ∷ []
paths_named (If e) = paths_read e
paths_named (While e) = paths_read e
paths_named (Raise e) = []
paths_named Leave = []

-- the literals of an expression, of atoms and of a form
abbrev pub literals_in : Expression → List Literal
literals_in (literal l) = l ∷ []
literals_in (copy p) = []
literals_in (negation e) = literals_in e
literals_in (logical_not e) = literals_in e
literals_in (operation o left right) = literals_in left ++ literals_in right
literals_in (size_of p) = []
literals_in (decimal e) = literals_in e
literals_in (length_of e) = literals_in e

abbrev pub literals_among : List Atom → List Literal
literals_among [] = []
literals_among (Atom.literal l ∷ atoms) = l ∷ literals_among atoms
literals_among (path p ∷ atoms) = literals_among atoms

abbrev pub literals_named : Form → List Literal
literals_named (Assign x e) = literals_in e
literals_named (Remove r t keys) = literals_among keys
literals_named (Get r t keys) = literals_among keys
literals_named (Call o arguments) = literals_among arguments
literals_named (If e) = literals_in e
literals_named (While e) = literals_in e
literals_named _ = []

-- whether an enumeration has a value at a place; a type of another shape is not judged here
abbrev pub may_have_value : ℕ → Shape → Bool
may_have_value i (names count) = nat_lt i count
may_have_value i s = true

module _ (table : TypeTable) where
  -- whether a type is known: its name is there
  abbrev pub is_type : ℕ → Bool
  is_type t = is_some (slice_get table t)

  abbrev pub is_known : Option ℕ → Bool
  is_known t = map_or false is_type t

  -- A value of an enumeration is there: its type is, and has it where it is an enumeration.
  abbrev pub is_literal_there : Literal → Bool
  is_literal_there (boolean b) = true
  is_literal_there (integer z) = true
  is_literal_there (text bytes) = true
  is_literal_there (tag t i) = map_or false (may_have_value i) (slice_get table t)

  -- Each part is one of the type before it. Behind a type that is not known no part is judged.
  abbrev pub are_parts_there : Option ℕ → List ℕ → Bool
  are_parts_there t [] = true
  are_parts_there t (i ∷ p) = not (is_known t) || (is_some (part_of table t i) && are_parts_there (part_of table t i) p)

  -- The variable of a path is declared, and its parts are there.
  abbrev pub is_there : (types : List ℕ) → Path → Bool
  is_there types [] = false
  is_there types (v ∷ p) = nat_lt v (length types) && are_parts_there (slice_get types v) p

  module _ (types : List ℕ) (exceptions processes : ℕ) where
    -- the names of a type, an exception or a process
    abbrev pub is_other_there : Form → Bool
    is_other_there (Unwrap p t y) = is_type t
    is_other_there (ReturnBy m e) = nat_lt e exceptions
    is_other_there (Create o n) = nat_lt n processes
    is_other_there (Raise e) = nat_lt e exceptions
    is_other_there _ = true

    -- All names of a form are there.
    abbrev pub is_form_there : Form → Bool
    is_form_there f = all_pass (is_there types) (paths_named f) && (all_pass is_literal_there (literals_named f) && is_other_there f)

    -- All names of a statement are there, apart from those of the statements within it; `leave` has its loop.
    abbrev pub is_statement_there : (in_loop : Bool) → Statement → Bool
    is_statement_there l (simple f) = is_form_there f
    is_statement_there l (choosing f _) = is_form_there f
    is_statement_there l (repeating f body) = is_form_there f
    is_statement_there l leaving = l
    is_statement_there l (trying body handlers) = all_pass (λ e. nat_lt e exceptions) (handled handlers)
