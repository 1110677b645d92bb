-- Tests of expressions and forms. A law says that they decide which are typed.
use Rattle.std.specs.Prelude.{ℕ, List, [], ◌∷◌, map, length, Bool, true, false, cond, ◌&&◌, nat_eq, nat_lt, Option, Some, None, is_some, slice_get, option_and_then}
use Rattle.herm_model.specs.Lists.{map_or, all_pass, any_pass, range}
use Rattle.herm_model.specs.Paths.{Path, same_path, are_apart}
use Rattle.herm_model.specs.Types.{Mode, by_in, by_inout, by_out, Parameter, Raised, Shape, boolean, integer, polymorph, names, TypeTable, greatest_depth, type_at, passes_component}
use Rattle.herm_model.specs.Copyable.{is_copyable_within}
use Rattle.herm_model.specs.Expressions.{Literal, Expression, literal, copy, negation, logical_not, operation, size_of, decimal, length_of, Atom, path}
use Rattle.herm_model.specs.Typed.{is_integer, is_text}
use Rattle.herm_model.specs.Statements.{Form, Assign, Move, New, Discard, Unite, Dissolve, Reveal, Case, Wrap, Unwrap, Insert, Remove, Get, For, Connect, Send, Receive, Select, Call, Return, ReturnBy, Create, If, While, Raise, Leave, Arm, Process}
use Rattle.herm_model.specs.FactsOfStatements.{set_by_call}
use Rattle.herm_model.specs.TypedExpressions.{takes, shape_given, passes_out}
use Rattle.herm_model.specs.tests.TableTests.{are_different, on_fields, on_cases, on_rows, on_inport, on_outport, on_callmessage}
use Rattle.herm_model.specs.TypedStatements.{can_be_new, port_type}

-- the number of the predefined type of a shape that an operation gives
abbrev pub number_of_shape : Shape → ℕ
number_of_shape boolean = 0
number_of_shape integer = 1
number_of_shape s = 2

-- a type, where the given one is as wanted
abbrev pub given_if : (wanted type : ℕ) → Option ℕ → Option ℕ
given_if wanted type None = None
given_if wanted type (Some t) = cond (nat_eq t wanted) (Some type) None

abbrev pub is_number : Option ℕ → ℕ → Bool
is_number None t = false
is_number (Some u) t = nat_eq u t

abbrev pub on_names : (ℕ → Bool) → Option Shape → Bool
on_names test (Some (names count)) = test count
on_names test o = false

abbrev pub is_polymorph : Option Shape → Bool
is_polymorph (Some polymorph) = true
is_polymorph o = false

-- none is at or below another
abbrev pub are_all_apart : List Path → Bool
are_all_apart [] = true
are_all_apart (x ∷ xs) = all_pass (are_apart x) xs && are_all_apart xs

module _ (table : TypeTable) where
  abbrev pub literal_type : Literal → Option ℕ
  literal_type (Literal.boolean b) = Some 0
  literal_type (Literal.integer z) = cond (is_integer z) (Some 1) None
  literal_type (Literal.text bytes) = cond (is_text bytes) (Some 2) None
  literal_type (Literal.tag type place) = cond (on_names (nat_lt place) (slice_get table type)) (Some type) None

  module _ (variables : List ℕ) where
    -- the type of a path that is looked at, and of one that is set or whose value leaves
    abbrev pub seen_type : Path → Option ℕ
    seen_type p = cond (passes_out table variables p) None (type_at table variables p)

    abbrev pub own_type : Path → Option ℕ
    own_type p = cond (passes_component table variables p) None (seen_type p)

    abbrev pub copied_type : Path → Option ℕ
    copied_type p = option_and_then (λ t. cond (is_copyable_within greatest_depth table t) (Some t) None) (seen_type p)

    abbrev pub is_table : Path → Bool
    is_table p = map_or false (λ t. on_rows (λ row key. true) (slice_get table t)) (seen_type p)

    abbrev pub expression_type : Expression → Option ℕ
    expression_type (literal l) = literal_type l
    expression_type (copy p) = copied_type p
    expression_type (negation e) = given_if 1 1 (expression_type e)
    expression_type (logical_not e) = given_if 0 0 (expression_type e)
    expression_type (operation o left right) =
        option_and_then (λ t. cond (map_or false (takes o) (slice_get table t) && is_number (expression_type right) t) (Some (number_of_shape (shape_given o))) None) (expression_type left)
    expression_type (size_of p) = cond (is_table p) (Some 1) None
    expression_type (decimal e) = given_if 1 2 (expression_type e)
    expression_type (length_of e) = given_if 2 1 (expression_type e)

    abbrev pub atom_type : Atom → Option ℕ
    atom_type (Atom.literal l) = literal_type l
    atom_type (path p) = copied_type p

    abbrev pub is_argument : Mode → Atom → ℕ → Bool
    is_argument by_in a t = is_number (atom_type a) t
    is_argument by_inout (Atom.literal l) t = false
    is_argument by_inout (path p) t = is_number (own_type p) t
    is_argument by_out (Atom.literal l) t = false
    is_argument by_out (path p) t = is_number (own_type p) t

    abbrev pub are_arguments : List Parameter → List Atom → Bool
    are_arguments [] [] = true
    are_arguments [] (a ∷ atoms) = false
    are_arguments (p ∷ parameters) [] = false
    are_arguments (p ∷ parameters) (a ∷ atoms) = is_argument p.mode a p.content && are_arguments parameters atoms

    abbrev pub are_keys : List ℕ → List ℕ → List Atom → Bool
    are_keys ts [] [] = true
    are_keys ts [] (a ∷ atoms) = false
    are_keys ts (i ∷ key) [] = false
    are_keys ts (i ∷ key) (a ∷ atoms) = map_or false (is_number (atom_type a)) (slice_get ts i) && are_keys ts key atoms

    -- a test of the rows and the key of the table at a path, and of the messages of the port at a path
    abbrev pub at_table : Path → (ℕ → List ℕ → Bool) → Bool
    at_table p test = map_or false (λ t. on_rows test (slice_get table t)) (seen_type p)

    abbrev pub at_outport : Path → (ℕ → Bool) → Bool
    at_outport o test = map_or false (λ t. on_outport (λ port. on_inport (λ message declared. test message) (slice_get table port)) (slice_get table t)) (seen_type o)

    abbrev pub at_inport : Path → (ℕ → Bool) → Bool
    at_inport i test = map_or false (λ t. on_inport (λ message declared. test message) (slice_get table t)) (seen_type i)

    -- a test of a component's type
    abbrev pub at_component_type : ℕ → ℕ → (ℕ → Bool) → Bool
    at_component_type t c test = on_cases (λ ts. map_or false test (slice_get ts c)) (slice_get table t)

    abbrev pub is_found : Path → Path → List Atom → (ℕ → Bool) → Bool
    is_found r t keys test = at_table t (λ row key. is_number (own_type r) row && test row && on_fields (λ ts. are_keys ts key keys) (slice_get table row))

    abbrev pub is_received : Path → Path → Bool
    is_received x i = at_inport i (is_number (own_type x))

    abbrev pub at_returned : Path → (List Raised → Bool) → Bool
    at_returned m test = map_or false (λ t. on_callmessage (λ parameters raises. test raises) (slice_get table t)) (own_type m)

    abbrev pub is_test : Expression → Bool
    is_test e = is_number (expression_type e) 0

    module _ (exceptions : ℕ) (processes : List Process) where
      abbrev pub is_typed_form : Form → Bool
      is_typed_form (Assign x e) = map_or false (is_number (expression_type e)) (own_type x)
      is_typed_form (Move y x) = map_or false (is_number (own_type x)) (own_type y) && are_apart y x
      is_typed_form (New x) = map_or false (λ t. map_or false can_be_new (slice_get table t)) (own_type x)
      is_typed_form (Discard x) = is_some (own_type x)
      is_typed_form (Unite v c y) = map_or false (λ t. at_component_type t c (is_number (own_type y))) (own_type v) && are_apart y v
      is_typed_form (Dissolve v c y) = map_or false (λ t. at_component_type t c (is_number (own_type y))) (own_type v) && are_apart v y
      is_typed_form (Reveal v c) = map_or false (λ t. at_component_type t c (λ u. true)) (seen_type v)
      is_typed_form (Case v cs) = map_or false (λ t. on_cases (λ ts. are_different nat_eq cs && (all_pass (λ c. nat_lt c (length ts)) cs && all_pass (λ c. any_pass (nat_eq c) cs) (range 0 (length ts)))) (slice_get table t)) (seen_type v)
      is_typed_form (Wrap y p) = (is_some (own_type y) && map_or false (λ t. is_polymorph (slice_get table t)) (own_type p)) && are_apart y p
      is_typed_form (Unwrap p t y) = (is_number (own_type y) t && map_or false (λ u. is_polymorph (slice_get table u)) (own_type p)) && are_apart p y
      is_typed_form (Insert r t) = at_table t (λ row key. is_number (own_type r) row)
      is_typed_form (Remove r t keys) = is_found r t keys (λ row. true)
      is_typed_form (Get r t keys) = is_found r t keys (is_copyable_within greatest_depth table)
      is_typed_form (For r t) = at_table t (λ row key. is_number (own_type r) row && is_copyable_within greatest_depth table row)
      is_typed_form (Connect o i) = map_or false (λ t. on_outport (is_number (seen_type i)) (slice_get table t)) (own_type o)
      is_typed_form (Send x o) = at_outport o (is_number (own_type x))
      is_typed_form (Receive x i) = is_received x i
      is_typed_form (Select arms) = are_different same_path (map (λ (a : Arm). a.port) arms) && all_pass (λ (a : Arm). is_received a.target a.port) arms
      is_typed_form (Call o arguments) = at_outport o (λ message. on_callmessage (λ parameters raises. are_arguments parameters arguments) (slice_get table message)) && are_all_apart (set_by_call table variables o arguments)
      is_typed_form (Return m) = at_returned m (λ raises. true)
      is_typed_form (ReturnBy m e) = at_returned m (λ raises. any_pass (nat_eq e) (map (λ (r : Raised). r.exception) raises))
      is_typed_form (Create o n) = map_or false (λ t. on_outport (is_number (port_type processes n)) (slice_get table t)) (own_type o)
      is_typed_form (If e) = is_test e
      is_typed_form (While e) = is_test e
      is_typed_form (Raise e) = nat_lt e exceptions
      is_typed_form Leave = true
