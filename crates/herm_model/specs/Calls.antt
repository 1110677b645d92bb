-- What the types of ports and callmessages say: messages, parameters, exceptions and what these keep.
use Rattle.std.specs.Prelude.{ℕ, suc, List, [], ◌∷◌, Bool, true, false, cond, nat_eq, Option, Some, None, slice_get, option_and_then}
use Rattle.herm_model.specs.Lists.{list_of}
use Rattle.herm_model.specs.Paths.{Path}
use Rattle.herm_model.specs.Types.{TypeTable, Shape, inport, outport, callmessage, Mode, by_in, by_inout, by_out, Parameter, Raised, type_at}
use Rattle.herm_model.specs.Expressions.{Atom, literal, path}

-- the shape of the type at a path
abbrev pub shape_at : TypeTable → List ℕ → Path → Option Shape
shape_at types variables p = option_and_then (slice_get types) (type_at types variables p)

-- the inport type that an outport leads to
abbrev pub led_to : Shape → Option ℕ
led_to (outport port) = Some port
led_to _ = None

-- the type of an inport's messages
abbrev pub message_type : Shape → Option ℕ
message_type (inport message declared) = Some message
message_type _ = None

-- the parameters of a callmessage, and the exceptions that it may raise
abbrev pub parameters_of : Shape → List Parameter
parameters_of (callmessage parameters raises) = parameters
parameters_of _ = []

abbrev pub raises_of : Shape → List Raised
raises_of (callmessage parameters raises) = raises
raises_of _ = []

-- the inport type to which the outport at a path leads
abbrev pub inport_at : TypeTable → List ℕ → Path → Option ℕ
inport_at types variables o = option_and_then led_to (shape_at types variables o)

-- the shape of the messages that the outport at a path takes
abbrev pub message_shape : TypeTable → List ℕ → Path → Option Shape
message_shape types variables o =
    option_and_then (slice_get types) (option_and_then message_type (option_and_then (slice_get types) (inport_at types variables o)))

-- the parameters of the callmessages that the outport at a path takes, and the exceptions that they may raise
abbrev pub call_parameters : TypeTable → List ℕ → Path → List Parameter
call_parameters types variables o = list_of parameters_of (message_shape types variables o)

abbrev pub call_raises : TypeTable → List ℕ → Path → List Raised
call_raises types variables o = list_of raises_of (message_shape types variables o)

-- the places of the parameters that are kept at an exception, rising; none where it names none
abbrev pub kept_for : List Raised → ℕ → List ℕ
kept_for [] e = []
kept_for (r ∷ raises) e = cond (nat_eq r.exception e) r.kept (kept_for raises e)

-- whether a parameter's value goes to the callee, and whether one comes back to the caller
abbrev pub is_given : Mode → Bool
is_given by_in = true
is_given by_inout = true
is_given by_out = false

abbrev pub is_returned : Mode → Bool
is_returned by_in = false
is_returned by_inout = true
is_returned by_out = true

-- the places, from one on, of the parameters that come back
abbrev pub returned_places : ℕ → List Parameter → List ℕ
returned_places i [] = []
returned_places i (p ∷ parameters) = cond (is_returned p.mode) (i ∷ returned_places (suc i) parameters) (returned_places (suc i) parameters)

-- the paths among the arguments whose parameter has a mode that passes the test, in order
abbrev pub arguments_by : (Mode → Bool) → List Parameter → List Atom → List Path
arguments_by test [] atoms = []
arguments_by test (p ∷ parameters) [] = []
arguments_by test (p ∷ parameters) (literal l ∷ atoms) = arguments_by test parameters atoms
arguments_by test (p ∷ parameters) (path q ∷ atoms) = cond (test p.mode) (q ∷ arguments_by test parameters atoms) (arguments_by test parameters atoms)

-- the path of the argument at a place
abbrev pub argument_path : Option Atom → List Path
argument_path None = []
argument_path (Some (literal l)) = []
argument_path (Some (path q)) = q ∷ []
