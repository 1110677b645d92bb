-- Definitions of types, each with the number of exceptions and the rules that are broken.
use Rattle.std.specs.Prelude.{ℕ, zero, suc, List, [], ◌∷◌, replicate}
use Rattle.herm_model.specs.Paths.{init, case}
use Rattle.herm_model.specs.Types.{by_in, by_inout, by_out, integer, names, fields, cases, rows, inport, outport, callmessage, TypeTable}
use Rattle.herm_model.specs.examples.StatementTypes.{a_parameter, keeping, statement_types}
use Rattle.herm_model.specs.tests.TableTests.{TableRule, predefined_types, enough_exceptions, types_known, exceptions_known, exceptions_differ, shallow, few_paths, keys, outports, inputs_copyable, facts_of_fields, one_case, kept_returned, kept_rising, kept_disconnected}

pub record TableExample : Type 0 where
  pub exceptions : ℕ
  pub defined : TypeTable
  pub broken : List TableRule

-- definitions beside so many exceptions, and the rules that they break
abbrev pub an_example : ℕ → TypeTable → List TableRule → TableExample
an_example exceptions defined broken = record { exceptions = exceptions; defined = defined; broken = broken }

-- so many records from type 8 on, the first of an integer, each other one of the record before it
abbrev pub chain_from : ℕ → ℕ → TypeTable
chain_from t zero = []
chain_from t (suc n) = fields (t ∷ []) ∷ chain_from (suc t) n

abbrev pub chain : ℕ → TypeTable
chain zero = []
chain (suc n) = fields (1 ∷ []) ∷ chain_from 8 n

abbrev pub table_examples : List TableExample
table_examples =
    -- the types of the statements
    an_example 8 statement_types []
    -- nothing
    ∷ an_example 7 [] []
    -- a definition of the shape integer
    ∷ an_example 7 (integer ∷ []) (predefined_types ∷ [])
    -- six exceptions
    ∷ an_example 6 [] (enough_exceptions ∷ [])
    -- record { a: unknown }
    ∷ an_example 7 (fields (9 ∷ []) ∷ []) (types_known ∷ shallow ∷ [])
    -- callmessage () raises (Busy), with seven exceptions
    ∷ an_example 7 (callmessage [] (keeping 7 [] ∷ []) ∷ []) (exceptions_known ∷ [])
    -- callmessage () raises (Busy, Busy)
    ∷ an_example 8 (callmessage [] (keeping 7 [] ∷ keeping 7 [] ∷ []) ∷ []) (exceptions_differ ∷ [])
    -- type a = record { a: a }
    ∷ an_example 7 (fields (8 ∷ []) ∷ []) (shallow ∷ [])
    -- type a = inport of b; type b = record { o: outport of a }
    ∷ an_example 7 (inport 9 [] ∷ fields (10 ∷ []) ∷ outport 8 ∷ []) (shallow ∷ [])
    -- records 31 deep over an integer
    ∷ an_example 7 (chain 31) []
    -- records 32 deep over an integer
    ∷ an_example 7 (chain 32) (shallow ∷ [])
    -- a record with 1,023 integers
    ∷ an_example 7 (fields (replicate 1023 1) ∷ []) []
    -- a record with 1,024 integers
    ∷ an_example 7 (fields (replicate 1024 1) ∷ []) (few_paths ∷ [])
    -- table of integer key (a)
    ∷ an_example 7 (rows 1 (0 ∷ []) ∷ []) (keys ∷ [])
    -- table of pair key (third)
    ∷ an_example 7 (fields (1 ∷ 1 ∷ []) ∷ rows 8 (2 ∷ []) ∷ []) (keys ∷ [])
    -- table of pair key (first), first a record
    ∷ an_example 7 (fields (1 ∷ []) ∷ fields (8 ∷ []) ∷ rows 9 (0 ∷ []) ∷ []) (keys ∷ [])
    -- table of pair key (a, a)
    ∷ an_example 7 (fields (1 ∷ 1 ∷ []) ∷ rows 8 (0 ∷ 0 ∷ []) ∷ []) (keys ∷ [])
    -- table of pair key (b, a)
    ∷ an_example 7 (fields (1 ∷ 2 ∷ []) ∷ rows 8 (1 ∷ 0 ∷ []) ∷ []) []
    -- table of flags key (colour)
    ∷ an_example 7 (names 2 ∷ fields (8 ∷ []) ∷ rows 9 (0 ∷ []) ∷ []) []
    -- outport of integer
    ∷ an_example 7 (outport 1 ∷ []) (outports ∷ [])
    -- outport of an outport
    ∷ an_example 7 (outport 5 ∷ []) (outports ∷ [])
    -- callmessage (in a: console)
    ∷ an_example 7 (callmessage (a_parameter by_in 4 ∷ []) [] ∷ []) (inputs_copyable ∷ [])
    -- callmessage (in a: polymorph)
    ∷ an_example 7 (callmessage (a_parameter by_in 3 ∷ []) [] ∷ []) (inputs_copyable ∷ [])
    -- callmessage (inout a: console, out b: polymorph)
    ∷ an_example 7 (callmessage (a_parameter by_inout 4 ∷ a_parameter by_out 3 ∷ []) [] ∷ []) []
    -- callmessage (in a: table of pairs)
    ∷ an_example 7 (fields (1 ∷ []) ∷ rows 8 (0 ∷ []) ∷ callmessage (a_parameter by_in 9 ∷ []) [] ∷ []) []
    -- inport of integer { init(a) }
    ∷ an_example 7 (inport 1 (init (0 ∷ 0 ∷ []) ∷ []) ∷ []) (facts_of_fields ∷ [])
    -- inport of pair { init(third) }
    ∷ an_example 7 (fields (1 ∷ 1 ∷ []) ∷ inport 8 (init (0 ∷ 2 ∷ []) ∷ []) ∷ []) (facts_of_fields ∷ [])
    -- inport of pair with init of the message itself
    ∷ an_example 7 (fields (1 ∷ 1 ∷ []) ∷ inport 8 (init (0 ∷ []) ∷ []) ∷ []) (facts_of_fields ∷ [])
    -- inport of a record { init(v.pair) }, v a variant
    ∷ an_example 7 (fields (1 ∷ []) ∷ cases (8 ∷ []) ∷ fields (9 ∷ []) ∷ inport 10 (init (0 ∷ 0 ∷ 0 ∷ []) ∷ []) ∷ []) (facts_of_fields ∷ [])
    -- inport of a record { case(v, pair) }
    ∷ an_example 7 (fields (1 ∷ []) ∷ cases (8 ∷ 1 ∷ []) ∷ fields (9 ∷ []) ∷ inport 10 (init (0 ∷ 0 ∷ []) ∷ case (0 ∷ 0 ∷ []) 0 ∷ []) ∷ []) []
    -- inport of a record { case(v, other) }
    ∷ an_example 7 (fields (1 ∷ []) ∷ cases (8 ∷ 1 ∷ []) ∷ fields (9 ∷ []) ∷ inport 10 (case (0 ∷ 0 ∷ []) 2 ∷ []) ∷ []) (facts_of_fields ∷ [])
    -- inport of pair { case(key, other) }
    ∷ an_example 7 (fields (1 ∷ 1 ∷ []) ∷ inport 8 (case (0 ∷ 0 ∷ []) 0 ∷ []) ∷ []) (facts_of_fields ∷ [])
    -- inport of a variant { case(message, a) }
    ∷ an_example 7 (cases (1 ∷ 1 ∷ []) ∷ inport 8 (case (0 ∷ []) 0 ∷ []) ∷ []) (facts_of_fields ∷ [])
    -- inport of a record { full(c) }, c a callmessage
    ∷ an_example 7 (callmessage (a_parameter by_in 1 ∷ a_parameter by_inout 1 ∷ a_parameter by_out 1 ∷ []) [] ∷ fields (8 ∷ []) ∷ inport 9 (init (0 ∷ 0 ∷ []) ∷ init (0 ∷ 0 ∷ 0 ∷ []) ∷ init (0 ∷ 0 ∷ 1 ∷ []) ∷ []) ∷ []) []
    -- inport of a record { init(c.n) }, c a callmessage
    ∷ an_example 7 (callmessage (a_parameter by_in 1 ∷ a_parameter by_inout 1 ∷ a_parameter by_out 1 ∷ []) [] ∷ fields (8 ∷ []) ∷ inport 9 (init (0 ∷ 0 ∷ []) ∷ init (0 ∷ 0 ∷ 0 ∷ []) ∷ []) ∷ []) (facts_of_fields ∷ [])
    -- inport of a record { case(v, a), case(v, b) }
    ∷ an_example 7 (cases (1 ∷ 1 ∷ []) ∷ fields (8 ∷ []) ∷ inport 9 (case (0 ∷ 0 ∷ []) 0 ∷ case (0 ∷ 0 ∷ []) 1 ∷ []) ∷ []) (one_case ∷ [])
    -- inport of a record { case(v, a), case(v, a) }
    ∷ an_example 7 (cases (1 ∷ 1 ∷ []) ∷ fields (8 ∷ []) ∷ inport 9 (case (0 ∷ 0 ∷ []) 0 ∷ case (0 ∷ 0 ∷ []) 0 ∷ []) ∷ []) []
    -- raises (Busy { full(b), full(c) })
    ∷ an_example 8 (callmessage (a_parameter by_in 1 ∷ a_parameter by_inout 1 ∷ a_parameter by_out 1 ∷ []) (keeping 7 (1 ∷ 2 ∷ []) ∷ []) ∷ []) []
    -- raises (Busy { full(a) }), a of mode in
    ∷ an_example 8 (callmessage (a_parameter by_in 1 ∷ a_parameter by_inout 1 ∷ a_parameter by_out 1 ∷ []) (keeping 7 (0 ∷ []) ∷ []) ∷ []) (kept_returned ∷ [])
    -- raises (Busy { full(d) }), which is none
    ∷ an_example 8 (callmessage (a_parameter by_in 1 ∷ a_parameter by_inout 1 ∷ a_parameter by_out 1 ∷ []) (keeping 7 (3 ∷ []) ∷ []) ∷ []) (kept_returned ∷ [])
    -- raises (Busy { full(c), full(b) }), not rising
    ∷ an_example 8 (callmessage (a_parameter by_in 1 ∷ a_parameter by_inout 1 ∷ a_parameter by_out 1 ∷ []) (keeping 7 (2 ∷ 1 ∷ []) ∷ []) ∷ []) (kept_rising ∷ [])
    -- raises (Busy { full(b), full(b) })
    ∷ an_example 8 (callmessage (a_parameter by_in 1 ∷ a_parameter by_inout 1 ∷ a_parameter by_out 1 ∷ []) (keeping 7 (1 ∷ 1 ∷ []) ∷ []) ∷ []) (kept_rising ∷ [])
    -- raises (Disconnected)
    ∷ an_example 8 (callmessage (a_parameter by_in 1 ∷ a_parameter by_inout 1 ∷ a_parameter by_out 1 ∷ []) (keeping 6 [] ∷ []) ∷ []) []
    -- raises (Disconnected { full(b) })
    ∷ an_example 8 (callmessage (a_parameter by_in 1 ∷ a_parameter by_inout 1 ∷ a_parameter by_out 1 ∷ []) (keeping 6 (1 ∷ []) ∷ []) ∷ []) (kept_disconnected ∷ [])
    ∷ []
