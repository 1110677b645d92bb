-- Images of the examples: their types, constants and good modules.
use Rattle.std.specs.Prelude.{ℕ, pos, List, [], ◌∷◌, ◌++◌, map, replicate, length, true}
use Rattle.herm_model.specs.Paths.{Path, Fact, init}
use Rattle.herm_model.specs.Types.{by_in, by_inout, Raised, fields, cases, rows, inport, outport, callmessage, TypeTable, predefined}
use Rattle.herm_model.specs.Expressions.{Literal}
use Rattle.herm_model.specs.Outcomes.{depletion, duplicate_key, disconnected}
use Rattle.herm_instructions.specs.Instructions.{as_text, Argument, of_in, of_inout, Instruction, Step, Const, Load, Apply, Store, Jump, New, Insert, LoopStart, LoopNext, LoopDrop, Receive, Send, Call, ReturnBy, Create, Drop, End, EndBy}
use Rattle.herm_instructions.specs.Labels.{Slot, ListedLabel}
use Rattle.herm_instructions.specs.Images.{Landing, CodeModule, Image}

-- there is one exception of the program, Busy
abbrev pub busy : ℕ
busy = 7

abbrev pub example_exceptions : ℕ
example_exceptions = 8

-- a record with a key, a table of it, a callmessage that keeps its `inout` parameter for Busy with its ports, a variant in a variant,
-- a pair that is sent with its first field alone, with its ports, a table with a number and a string as its key, a variant of two
-- components, and a callmessage of two `in` parameters with its ports
abbrev pub example_defined : TypeTable
example_defined =
    -- 8, 9
    fields (1 ∷ []) ∷ rows 8 (0 ∷ [])
    -- 10, 11, 12
    ∷ callmessage (record { mode = by_in; content = 2 } ∷ record { mode = by_inout; content = 2 } ∷ []) (record { exception = busy; kept = 1 ∷ [] } ∷ []) ∷ inport 10 [] ∷ outport 11
    -- 13, 14
    ∷ cases (1 ∷ []) ∷ cases (13 ∷ [])
    -- 15, 16, 17
    ∷ fields (1 ∷ 1 ∷ []) ∷ inport 15 (init (0 ∷ 0 ∷ []) ∷ []) ∷ outport 16
    -- 18, 19, 20
    ∷ fields (1 ∷ 2 ∷ []) ∷ rows 18 (0 ∷ 1 ∷ []) ∷ cases (1 ∷ 2 ∷ [])
    -- 21, 22, 23
    ∷ callmessage (record { mode = by_in; content = 1 } ∷ record { mode = by_in; content = 2 } ∷ []) [] ∷ inport 21 [] ∷ outport 22 ∷ []

abbrev pub example_types : TypeTable
example_types = predefined ++ example_defined

-- 1, 2, "q", "w", true, "hi"
abbrev pub example_constants : List Literal
example_constants =
    Literal.integer (pos 1) ∷ Literal.integer (pos 2) ∷ Literal.text (113 ∷ []) ∷ Literal.text (119 ∷ []) ∷ Literal.boolean true ∷ Literal.text (104 ∷ 105 ∷ []) ∷ []

abbrev pub image_of : List CodeModule → Image
image_of modules = record { modules = modules; constants = example_constants; types = example_types }

-- a value at each path
abbrev pub values_at : List Path → List Fact
values_at ps = map init ps

abbrev pub listed : ℕ → List ℕ → List Fact → List Slot → ListedLabel
listed n stack facts slots = record { index = n; label = record { stack = stack; facts = facts; slots = slots } }

abbrev pub lands : ℕ → ℕ → Landing
lands e n = record { exception = e; index = n }

-- a module without landings
abbrev pub plain_module : (variables : List ℕ) → List Instruction → List ListedLabel → CodeModule
plain_module variables code labels = record { variables = variables; code = code; landings = replicate (length code) []; labels = labels }

-- what is there behind the receipt of the start message
abbrev pub started : List Fact
started = values_at ((0 ∷ []) ∷ (1 ∷ []) ∷ (1 ∷ 0 ∷ []) ∷ (1 ∷ 1 ∷ []) ∷ [])

-- receive m from start; s := "hi"; send s to m.out;
abbrev pub greeting : CodeModule
greeting = record {
  variables = 7 ∷ 6 ∷ 2 ∷ [];
  code =
      Step ∷ Receive (1 ∷ []) (0 ∷ []) ∷ Step ∷ Const 5 ∷ Store (2 ∷ []) ∷ Step ∷ Send (2 ∷ []) (1 ∷ 1 ∷ []) []
      -- 7, 8
      ∷ End ∷ EndBy disconnected ∷ [];
  landings = [] ∷ [] ∷ [] ∷ [] ∷ [] ∷ [] ∷ (lands disconnected 8 ∷ []) ∷ [] ∷ [] ∷ [];
  labels = listed 8 [] (started ++ values_at ((2 ∷ []) ∷ [])) [] ∷ [];
}

-- receive m from start; new t; new r; r.k := 1; insert r into t; new r; r.k := 2; insert r into t;
-- for r in t { s := text(r.k); send s to m.out; }
abbrev pub two_rows : CodeModule
two_rows = record {
  variables = 7 ∷ 6 ∷ 8 ∷ 9 ∷ 2 ∷ [];
  code =
      Step ∷ Receive (1 ∷ []) (0 ∷ []) ∷ Step ∷ New (3 ∷ []) 9
      -- 4
      ∷ Step ∷ New (2 ∷ []) 8 ∷ Step ∷ Const 0 ∷ Store (2 ∷ 0 ∷ []) ∷ Step ∷ Insert (2 ∷ []) (3 ∷ [])
      -- 11
      ∷ Step ∷ New (2 ∷ []) 8 ∷ Step ∷ Const 1 ∷ Store (2 ∷ 0 ∷ []) ∷ Step ∷ Insert (2 ∷ []) (3 ∷ [])
      -- 18
      ∷ Step ∷ LoopStart (3 ∷ []) 0 ∷ Jump 22 ∷ Step ∷ LoopNext (2 ∷ []) 0 31
      -- 23
      ∷ Step ∷ Load (2 ∷ 0 ∷ []) ∷ Apply as_text ∷ Store (4 ∷ []) ∷ Step ∷ Send (4 ∷ []) (1 ∷ 1 ∷ []) [] ∷ Drop (2 ∷ []) ∷ Jump 21
      -- 31
      ∷ LoopDrop 0 ∷ End ∷ EndBy duplicate_key ∷ EndBy depletion ∷ EndBy disconnected ∷ [];
  landings =
      [] ∷ [] ∷ [] ∷ [] ∷ [] ∷ [] ∷ [] ∷ [] ∷ [] ∷ [] ∷ (lands depletion 34 ∷ lands duplicate_key 33 ∷ [])
      ∷ [] ∷ [] ∷ [] ∷ [] ∷ [] ∷ [] ∷ (lands depletion 34 ∷ lands duplicate_key 33 ∷ [])
      ∷ replicate 10 [] ++ (lands disconnected 35 ∷ []) ∷ replicate 7 [];
  labels =
      listed 21 [] (started ++ values_at ((3 ∷ []) ∷ [])) (record { number = 0; row = 8 } ∷ [])
      ∷ listed 22 [] (started ++ values_at ((3 ∷ []) ∷ [])) (record { number = 0; row = 8 } ∷ [])
      ∷ listed 31 [] (started ++ values_at ((3 ∷ []) ∷ [])) (record { number = 0; row = 8 } ∷ [])
      ∷ listed 33 [] (started ++ values_at ((3 ∷ []) ∷ (2 ∷ []) ∷ (2 ∷ 0 ∷ []) ∷ [])) []
      ∷ listed 34 [] (started ++ values_at ((3 ∷ []) ∷ (2 ∷ []) ∷ (2 ∷ 0 ∷ []) ∷ [])) []
      ∷ listed 35 [] (started ++ values_at ((3 ∷ []) ∷ (2 ∷ []) ∷ (2 ∷ 0 ∷ []) ∷ (4 ∷ []) ∷ [])) (record { number = 0; row = 8 } ∷ [])
      ∷ [];
}

-- receive c from start; return c exception Busy;
abbrev pub denies_by : (exception : ℕ) → (kept : List ℕ) → CodeModule
denies_by e kept = plain_module (11 ∷ 10 ∷ []) (Step ∷ Receive (1 ∷ []) (0 ∷ []) ∷ Step ∷ ReturnBy (1 ∷ []) e kept ∷ End ∷ []) []

abbrev pub denies : CodeModule
denies = denies_by busy (1 ∷ [])

-- receive m from start; create o of denies; q := "q"; w := "w";
-- try { call o(q, w); } on Busy { send w to m.out; } on Disconnected { send q to m.out; }
abbrev pub asks_by : List Argument → List Raised → CodeModule
asks_by arguments declared = record {
  variables = 7 ∷ 6 ∷ 12 ∷ 2 ∷ 2 ∷ [];
  code =
      Step ∷ Receive (1 ∷ []) (0 ∷ []) ∷ Step ∷ Create (2 ∷ []) 0
      -- 4
      ∷ Step ∷ Const 2 ∷ Store (3 ∷ []) ∷ Step ∷ Const 3 ∷ Store (4 ∷ [])
      -- 10
      ∷ Step ∷ Load (3 ∷ []) ∷ Call (2 ∷ []) arguments declared ∷ End
      -- 14
      ∷ Step ∷ Send (4 ∷ []) (1 ∷ 1 ∷ []) [] ∷ End
      -- 17
      ∷ Step ∷ Send (3 ∷ []) (1 ∷ 1 ∷ []) [] ∷ End ∷ EndBy disconnected ∷ EndBy disconnected ∷ EndBy depletion ∷ [];
  landings =
      [] ∷ [] ∷ [] ∷ (lands depletion 22 ∷ []) ∷ [] ∷ [] ∷ [] ∷ [] ∷ [] ∷ [] ∷ [] ∷ [] ∷ (lands disconnected 17 ∷ lands busy 14 ∷ [])
      ∷ [] ∷ [] ∷ (lands disconnected 20 ∷ []) ∷ [] ∷ [] ∷ (lands disconnected 21 ∷ []) ∷ [] ∷ [] ∷ [] ∷ [] ∷ [];
  labels =
      listed 14 [] (started ++ values_at ((2 ∷ []) ∷ (3 ∷ []) ∷ (4 ∷ []) ∷ [])) []
      ∷ listed 17 [] (started ++ values_at ((2 ∷ []) ∷ (3 ∷ []) ∷ [])) []
      ∷ listed 20 [] (started ++ values_at ((2 ∷ []) ∷ (3 ∷ []) ∷ (4 ∷ []) ∷ [])) []
      ∷ listed 21 [] (started ++ values_at ((2 ∷ []) ∷ (3 ∷ []) ∷ [])) []
      ∷ listed 22 [] started []
      ∷ [];
}

abbrev pub asks : CodeModule
asks = asks_by (of_in ∷ of_inout (4 ∷ []) ∷ []) (record { exception = busy; kept = 1 ∷ [] } ∷ [])
