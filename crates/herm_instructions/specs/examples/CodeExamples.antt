-- Code that is good, and for each rule small pieces of code that break it alone.
use Rattle.std.specs.Prelude.{ℕ, pos, List, [], ◌∷◌, ◌++◌, map, replicate}
use Rattle.herm_model.specs.Expressions.{Literal, plus, less}
use Rattle.herm_model.specs.Paths.{Fact, case}
use Rattle.herm_model.specs.Outcomes.{overflow, depletion, case_error, not_found, disconnected}
use Rattle.herm_instructions.specs.Instructions.{negative, of_in, of_inout, of_out, Instruction, Step, Const, Load, Apply, Combine, Store, Jump, JumpFalse, New, Discard, Unite, Reveal, CaseOf, Wrap, Remove, Get, LoopStart, LoopNext, LoopDrop, Connect, Receive, Send, Select, Create, Drop, End, EndBy}
use Rattle.herm_instructions.specs.Labels.{ListedLabel}
use Rattle.herm_instructions.specs.Images.{Landing, CodeModule}
use Rattle.herm_instructions.specs.tests.GoodTests.{CodeRule, port, variables_known, code, landings_listed, labels_rise, labels_listed, labels_closed, typed, stack, facts, slots, trims, in_range, begins, arrives, goes_back, acts_at_once, keeps, landings}
use Rattle.herm_instructions.specs.examples.ExampleImages.{values_at, listed, lands, plain_module, started, greeting, two_rows, busy, denies_by, denies, asks_by, asks}

-- a module, and the rules that it breaks in an image with a module that denies calls
pub record CodeExample : Type 0 where
  pub example : CodeModule
  pub broken : List CodeRule

-- a module without landings; and one where an instruction lands
abbrev pub plain : (variables : List ℕ) → List Instruction → List ListedLabel → List CodeRule → CodeExample
plain variables instructions labels broken = record { example = plain_module variables instructions labels; broken = broken }

abbrev pub landing : (variables : List ℕ) → List Instruction → List (List Landing) → List ListedLabel → List CodeRule → CodeExample
landing variables instructions landed labels broken = record { example = record { variables = variables; code = instructions; landings = landed; labels = labels }; broken = broken }

-- what is there of a process that has a value at its port alone, or at its next variable too
abbrev at_port : List Fact
at_port = values_at ((0 ∷ []) ∷ [])

abbrev at_two : List Fact
at_two = values_at ((0 ∷ []) ∷ (1 ∷ []) ∷ [])

abbrev pub good_code : List CodeExample
good_code = map (λ m. record { example = m; broken = [] }) (greeting ∷ two_rows ∷ denies ∷ asks ∷ [])

-- which variables, instructions and labels there are
abbrev pub odd_modules : List CodeExample
odd_modules =
    -- variable 0 is no inport, or is not there
    plain (2 ∷ []) (End ∷ []) [] (port ∷ [])
    ∷ plain [] (End ∷ []) [] (port ∷ [])
    ∷ plain (4 ∷ 99 ∷ []) (End ∷ []) [] (variables_known ∷ [])
    ∷ plain (4 ∷ []) [] [] (code ∷ [])
    -- no landings for an instruction, and landings for none
    ∷ landing (4 ∷ []) (End ∷ []) [] [] (landings_listed ∷ [])
    ∷ landing (4 ∷ []) (End ∷ []) ([] ∷ [] ∷ []) [] (landings_listed ∷ [])
    -- labels in another order
    ∷ plain (4 ∷ []) (Const 4 ∷ JumpFalse 3 ∷ Jump 4 ∷ End ∷ End ∷ []) (listed 3 [] at_port [] ∷ listed 4 [] at_port [] ∷ []) []
    ∷ plain (4 ∷ []) (Const 4 ∷ JumpFalse 3 ∷ Jump 4 ∷ End ∷ End ∷ []) (listed 4 [] at_port [] ∷ listed 3 [] at_port [] ∷ []) (labels_rise ∷ [])
    -- a label that no jump asks for, and none where one does
    ∷ plain (4 ∷ []) (End ∷ []) (listed 0 [] at_port [] ∷ []) (labels_listed ∷ [])
    ∷ plain (4 ∷ []) (Jump 1 ∷ End ∷ []) [] (labels_listed ∷ [])
    ∷ []

-- a variant in a variant is revealed, and these facts of it are listed behind
abbrev pub revealing : List Fact → List CodeRule → CodeExample
revealing known broken = landing (4 ∷ 1 ∷ 13 ∷ 14 ∷ [])
    (Const 0 ∷ Store (1 ∷ []) ∷ Unite (2 ∷ []) 0 (1 ∷ []) ∷ Unite (3 ∷ []) 0 (2 ∷ []) ∷ Reveal (3 ∷ 0 ∷ []) 0 ∷ Jump 6 ∷ End ∷ EndBy case_error ∷ [])
    (replicate 4 [] ++ (lands case_error 7 ∷ []) ∷ replicate 3 [])
    (listed 6 [] (values_at ((0 ∷ []) ∷ (3 ∷ []) ∷ []) ++ known) [] ∷ listed 7 [] (values_at ((0 ∷ []) ∷ (3 ∷ []) ∷ [])) [] ∷ []) broken

-- a pair is sent with its first field alone, and what is at these paths is trimmed
abbrev pub trimming : List (List ℕ) → List CodeRule → CodeExample
trimming trim broken = landing (16 ∷ 15 ∷ 17 ∷ [])
    (Connect (2 ∷ []) (0 ∷ []) ∷ New (1 ∷ []) 15 ∷ Const 0 ∷ Store (1 ∷ 0 ∷ []) ∷ Const 0 ∷ Store (1 ∷ 1 ∷ []) ∷ Send (1 ∷ []) (2 ∷ []) trim ∷ End ∷ EndBy disconnected ∷ [])
    (replicate 6 [] ++ (lands disconnected 8 ∷ []) ∷ [] ∷ [] ∷ [])
    (listed 8 [] (values_at ((0 ∷ []) ∷ (2 ∷ []) ∷ (1 ∷ []) ∷ (1 ∷ 0 ∷ []) ∷ [])) [] ∷ []) broken

-- what instructions find
abbrev pub odd_instructions : List CodeExample
odd_instructions =
    -- facts are known that rest on others
    revealing [] []
    ∷ revealing (case (3 ∷ []) 0 ∷ case (3 ∷ 0 ∷ []) 0 ∷ []) []
    ∷ revealing (case (3 ∷ 0 ∷ []) 0 ∷ []) (labels_closed ∷ [])
    -- a copy of an inport; no such constant; another type; no arm; no such exception; the rows of a string
    ∷ plain (4 ∷ []) (Load (0 ∷ []) ∷ End ∷ []) [] (typed ∷ [])
    ∷ plain (4 ∷ []) (Const 6 ∷ End ∷ []) [] (typed ∷ [])
    ∷ plain (4 ∷ 8 ∷ []) (New (1 ∷ []) 9 ∷ End ∷ []) [] (typed ∷ [])
    ∷ plain (4 ∷ []) (Select [] ∷ []) [] (typed ∷ [])
    ∷ plain (4 ∷ []) (EndBy 8 ∷ []) [] (typed ∷ [])
    ∷ plain (4 ∷ 2 ∷ []) (Const 5 ∷ Store (1 ∷ []) ∷ LoopStart (1 ∷ []) 0 ∷ End ∷ []) [] (typed ∷ [])
    -- two keys where there is one
    ∷ landing (4 ∷ 8 ∷ 9 ∷ []) (New (2 ∷ []) 9 ∷ Const 0 ∷ Get (1 ∷ []) (2 ∷ []) 1 ∷ End ∷ EndBy not_found ∷ [])
    ([] ∷ [] ∷ (lands not_found 4 ∷ []) ∷ [] ∷ [] ∷ []) (listed 4 [] (values_at ((0 ∷ []) ∷ (2 ∷ []) ∷ [])) [] ∷ []) []
    ∷ landing (4 ∷ 8 ∷ 9 ∷ []) (New (2 ∷ []) 9 ∷ Const 0 ∷ Const 0 ∷ Get (1 ∷ []) (2 ∷ []) 2 ∷ End ∷ EndBy not_found ∷ [])
    ([] ∷ [] ∷ [] ∷ (lands not_found 5 ∷ []) ∷ [] ∷ [] ∷ []) (listed 5 [] (values_at ((0 ∷ []) ∷ (2 ∷ []) ∷ [])) [] ∷ []) (typed ∷ [])
    -- the minus of a truth value, and of nothing
    ∷ landing (4 ∷ []) (Const 4 ∷ Apply negative ∷ End ∷ EndBy overflow ∷ []) ([] ∷ (lands overflow 3 ∷ []) ∷ [] ∷ [] ∷ []) (listed 3 [] at_port [] ∷ []) (stack ∷ [])
    ∷ landing (4 ∷ []) (Apply negative ∷ End ∷ EndBy overflow ∷ []) ((lands overflow 2 ∷ []) ∷ [] ∷ [] ∷ []) (listed 2 [] at_port [] ∷ []) (stack ∷ [])
    -- nothing is there
    ∷ plain (4 ∷ 2 ∷ []) (Discard (1 ∷ []) ∷ End ∷ []) [] (facts ∷ [])
    ∷ landing (7 ∷ 6 ∷ 2 ∷ []) (Step ∷ Receive (1 ∷ []) (0 ∷ []) ∷ Step ∷ Send (2 ∷ []) (1 ∷ 1 ∷ []) [] ∷ End ∷ EndBy disconnected ∷ [])
    ([] ∷ [] ∷ [] ∷ (lands disconnected 5 ∷ []) ∷ [] ∷ [] ∷ []) (listed 5 [] (started ++ values_at ((2 ∷ []) ∷ [])) [] ∷ []) (facts ∷ [])
    -- no slot, and one that is there already
    ∷ plain (4 ∷ []) (LoopDrop 0 ∷ End ∷ []) [] (slots ∷ [])
    ∷ plain (4 ∷ 9 ∷ []) (New (1 ∷ []) 9 ∷ LoopStart (1 ∷ []) 0 ∷ LoopStart (1 ∷ []) 1 ∷ End ∷ []) [] []
    ∷ plain (4 ∷ 9 ∷ []) (New (1 ∷ []) 9 ∷ LoopStart (1 ∷ []) 0 ∷ LoopStart (1 ∷ []) 0 ∷ End ∷ []) [] (slots ∷ [])
    -- what is trimmed
    ∷ trimming ((1 ∷ 1 ∷ []) ∷ []) []
    ∷ trimming [] (trims ∷ [])
    ∷ trimming ((1 ∷ 1 ∷ []) ∷ (1 ∷ 1 ∷ []) ∷ []) (trims ∷ [])
    -- what is kept
    ∷ record { example = denies_by busy []; broken = keeps ∷ [] }
    ∷ record { example = asks_by (of_in ∷ of_inout (4 ∷ []) ∷ []) []; broken = keeps ∷ [] }
    -- no landing, two, and one for what cannot be raised
    ∷ plain (4 ∷ []) (Const 0 ∷ Apply negative ∷ End ∷ []) [] (landings ∷ [])
    ∷ landing (4 ∷ []) (Const 0 ∷ Apply negative ∷ End ∷ EndBy overflow ∷ []) ([] ∷ (lands overflow 3 ∷ lands overflow 3 ∷ []) ∷ [] ∷ [] ∷ []) (listed 3 [] at_port [] ∷ []) (landings ∷ [])
    ∷ landing (4 ∷ []) (Step ∷ End ∷ []) ((lands overflow 1 ∷ []) ∷ [] ∷ []) (listed 1 [] at_port [] ∷ []) (landings ∷ [])
    ∷ []

-- a variant of one component is made, and then something is done with it
abbrev pub with_variant : List Instruction → List ListedLabel → List CodeRule → CodeExample
with_variant more labels broken = plain (4 ∷ 1 ∷ 13 ∷ []) (Const 0 ∷ Store (1 ∷ []) ∷ Unite (2 ∷ []) 0 (1 ∷ []) ∷ more) labels broken

-- a number is wrapped as of this type
abbrev pub wrapping : (type : ℕ) → List CodeRule → CodeExample
wrapping type broken = landing (4 ∷ 1 ∷ 3 ∷ []) (Const 0 ∷ Store (1 ∷ []) ∷ Wrap (1 ∷ []) type (2 ∷ []) ∷ End ∷ EndBy depletion ∷ [])
    ([] ∷ [] ∷ (lands depletion 4 ∷ []) ∷ [] ∷ [] ∷ []) (listed 4 [] at_two [] ∷ []) broken

-- a row is looked for by this constant as its key
abbrev pub finding : (constant : ℕ) → List CodeRule → CodeExample
finding k broken = landing (4 ∷ 8 ∷ 9 ∷ []) (New (2 ∷ []) 9 ∷ Const k ∷ Remove (1 ∷ []) (2 ∷ []) 1 ∷ End ∷ EndBy not_found ∷ [])
    ([] ∷ [] ∷ (lands not_found 4 ∷ []) ∷ [] ∷ [] ∷ []) (listed 4 [] (values_at ((0 ∷ []) ∷ (2 ∷ []) ∷ [])) [] ∷ []) broken

-- rows are visited at this variable
abbrev pub visiting : (variable : ℕ) → List CodeRule → CodeExample
visiting r broken = plain (4 ∷ 8 ∷ 9 ∷ 2 ∷ []) (New (2 ∷ []) 9 ∷ LoopStart (2 ∷ []) 0 ∷ LoopNext (r ∷ []) 0 4 ∷ End ∷ End ∷ [])
    (listed 4 [] (values_at ((0 ∷ []) ∷ (2 ∷ []) ∷ [])) (record { number = 0; row = 8 } ∷ []) ∷ []) broken

-- two constants are added
abbrev pub adding : (left right : ℕ) → List CodeRule → CodeExample
adding x y broken = landing (4 ∷ []) (Const x ∷ Const y ∷ Combine plus ∷ End ∷ EndBy overflow ∷ []) ([] ∷ [] ∷ (lands overflow 4 ∷ []) ∷ [] ∷ [] ∷ []) (listed 4 [] at_port [] ∷ []) broken

-- a process of this module is made
abbrev pub creating : (number : ℕ) → List CodeRule → CodeExample
creating n broken = landing (4 ∷ 12 ∷ []) (Create (1 ∷ []) n ∷ End ∷ EndBy depletion ∷ []) ((lands depletion 2 ∷ []) ∷ [] ∷ [] ∷ []) (listed 2 [] at_port [] ∷ []) broken

-- what instructions of one kind each take
abbrev pub odd_operands : List CodeExample
odd_operands =
    -- operands of an operator: of two types, and of one that it does not take
    adding 0 1 []
    ∷ adding 0 2 (stack ∷ [])
    ∷ adding 2 2 (stack ∷ [])
    ∷ plain (4 ∷ []) (Const 0 ∷ Const 1 ∷ Combine less ∷ JumpFalse 5 ∷ End ∷ End ∷ []) (listed 5 [] at_port [] ∷ []) []
    ∷ plain (4 ∷ []) (Const 4 ∷ Const 4 ∷ Combine less ∷ JumpFalse 5 ∷ End ∷ End ∷ []) (listed 5 [] at_port [] ∷ []) (stack ∷ [])
    -- a test of a number, and a string in place of a number
    ∷ plain (4 ∷ []) (Const 0 ∷ JumpFalse 3 ∷ End ∷ End ∷ []) (listed 3 [] at_port [] ∷ []) (stack ∷ [])
    ∷ plain (4 ∷ 1 ∷ []) (Const 5 ∷ Store (1 ∷ []) ∷ End ∷ []) [] (stack ∷ [])
    -- a key of another type
    ∷ finding 0 []
    ∷ finding 2 (stack ∷ [])
    -- the type of what is wrapped
    ∷ wrapping 1 []
    ∷ wrapping 2 (typed ∷ [])
    -- an index for each component; what is in a component does not leave
    ∷ with_variant (CaseOf (2 ∷ []) (4 ∷ []) ∷ End ∷ []) (listed 4 [] (values_at ((0 ∷ []) ∷ (2 ∷ []) ∷ []) ++ case (2 ∷ []) 0 ∷ []) [] ∷ []) []
    ∷ with_variant (CaseOf (2 ∷ []) (4 ∷ 4 ∷ []) ∷ End ∷ []) (listed 4 [] (values_at ((0 ∷ []) ∷ (2 ∷ []) ∷ [])) [] ∷ []) (typed ∷ [])
    ∷ with_variant (Load (2 ∷ 0 ∷ []) ∷ Drop (2 ∷ []) ∷ End ∷ []) [] []
    ∷ with_variant (Drop (2 ∷ 0 ∷ []) ∷ End ∷ []) [] (typed ∷ [])
    -- rows of another type, and a slot that is used again
    ∷ visiting 1 []
    ∷ visiting 3 (slots ∷ [])
    ∷ plain (4 ∷ 9 ∷ []) (New (1 ∷ []) 9 ∷ LoopStart (1 ∷ []) 0 ∷ LoopDrop 0 ∷ LoopStart (1 ∷ []) 0 ∷ End ∷ []) [] []
    -- a message of another type; a module that is not there; an argument of another mode; an exception that is not declared
    ∷ plain (4 ∷ 1 ∷ []) (Receive (1 ∷ []) (0 ∷ []) ∷ End ∷ []) [] (typed ∷ [])
    ∷ creating 0 []
    ∷ creating 2 (typed ∷ [])
    ∷ record { example = asks_by (of_in ∷ of_out (4 ∷ []) ∷ []) (record { exception = busy; kept = 1 ∷ [] } ∷ []); broken = typed ∷ [] }
    ∷ record { example = denies_by disconnected []; broken = typed ∷ [] }
    ∷ []

-- where control goes
abbrev pub odd_ways : List CodeExample
odd_ways =
    -- past the end
    plain (4 ∷ []) (Step ∷ []) [] (in_range ∷ [])
    ∷ plain (4 ∷ []) (Jump 5 ∷ []) (listed 5 [] at_port [] ∷ []) (in_range ∷ [])
    -- the beginning does not fit
    ∷ plain (4 ∷ []) (Step ∷ Jump 0 ∷ []) (listed 0 [] at_port [] ∷ []) []
    ∷ plain (4 ∷ []) (Step ∷ Jump 0 ∷ []) (listed 0 [] [] [] ∷ []) (begins ∷ [])
    -- a fact too few, one too many, another stack, a landing with a stack
    ∷ plain (4 ∷ 2 ∷ []) (Jump 1 ∷ End ∷ []) (listed 1 [] [] [] ∷ []) (arrives ∷ [])
    ∷ plain (4 ∷ 2 ∷ []) (Jump 1 ∷ End ∷ []) (listed 1 [] at_two [] ∷ []) (arrives ∷ [])
    ∷ plain (4 ∷ []) (Const 4 ∷ Jump 2 ∷ End ∷ []) (listed 2 (0 ∷ []) at_port [] ∷ []) []
    ∷ plain (4 ∷ []) (Const 4 ∷ Jump 2 ∷ End ∷ []) (listed 2 [] at_port [] ∷ []) (arrives ∷ [])
    ∷ landing (4 ∷ []) (Const 0 ∷ Const 0 ∷ Apply negative ∷ End ∷ EndBy overflow ∷ []) ([] ∷ [] ∷ (lands overflow 4 ∷ []) ∷ [] ∷ [] ∷ []) (listed 4 (1 ∷ []) at_port [] ∷ []) (arrives ∷ [])
    -- back to what is no step, and to a step with a stack
    ∷ plain (4 ∷ []) (Jump 0 ∷ []) (listed 0 [] at_port [] ∷ []) (goes_back ∷ [])
    ∷ plain (4 ∷ []) (Const 4 ∷ Step ∷ Jump 1 ∷ []) (listed 1 (0 ∷ []) at_port [] ∷ []) (goes_back ∷ [])
    ∷ landing (4 ∷ []) (Jump 1 ∷ Const 0 ∷ Apply negative ∷ End ∷ []) ([] ∷ [] ∷ (lands overflow 1 ∷ []) ∷ [] ∷ []) (listed 1 [] at_port [] ∷ []) (goes_back ∷ [])
    -- an action behind its step: past another instruction, past a jump, and past an action
    ∷ plain (4 ∷ 2 ∷ []) (Const 5 ∷ Store (1 ∷ []) ∷ Step ∷ Discard (1 ∷ []) ∷ Receive (1 ∷ []) (0 ∷ []) ∷ End ∷ []) [] (acts_at_once ∷ [])
    ∷ plain (4 ∷ 2 ∷ []) (Step ∷ Jump 2 ∷ Receive (1 ∷ []) (0 ∷ []) ∷ End ∷ []) (listed 2 [] at_port [] ∷ []) (acts_at_once ∷ [])
    ∷ plain (4 ∷ 2 ∷ []) (Step ∷ Receive (1 ∷ []) (0 ∷ []) ∷ Discard (1 ∷ []) ∷ Receive (1 ∷ []) (0 ∷ []) ∷ End ∷ []) [] []
    ∷ []

-- what no literal is: a number beyond 64 bits, a string with a byte that none has, a name that an enumeration does not have
abbrev pub odd_constants : List Literal
odd_constants = Literal.integer (pos 9223372036854775808) ∷ Literal.text (7 ∷ []) ∷ Literal.tag 0 0 ∷ []
