-- More small pieces of code: full copies, keys and arguments of two types, arms, components, and loops within loops.
use Rattle.std.specs.Prelude.{ℕ, List, [], ◌∷◌, ◌++◌}
use Rattle.herm_model.specs.Expressions.{concatenated}
use Rattle.herm_model.specs.Paths.{Fact, case}
use Rattle.herm_model.specs.Outcomes.{overflow, depletion, not_found, disconnected}
use Rattle.herm_instructions.specs.Instructions.{negative, of_in, Choice, Step, Const, Load, Apply, Combine, Store, New, Unite, CaseOf, Get, LoopStart, LoopNext, LoopDrop, Connect, Select, Call, Raise, End, EndBy}
use Rattle.herm_instructions.specs.Labels.{ListedLabel}
use Rattle.herm_instructions.specs.tests.GoodTests.{CodeRule, typed, stack, facts, slots, arrives, goes_back, landings}
use Rattle.herm_instructions.specs.examples.ExampleImages.{values_at, listed, lands}
use Rattle.herm_instructions.specs.examples.CodeExamples.{CodeExample, plain, landing}

-- a row is looked for by these two constants as its key
abbrev pub finding_by : (first second : ℕ) → List CodeRule → CodeExample
finding_by x y broken = landing (4 ∷ 18 ∷ 19 ∷ []) (New (2 ∷ []) 19 ∷ Const x ∷ Const y ∷ Get (1 ∷ []) (2 ∷ []) 2 ∷ End ∷ EndBy not_found ∷ [])
    ([] ∷ [] ∷ [] ∷ (lands not_found 5 ∷ []) ∷ [] ∷ [] ∷ []) (listed 5 [] (values_at ((0 ∷ []) ∷ (2 ∷ []) ∷ [])) [] ∷ []) broken

-- these two constants are arguments of a call
abbrev pub calling_with : (first second : ℕ) → List CodeRule → CodeExample
calling_with x y broken = landing (22 ∷ 23 ∷ []) (Connect (1 ∷ []) (0 ∷ []) ∷ Const x ∷ Const y ∷ Call (1 ∷ []) (of_in ∷ of_in ∷ []) [] ∷ End ∷ EndBy disconnected ∷ [])
    ([] ∷ [] ∷ [] ∷ (lands disconnected 5 ∷ []) ∷ [] ∷ [] ∷ []) (listed 5 [] (values_at ((0 ∷ []) ∷ (1 ∷ []) ∷ [])) [] ∷ []) broken

abbrev pub choice : (port target index : ℕ) → Choice
choice i x n = record { port = i ∷ []; target = x ∷ []; index = n }

-- a string is received from one of two ports, and these facts are listed behind the second arm
abbrev pub choosing : List Fact → List CodeRule → CodeExample
choosing behind broken = landing (4 ∷ 4 ∷ 2 ∷ []) (Step ∷ New (1 ∷ []) 4 ∷ Step ∷ Select (choice 0 2 4 ∷ choice 1 2 5 ∷ []) ∷ End ∷ End ∷ EndBy depletion ∷ [])
    ([] ∷ (lands depletion 6 ∷ []) ∷ [] ∷ [] ∷ [] ∷ [] ∷ [] ∷ [])
    (listed 4 [] (values_at ((0 ∷ []) ∷ (1 ∷ []) ∷ (2 ∷ []) ∷ [])) [] ∷ listed 5 [] behind [] ∷ listed 6 [] (values_at ((0 ∷ []) ∷ [])) [] ∷ []) broken

-- a variant of two components goes to these indices
abbrev pub components : List ℕ → List ListedLabel → List CodeRule → CodeExample
components indices labels broken = plain (4 ∷ 1 ∷ 20 ∷ []) (Const 0 ∷ Store (1 ∷ []) ∷ Unite (2 ∷ []) 0 (1 ∷ []) ∷ CaseOf (2 ∷ []) indices ∷ End ∷ End ∷ []) labels broken

abbrev known : ℕ → List Fact
known c = values_at ((0 ∷ []) ∷ (2 ∷ []) ∷ []) ++ case (2 ∷ []) c ∷ []

-- a loop within a loop, whose slots are dropped so
abbrev pub within_loop : (first second : ℕ) → List CodeRule → CodeExample
within_loop x y broken = plain (4 ∷ 9 ∷ []) (New (1 ∷ []) 9 ∷ LoopStart (1 ∷ []) 0 ∷ LoopStart (1 ∷ []) 1 ∷ LoopDrop x ∷ LoopDrop y ∷ End ∷ []) [] broken

abbrev pub odd_places : List CodeExample
odd_places =
    -- a copy of a record whose fields are not there; two strings that are joined, with no landing
    plain (4 ∷ 15 ∷ []) (New (1 ∷ []) 15 ∷ Load (1 ∷ []) ∷ Store (1 ∷ []) ∷ End ∷ []) [] (facts ∷ [])
    ∷ plain (4 ∷ []) (Const 5 ∷ Const 5 ∷ Combine concatenated ∷ End ∷ []) [] (landings ∷ [])
    -- a number and a string as a key, and as arguments: the first one is pushed first
    ∷ finding_by 0 5 []
    ∷ finding_by 5 0 (stack ∷ [])
    ∷ calling_with 0 5 []
    ∷ calling_with 5 0 (stack ∷ [])
    -- two arms, each with what it received; two components, each with its index
    ∷ choosing (values_at ((0 ∷ []) ∷ (1 ∷ []) ∷ (2 ∷ []) ∷ [])) []
    ∷ choosing (values_at ((0 ∷ []) ∷ (1 ∷ []) ∷ [])) (arrives ∷ [])
    ∷ components (4 ∷ 5 ∷ []) (listed 4 [] (known 0) [] ∷ listed 5 [] (known 1) [] ∷ []) []
    ∷ components (4 ∷ 5 ∷ []) (listed 4 [] (known 1) [] ∷ listed 5 [] (known 1) [] ∷ []) (arrives ∷ [])
    ∷ components (4 ∷ []) (listed 4 [] (known 0) [] ∷ []) (typed ∷ [])
    -- both slots are dropped, and one of them twice
    ∷ within_loop 1 0 []
    ∷ within_loop 0 1 []
    ∷ within_loop 1 1 (slots ∷ [])
    -- the next row of the outer loop, within the inner one
    ∷ plain (4 ∷ 8 ∷ 9 ∷ []) (New (2 ∷ []) 9 ∷ LoopStart (2 ∷ []) 0 ∷ LoopStart (2 ∷ []) 1 ∷ LoopNext (1 ∷ []) 0 5 ∷ End ∷ End ∷ [])
    (listed 5 [] (values_at ((0 ∷ []) ∷ (2 ∷ []) ∷ [])) (record { number = 1; row = 8 } ∷ record { number = 0; row = 8 } ∷ []) ∷ []) []
    -- control does not go on behind an exception that is raised, which lands at its own step
    ∷ landing (4 ∷ []) (Step ∷ Raise overflow ∷ []) ([] ∷ (lands overflow 0 ∷ []) ∷ []) (listed 0 [] (values_at ((0 ∷ []) ∷ [])) [] ∷ []) []
    -- strings that are joined land at one exception alone
    ∷ landing (4 ∷ []) (Const 5 ∷ Const 5 ∷ Combine concatenated ∷ End ∷ EndBy depletion ∷ []) ([] ∷ [] ∷ (lands depletion 4 ∷ []) ∷ [] ∷ [] ∷ []) (listed 4 [] (values_at ((0 ∷ []) ∷ [])) [] ∷ []) []
    -- constants alone stand between a step and a call
    ∷ landing (22 ∷ 23 ∷ []) (Connect (1 ∷ []) (0 ∷ []) ∷ Step ∷ Const 0 ∷ Const 5 ∷ Call (1 ∷ []) (of_in ∷ of_in ∷ []) [] ∷ End ∷ EndBy disconnected ∷ [])
    ([] ∷ [] ∷ [] ∷ [] ∷ (lands disconnected 6 ∷ []) ∷ [] ∷ [] ∷ []) (listed 6 [] (values_at ((0 ∷ []) ∷ (1 ∷ []) ∷ [])) [] ∷ []) []
    -- an exception lands at a step with a stack, where it arrives without one
    ∷ landing (4 ∷ []) (Const 0 ∷ Step ∷ Apply negative ∷ End ∷ []) ([] ∷ [] ∷ (lands overflow 1 ∷ []) ∷ [] ∷ []) (listed 1 (1 ∷ []) (values_at ((0 ∷ []) ∷ [])) [] ∷ []) (arrives ∷ goes_back ∷ [])
    ∷ []
