-- Code that breaks one rule of good code, of which no process can begin, or none can make its first step: the instructions do not go through.
use Rattle.std.specs.Prelude.{List, [], ◌∷◌, is_some, Bool, Option, option_and_then}
use Rattle.herm_model.specs.Outcomes.{overflow}
use Rattle.herm_model.specs.Values.{Name, an_inport, cell, no_parts}
use Rattle.herm_instructions.specs.Instructions.{negative, Step, Const, Load, Apply, Store, Jump, New, Discard, Remove, LoopStart, LoopNext, LoopDrop, End, EndBy}
use Rattle.herm_instructions.specs.Labels.{listed_at}
use Rattle.herm_instructions.specs.Images.{CodeModule}
use Rattle.herm_instructions.specs.tests.GoodTests.{port, code, typed, stack, facts, slots, in_range, begins, arrives, goes_back, landings}
use Rattle.herm_instructions.specs.examples.ExampleImages.{values_at, listed, lands}
use Rattle.herm_instructions.specs.examples.CodeExamples.{CodeExample, plain, landing}
use Rattle.herm_instructions.specs.laws.CodeExampleLaws.{example_image}
use Rattle.herm_code_machine.specs.ReadyCode.{ready_image}
use Rattle.herm_code_machine.specs.CodeInstance.{code_machine}
use Rattle.herm_code_machine.specs.CodeStates.{CodeState}
use Rattle.herm_system.specs.Machines.{Machine}

-- a module beside one that denies calls, as a machine; and a process of it as it begins with an inport
abbrev machine_of : CodeModule → Machine Name (CodeState Name)
machine_of m = code_machine (ready_image (example_image m) 1 (λ (m : CodeModule) index. listed_at m.labels index))

abbrev begun : CodeModule → Option (CodeState Name)
begun m = (machine_of m).begin 1 1 (cell (0, 1) (an_inport 1) no_parts)

-- whether a process of a module can begin, and can make a local step then
abbrev pub can_begin : CodeModule → Bool
can_begin m = is_some (begun m)

abbrev pub can_step : CodeModule → Bool
can_step m = is_some (option_and_then (machine_of m).local_step (begun m))

-- The minus of nothing; no such constant; what has no value is discarded; the next row of no slot; nothing behind the last instruction; a jump to
-- itself; an exception that lands nowhere; no code; a label that says more than what arrives; the minus of the inport that every process begins with.
abbrev pub stuck_code : List CodeExample
stuck_code =
    landing (4 ∷ []) (Apply negative ∷ End ∷ EndBy overflow ∷ []) ((lands overflow 2 ∷ []) ∷ [] ∷ [] ∷ []) (listed 2 [] (values_at ((0 ∷ []) ∷ [])) [] ∷ []) (stack ∷ [])
    ∷ plain (4 ∷ []) (Const 6 ∷ End ∷ []) [] (typed ∷ [])
    ∷ plain (4 ∷ 2 ∷ []) (Discard (1 ∷ []) ∷ End ∷ []) [] (facts ∷ [])
    ∷ plain (4 ∷ 8 ∷ []) (LoopNext (1 ∷ []) 0 2 ∷ End ∷ End ∷ []) (listed 2 [] (values_at ((0 ∷ []) ∷ [])) [] ∷ []) (slots ∷ [])
    ∷ plain (4 ∷ []) (Const 0 ∷ []) [] (in_range ∷ [])
    ∷ plain (4 ∷ []) (Jump 0 ∷ []) (listed 0 [] (values_at ((0 ∷ []) ∷ [])) [] ∷ []) (goes_back ∷ [])
    ∷ plain (4 ∷ 8 ∷ 9 ∷ []) (New (2 ∷ []) 9 ∷ Const 0 ∷ Remove (1 ∷ []) (2 ∷ []) 1 ∷ End ∷ []) [] (landings ∷ [])
    ∷ plain (4 ∷ []) [] [] (code ∷ [])
    ∷ plain (4 ∷ 2 ∷ []) (Jump 1 ∷ Discard (1 ∷ []) ∷ End ∷ []) (listed 1 [] (values_at ((0 ∷ []) ∷ (1 ∷ []) ∷ [])) [] ∷ []) (arrives ∷ [])
    ∷ landing (1 ∷ []) (Load (0 ∷ []) ∷ Apply negative ∷ Store (0 ∷ []) ∷ End ∷ EndBy overflow ∷ []) ([] ∷ (lands overflow 4 ∷ []) ∷ [] ∷ [] ∷ [] ∷ []) (listed 4 [] (values_at ((0 ∷ []) ∷ [])) [] ∷ [])
    (port ∷ [])
    ∷ []

-- The same, mended.
abbrev pub mended_code : List CodeExample
mended_code =
    landing (4 ∷ []) (Const 0 ∷ Apply negative ∷ End ∷ EndBy overflow ∷ []) ([] ∷ (lands overflow 3 ∷ []) ∷ [] ∷ [] ∷ []) (listed 3 [] (values_at ((0 ∷ []) ∷ [])) [] ∷ []) []
    ∷ plain (4 ∷ []) (Const 0 ∷ End ∷ []) [] []
    ∷ plain (4 ∷ []) (Discard (0 ∷ []) ∷ End ∷ []) [] []
    ∷ plain (4 ∷ 9 ∷ []) (New (1 ∷ []) 9 ∷ LoopStart (1 ∷ []) 0 ∷ LoopDrop 0 ∷ End ∷ []) [] []
    ∷ plain (4 ∷ []) (Step ∷ Jump 0 ∷ []) (listed 0 [] (values_at ((0 ∷ []) ∷ [])) [] ∷ []) []
    ∷ plain (4 ∷ 2 ∷ []) (Const 5 ∷ Store (1 ∷ []) ∷ Jump 3 ∷ Discard (1 ∷ []) ∷ End ∷ []) (listed 3 [] (values_at ((0 ∷ []) ∷ (1 ∷ []) ∷ [])) [] ∷ []) []
    ∷ []

-- At index 0 more is said to be there than a process begins with: the first step is stuck. And the same, mended.
abbrev pub stuck_step : CodeExample
stuck_step = plain (4 ∷ 2 ∷ []) (Step ∷ Discard (1 ∷ []) ∷ Const 5 ∷ Store (1 ∷ []) ∷ Jump 0 ∷ []) (listed 0 [] (values_at ((0 ∷ []) ∷ (1 ∷ []) ∷ [])) [] ∷ []) (begins ∷ [])

abbrev pub mended_step : CodeExample
mended_step = plain (4 ∷ 2 ∷ []) (Const 5 ∷ Store (1 ∷ []) ∷ Step ∷ Discard (1 ∷ []) ∷ Const 5 ∷ Store (1 ∷ []) ∷ Jump 2 ∷ []) (listed 2 [] (values_at ((0 ∷ []) ∷ (1 ∷ []) ∷ [])) [] ∷ []) []
