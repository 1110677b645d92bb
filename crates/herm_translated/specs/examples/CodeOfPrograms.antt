-- The code of small programs by hand, instruction by instruction.
use Rattle.std.specs.Prelude.{ℕ, List, [], ◌∷◌, ◌++◌, map, Some, option_map, slice_get, ◌≡◌}
use Rattle.herm_model.specs.Expressions.{at_most, plus}
use Rattle.herm_model.specs.Outcomes.{overflow, depletion, duplicate_key, disconnected}
use Rattle.herm_instructions.specs.Instructions.{Instruction, as_text, Step, Const, Load, Apply, Combine, Store, Jump, JumpFalse, New, Insert, LoopStart, LoopNext, LoopDrop, Send, Receive, Drop, End, EndBy}
use Rattle.herm_instructions.specs.Images.{Landing, CodeModule, Image}
use Rattle.herm_instructions.specs.GoodCode.{listed_indices}
use Rattle.herm_translated.specs.Layout.{Line}

abbrev pub plain : Instruction → Line
plain i = record { instruction = i; landings = [] }

abbrev pub landing : Instruction → List Landing → Line
landing i landings = record { instruction = i; landings = landings }

abbrev pub to : (exception index : ℕ) → Landing
to e i = record { exception = e; index = i }

-- receive m from start; s := "hi"; send s to m.out;
abbrev pub greeting_lines : List Line
greeting_lines =
    plain (Jump 1)
    -- 1, 3, 6
    ∷ plain Step ∷ plain (Receive (1 ∷ []) (0 ∷ []))
    ∷ plain Step ∷ plain (Const 0) ∷ plain (Store (2 ∷ []))
    ∷ plain Step ∷ landing (Send (2 ∷ []) (1 ∷ 1 ∷ []) []) (to disconnected 9 ∷ []) ∷ plain End ∷ plain (EndBy disconnected) ∷ []

-- receive m from start; new t; and two rows
abbrev pub two_rows_lines : List Line
two_rows_lines =
    plain (Jump 1)
    -- 1, 3
    ∷ plain Step ∷ plain (Receive (1 ∷ []) (0 ∷ []))
    ∷ plain Step ∷ plain (New (3 ∷ []) 9)
    -- 5, 7, 10
    ∷ plain Step ∷ plain (New (2 ∷ []) 8)
    ∷ plain Step ∷ plain (Const 0) ∷ plain (Store (2 ∷ 0 ∷ []))
    ∷ plain Step ∷ landing (Insert (2 ∷ []) (3 ∷ [])) (to depletion 13 ∷ to duplicate_key 14 ∷ []) ∷ plain (Jump 15) ∷ plain (EndBy depletion) ∷ plain (EndBy duplicate_key)
    -- 15, 17, 20
    ∷ plain Step ∷ plain (New (2 ∷ []) 8)
    ∷ plain Step ∷ plain (Const 1) ∷ plain (Store (2 ∷ 0 ∷ []))
    ∷ plain Step ∷ landing (Insert (2 ∷ []) (3 ∷ [])) (to depletion 23 ∷ to duplicate_key 24 ∷ []) ∷ plain (Jump 25) ∷ plain (EndBy depletion) ∷ plain (EndBy duplicate_key) ∷ []

-- the same, and  for r in t { s := text(r.k); send s to m.out; leave; }
abbrev pub left_loop_lines : List Line
left_loop_lines =
    two_rows_lines
    -- 25
    ++ plain Step ∷ plain (LoopStart (3 ∷ []) 9) ∷ plain (Jump 29) ∷ plain Step ∷ plain (LoopNext (2 ∷ []) 9 31) ∷ plain (Jump 32) ∷ plain End
    -- 32, 36, 40
    ∷ plain Step ∷ plain (Load (2 ∷ 0 ∷ [])) ∷ plain (Apply as_text) ∷ plain (Store (4 ∷ []))
    ∷ plain Step ∷ landing (Send (4 ∷ []) (1 ∷ 1 ∷ []) []) (to disconnected 39 ∷ []) ∷ plain (Jump 40) ∷ plain (EndBy disconnected)
    ∷ plain Step ∷ plain End ∷ []

-- the same, and  for r in t { for q in t { leave; } leave; }
abbrev pub nested_loops_lines : List Line
nested_loops_lines =
    two_rows_lines
    -- 25, 32
    ++ plain Step ∷ plain (LoopStart (3 ∷ []) 9) ∷ plain (Jump 29) ∷ plain Step ∷ plain (LoopNext (2 ∷ []) 9 31) ∷ plain (Jump 32) ∷ plain End
    ∷ plain Step ∷ plain (LoopStart (3 ∷ []) 10) ∷ plain (Jump 36) ∷ plain Step ∷ plain (LoopNext (4 ∷ []) 10 38) ∷ plain (Jump 40) ∷ plain (LoopDrop 10) ∷ plain (Jump 44)
    -- 40, 44
    ∷ plain Step ∷ plain (Drop (4 ∷ [])) ∷ plain (LoopDrop 10) ∷ plain (Jump 44)
    ∷ plain Step ∷ plain End ∷ []

-- receive j from start; k := 1; while k <= [N] { new x; x.who := j.who; x.n := k; send x to j.dest; k := k + 1; }
abbrev pub sender_lines : List Line
sender_lines =
    plain (Jump 1)
    -- 1, 3, 6
    ∷ plain Step ∷ plain (Receive (1 ∷ []) (0 ∷ []))
    ∷ plain Step ∷ plain (Const 0) ∷ plain (Store (3 ∷ []))
    ∷ plain Step ∷ plain (Load (3 ∷ [])) ∷ plain (Const 1) ∷ plain (Combine at_most) ∷ plain (JumpFalse 12) ∷ plain (Jump 13) ∷ plain End
    -- 13, 15, 18
    ∷ plain Step ∷ plain (New (2 ∷ []) 8)
    ∷ plain Step ∷ plain (Load (1 ∷ 0 ∷ [])) ∷ plain (Store (2 ∷ 0 ∷ []))
    ∷ plain Step ∷ plain (Load (3 ∷ [])) ∷ plain (Store (2 ∷ 1 ∷ []))
    -- 21, 25
    ∷ plain Step ∷ landing (Send (2 ∷ []) (1 ∷ 1 ∷ []) []) (to disconnected 24 ∷ []) ∷ plain (Jump 25) ∷ plain (EndBy disconnected)
    ∷ plain Step ∷ plain (Load (3 ∷ [])) ∷ plain (Const 0) ∷ landing (Combine plus) (to overflow 31 ∷ []) ∷ plain (Store (3 ∷ [])) ∷ plain (Jump 6) ∷ plain (EndBy overflow) ∷ []

-- the module at a place of an image has these lines
abbrev pub HasLines : Image → (place : ℕ) → List Line → Type 0
HasLines image n lines =
    (option_map (λ (m : CodeModule). m.code) (slice_get image.modules n) ≡ Some (map (λ (l : Line). l.instruction) lines))
    × (option_map (λ (m : CodeModule). m.landings) (slice_get image.modules n) ≡ Some (map (λ (l : Line). l.landings) lines))

-- the indices for which the module at a place of an image lists labels
abbrev pub ListsIndices : Image → (place : ℕ) → List ℕ → Type 0
ListsIndices image n indices = option_map listed_indices (slice_get image.modules n) ≡ Some indices
