-- The code by hand of programs whose edges drop several values or leave several loops, that begin without their port, whose arms are turned, or that send a part of what they hold.
use Rattle.std.specs.Prelude.{List, [], ◌∷◌, ◌++◌}
use Rattle.herm_model.specs.Outcomes.{overflow, depletion, disconnected}
use Rattle.herm_instructions.specs.Instructions.{Step, Const, Store, Jump, JumpFalse, New, Discard, Unite, CaseOf, LoopStart, LoopNext, LoopDrop, Connect, Send, Receive, Raise, Drop, End, EndBy}
use Rattle.herm_translated.specs.Layout.{Line}
use Rattle.herm_translated.specs.examples.CodeOfPrograms.{plain, landing, to, two_rows_lines}

-- An edge that leaves both loops drops both rows, and then what is left of the inner loop before what is left of the outer one.
abbrev pub raised_out_of_loops_lines : List Line
raised_out_of_loops_lines =
    two_rows_lines
    -- 25, 33
    ++ plain Step ∷ plain (LoopStart (3 ∷ []) 10) ∷ plain (Jump 29) ∷ plain Step ∷ plain (LoopNext (2 ∷ []) 10 31) ∷ plain (Jump 33) ∷ plain (LoopDrop 10) ∷ plain (Jump 49)
    ∷ plain Step ∷ plain (LoopStart (3 ∷ []) 11) ∷ plain (Jump 37) ∷ plain Step ∷ plain (LoopNext (4 ∷ []) 11 39) ∷ plain (Jump 42) ∷ plain (Drop (2 ∷ [])) ∷ plain (LoopDrop 11) ∷ plain (Jump 28)
    -- 42, 49
    ∷ plain Step ∷ landing (Raise overflow) (to overflow 44 ∷ []) ∷ plain (Drop (2 ∷ [])) ∷ plain (Drop (4 ∷ [])) ∷ plain (LoopDrop 11) ∷ plain (LoopDrop 10) ∷ plain (Jump 49)
    ∷ plain Step ∷ plain (Discard (3 ∷ [])) ∷ plain End ∷ []

-- The edge to where a process begins drops its port, where a later visit of its first statement has none.
abbrev pub opened_again_lines : List Line
opened_again_lines =
    plain (Drop (0 ∷ [])) ∷ plain (Jump 2)
    -- 2, 7, 11
    ∷ plain Step ∷ plain (Const 0) ∷ plain (JumpFalse 6) ∷ plain (Jump 7) ∷ plain End
    ∷ plain Step ∷ landing (New (0 ∷ []) 7) (to depletion 10 ∷ []) ∷ plain (Jump 11) ∷ plain (EndBy depletion)
    ∷ plain Step ∷ plain (Discard (0 ∷ [])) ∷ plain (Jump 2) ∷ []

-- An empty body ends at once.
abbrev pub empty_body_lines : List Line
empty_body_lines = plain End ∷ []

-- The indices of a `case` go by components, its edges by arms.
abbrev pub arms_turned_lines : List Line
arms_turned_lines =
    plain (Jump 1)
    -- 1, 4, 6
    ∷ plain Step ∷ plain (Const 0) ∷ plain (Store (2 ∷ []))
    ∷ plain Step ∷ plain (Unite (1 ∷ []) 0 (2 ∷ []))
    ∷ plain Step ∷ plain (CaseOf (1 ∷ []) (9 ∷ 8 ∷ [])) ∷ plain (Jump 10) ∷ plain (Jump 13)
    -- 10, 13
    ∷ plain Step ∷ plain (Discard (1 ∷ [])) ∷ plain End
    ∷ plain Step ∷ plain (Discard (1 ∷ [])) ∷ plain End ∷ []

-- What a message holds beyond what it travels with is trimmed.
abbrev pub sends_part_lines : List Line
sends_part_lines =
    plain (Jump 1)
    -- 1, 3, 7, 9
    ∷ plain Step ∷ plain (Receive (1 ∷ []) (0 ∷ []))
    ∷ plain Step ∷ landing (New (2 ∷ []) 9) (to depletion 6 ∷ []) ∷ plain (Jump 7) ∷ plain (EndBy depletion)
    ∷ plain Step ∷ plain (Connect (3 ∷ []) (2 ∷ []))
    ∷ plain Step ∷ plain (New (4 ∷ []) 8)
    -- 11, 14, 17
    ∷ plain Step ∷ plain (Const 0) ∷ plain (Store (4 ∷ 0 ∷ []))
    ∷ plain Step ∷ plain (Const 1) ∷ plain (Store (4 ∷ 1 ∷ []))
    ∷ plain Step ∷ landing (Send (4 ∷ []) (3 ∷ []) ((4 ∷ 1 ∷ []) ∷ [])) (to disconnected 20 ∷ []) ∷ plain End ∷ plain (EndBy disconnected) ∷ []
