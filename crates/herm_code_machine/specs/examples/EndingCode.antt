-- Code by hand that ends by an exception, and code whose action has no step of its own.
use Rattle.std.specs.Prelude.{[], ◌∷◌, ◌++◌, codes}
use Rattle.herm_model.specs.Expressions.{Literal}
use Rattle.herm_model.specs.Outcomes.{overflow, disconnected}
use Rattle.herm_instructions.specs.Instructions.{Step, Const, Store, Send, Raise, End, EndBy}
use Rattle.herm_instructions.specs.Images.{Image}
use Rattle.herm_code_machine.specs.examples.CodeByHand.{line, landing, to, module_by, image_by, variable, part_in, listed, start_paths, receives_start}

-- process main(start: main_start) { var m: main_message; receive m from start; raise Overflow; }
abbrev pub raising : Image
raising = image_by [] []
    (module_by (7 ∷ 6 ∷ []) (receives_start ++ line Step ∷ landing (Raise overflow) (to overflow 4 ∷ []) ∷ line (EndBy overflow) ∷ [])
    (listed 4 start_paths [] ∷ [])
    ∷ [])

-- The greeting with one step for all of it, so that its send begins a piece without one.
abbrev pub greeting_in_one_step : Image
greeting_in_one_step = image_by [] (Literal.text (codes "hi") ∷ [])
    (module_by (7 ∷ 6 ∷ 2 ∷ []) (
    receives_start ++ line (Const 0) ∷ line (Store (variable 2)) ∷ landing (Send (variable 2) (part_in 1 1) []) (to disconnected 6 ∷ []) ∷ line End ∷ line (EndBy disconnected) ∷ [])
    (listed 6 (start_paths ++ variable 2 ∷ []) [] ∷ [])
    ∷ [])
