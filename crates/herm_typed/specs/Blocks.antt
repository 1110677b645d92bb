-- Statements with blocks over the lists that the code has.
use Rattle.std.specs.Prelude.{ℕ, List, [], ◌∷◌, map, Option, Some, None, Vec}
use Rattle.std.specs.Global.{Global}
use Rattle.herm_base.specs.declared.numbers.ExcNo.{ExcNo}
use Rattle.herm_model.specs.Statements.{Arm, Block, no_statements, Blocks, no_blocks, block, Handlers, no_handlers, handler}
use Rattle.herm_typed.specs.declared.expressions.TypedPath.{TypedPath}
use Rattle.herm_typed.specs.declared.statements.TypedStmt.{TypedStmt}
use Rattle.herm_typed.specs.View.{typed_path_view, typed_stmts_view}

-- the blocks of the arms of a `case`
abbrev pub case_blocks : List (ℕ × Vec TypedStmt Global) → Blocks
case_blocks [] = no_blocks
case_blocks (a ∷ arms) = block (typed_stmts_view a.1.items) (case_blocks arms)

-- an arm of a `select` without its block, and the blocks of its arms
abbrev pub typed_arm_view : TypedPath × TypedPath × Vec TypedStmt Global → Arm
typed_arm_view a = record { target = typed_path_view a.1; port = typed_path_view a.0 }

abbrev pub select_blocks : List (TypedPath × TypedPath × Vec TypedStmt Global) → Blocks
select_blocks [] = no_blocks
select_blocks (a ∷ arms) = block (typed_stmts_view a.2.items) (select_blocks arms)

-- the block behind `else`, empty where there is none
abbrev pub else_block : Option (Vec TypedStmt Global) → Block
else_block None = no_statements
else_block (Some body) = typed_stmts_view body.items

-- the handlers of a `try`
abbrev pub handlers_list : List (ExcNo × Vec TypedStmt Global) → Handlers
handlers_list [] = no_handlers
handlers_list (h ∷ handlers) = handler h.0.0 (typed_stmts_view h.1.items) (handlers_list handlers)
