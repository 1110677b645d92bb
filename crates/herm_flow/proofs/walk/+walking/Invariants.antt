use Rattle.std.proofs.Common.{◌+◌, ◌*◌, List, map, drop}
use Rattle.herm_model.specs.Nodes.{nodes_in, nodes_of_choices, nodes_of_catches}
use Rattle.herm_model.specs.Statements.{numbers_of, numbers_of_block, numbers_of_blocks, numbers_of_handlers}
use Rattle.herm_model.specs.ControlPaths.{Point, point}
use Rattle.herm_typed.specs.declared.statements.TypedStmt.{out-TypedStmt}
use Rattle.herm_typed.specs.View.{typed_form_view, typed_stmts_view}
use Rattle.herm_typed.specs.Blocks.{handlers_list}
use Rattle.herm_judge.specs.View.{table_of, variables_of}
use Rattle.herm_flow.specs.Parts.{blocks_of}
use Rattle.herm_flow.specs.Around.{around_view}
use Rattle.herm_flow.specs.Kept.{points_view, Adds}
use Rattle.herm_flow.proofs.walk.+walking.Given as goal

-- Each invariant: the points so far, with those of what is left behind them, are those of the whole.
abbrev pub invariant-walk_blocks-each : goal.invariant-walk_blocks-each
invariant-walk_blocks-each l = (last : List Point) →
    Adds l.around.kept (points_view l.around.kept l.points) last (map (point (table_of l.frame) (variables_of l.frame)) (nodes_of_choices (blocks_of (map (λ b. b.now) (drop l.block-index l.blocks))) l.at.number l.at.from (around_view l.around)))
    → Adds l.around.kept (points_view l.around.kept l.fn.points) last (map (point (table_of l.frame) (variables_of l.frame)) (nodes_of_choices (blocks_of (map (λ b. b.now) l.blocks)) l.fn.first.number l.fn.first.from (around_view l.around)))

abbrev pub invariant-walk_handlers-each : goal.invariant-walk_handlers-each
invariant-walk_handlers-each l = (last : List Point) →
    Adds l.around.kept (points_view l.around.kept l.points) last (map (point (table_of l.frame) (variables_of l.frame)) (nodes_of_catches (handlers_list (drop l.body-index l.handled)) l.at.number l.at.from (around_view l.around)))
    → Adds l.around.kept (points_view l.around.kept l.fn.points) last (map (point (table_of l.frame) (variables_of l.frame)) (nodes_of_catches (handlers_list l.handled) l.fn.first.number l.fn.first.from (around_view l.around)))

abbrev pub invariant-walk_block-statements : goal.invariant-walk_block-statements
invariant-walk_block-statements l = (last : List Point) →
    Adds l.around.kept (points_view l.around.kept l.points) last (map (point (table_of l.frame) (variables_of l.frame)) (nodes_in (typed_stmts_view (drop l.i l.list)) l.at.number l.at.from (around_view l.around)))
    → Adds l.around.kept (points_view l.around.kept l.fn.points) last (map (point (table_of l.frame) (variables_of l.frame)) (nodes_in (typed_stmts_view l.list) l.fn.first.number l.fn.first.from (around_view l.around)))

-- The measures: statements within, and how far the call is from them.
abbrev pub decreases-walk_blocks : goal.decreases-walk_blocks
decreases-walk_blocks l = 6 * numbers_of_blocks (blocks_of (map (λ b. b.now) l.blocks.now)) + 3

abbrev pub decreases-walk_handlers : goal.decreases-walk_handlers
decreases-walk_handlers l = 6 * numbers_of_handlers (handlers_list l.handled.now) + 3

abbrev pub decreases-walk_choosing : goal.decreases-walk_choosing
decreases-walk_choosing l = 6 * numbers_of_blocks (blocks_of (map (λ b. b.now) l.blocks.now)) + 4

abbrev pub decreases-walk_repeating : goal.decreases-walk_repeating
decreases-walk_repeating l = 6 * numbers_of_block (typed_stmts_view l.body.now) + 4

abbrev pub decreases-walk_trying : goal.decreases-walk_trying
decreases-walk_trying l = 6 * (numbers_of_block (typed_stmts_view l.body.now) + numbers_of_handlers (handlers_list l.handled.now)) + 4

abbrev pub decreases-walk_form : goal.decreases-walk_form
decreases-walk_form l = 6 * numbers_of (typed_form_view (out-TypedStmt l.s.now).form)

abbrev pub decreases-walk_block : goal.decreases-walk_block
decreases-walk_block l = 6 * numbers_of_block (typed_stmts_view l.list.now) + 1
