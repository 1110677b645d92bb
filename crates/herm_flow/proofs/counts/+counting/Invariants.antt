use Rattle.std.proofs.Common.{◌≡◌, ◌+◌, ◌*◌, map, drop}
use Rattle.herm_model.specs.Statements.{numbers_of, numbers_of_block, numbers_of_blocks, numbers_of_handlers, nodes_of_block, nodes_of_blocks, nodes_of_handlers}
use Rattle.herm_typed.specs.View.{typed_form_view, typed_stmts_view}
use Rattle.herm_typed.specs.Blocks.{handlers_list}
use Rattle.herm_flow.specs.Parts.{blocks_of}
use Rattle.herm_flow.proofs.counts.+counting.Given as goal

-- Each invariant: what was counted so far, with what is left, is the whole.
abbrev pub invariant-count_blocks-each : goal.invariant-count_blocks-each
invariant-count_blocks-each l = record {
  numbers : l.count.numbers + numbers_of_blocks (blocks_of (map (λ b. b.now) (drop l.block-index l.blocks))) ≡ numbers_of_blocks (blocks_of (map (λ b. b.now) l.blocks));
  nodes : l.count.nodes + nodes_of_blocks (blocks_of (map (λ b. b.now) (drop l.block-index l.blocks))) ≡ nodes_of_blocks (blocks_of (map (λ b. b.now) l.blocks));
}

abbrev pub invariant-count_handlers-handlers : goal.invariant-count_handlers-handlers
invariant-count_handlers-handlers l = record {
  numbers : l.count.numbers + numbers_of_handlers (handlers_list (drop l.body-index l.handled)) ≡ numbers_of_handlers (handlers_list l.handled);
  nodes : l.count.nodes + nodes_of_handlers (handlers_list (drop l.body-index l.handled)) ≡ nodes_of_handlers (handlers_list l.handled);
}

abbrev pub invariant-count_block-statements : goal.invariant-count_block-statements
invariant-count_block-statements l = record {
  numbers : l.count.numbers + numbers_of_block (typed_stmts_view (drop l.s-index l.list)) ≡ numbers_of_block (typed_stmts_view l.list);
  nodes : l.count.nodes + nodes_of_block (typed_stmts_view (drop l.s-index l.list)) ≡ nodes_of_block (typed_stmts_view l.list);
}

-- The measures: statements within, and how far the call is from them.
abbrev pub decreases-count_blocks : goal.decreases-count_blocks
decreases-count_blocks l = 6 * numbers_of_blocks (blocks_of (map (λ b. b.now) l.blocks.now)) + 3

abbrev pub decreases-count_handlers : goal.decreases-count_handlers
decreases-count_handlers l = 6 * numbers_of_handlers (handlers_list l.handled.now) + 3

abbrev pub decreases-count_form : goal.decreases-count_form
decreases-count_form l = 6 * numbers_of (typed_form_view l.form.now)

abbrev pub decreases-count_block : goal.decreases-count_block
decreases-count_block l = 6 * numbers_of_block (typed_stmts_view l.list.now) + 1
