use Rattle.std.proofs.Common.{◌≡◌, [], map, length, sym, ap, ap₂, ◌∙◌}
use Rattle.herm_typed.specs.View.{typed_process_view, typed_stmts_view}
use Rattle.herm_translated.specs.CodeBlocks.{blocks_of}
use Rattle.herm_translated.specs.Settled.{settled}
use Rattle.herm_fronts.specs.Blocks.{departure_view}
use Rattle.herm_fronts.specs.Frames.{kinds}
use Rattle.herm_fronts.specs.Walked.{no_nodes, walk_block}
use Rattle.herm_blocks.specs.CheckedProcesses.{checked_view}
use Rattle.herm_blocks.specs.Marked.{marked_of}
use Rattle.herm_blocks.specs.Seen.{seen_node, seen_nodes, marked_block}
use Rattle.herm_blocks.proofs.ProcessBlocks.{forms-many, entry-joined, marked-joined, blocks-plain, blocks-marked}
use Rattle.herm_blocks.proofs.blocks.blocks_of.Goals as goal

pub nodes_of-requires : goal.nodes_of-requires
nodes_of-requires c = record {
  many =
      ap length c.as_slice-4.ensures.value
      ∙ (forms-many c.args.types.now.shapes c.args.checked.now c.in_ok-found.found c.requires.flow (c.in_ok-found.ensures ∙ ap (λ b. walk_block (typed_stmts_view b) no_nodes) c.as_slice-3.ensures.value) ∙ ap length (sym c.as_slice-points.ensures.value));
}

pub returns-clause-entry : goal.returns-clause-entry
returns-clause-entry c =
    entry-joined c.args.types.now.shapes c.args.checked.now c.in_ok-found.found c.requires.flow (c.in_ok-found.ensures ∙ ap (λ b. walk_block (typed_stmts_view b) no_nodes) c.as_slice-3.ensures.value)
    c.in_ok-lengths.lengths.items _ _ (kinds c.as_slice-2.result.now) c.as_slice-5.result.now [] [] (departure_view c.in_ok-blocks.blocks.entry)
    c.as_slice-7.ensures.value (c.as_slice-6.ensures.value ∙ (c.in_ok-numbers.ensures.numbers ∙ ap (map (λ x. x.stmt.0)) c.as_slice-points.ensures.value))
    (ap kinds c.as_slice-2.ensures.value ∙ (c.in_ok-of.ensures.types ∙ ap (map (λ x. x.of.0)) c.as_slice.ensures.value)) c.as_slice-5.ensures.value c.in_ok-lengths.ensures c.in_ok-blocks.ensures.entry

all-marked : (c : goal.After-drop-of-2) → map marked_block c.in_ok-blocks.blocks.blocks.items ≡ map (marked_of c.args.types.now.shapes (typed_process_view c.args.checked.now.process.now).variables) (blocks_of (settled (checked_view c.args.types.now.shapes c.args.checked.now)))
all-marked c =
    marked-joined c.args.types.now.shapes c.args.checked.now c.in_ok-found.found c.requires.flow (c.in_ok-found.ensures ∙ ap (λ b. walk_block (typed_stmts_view b) no_nodes) c.as_slice-3.ensures.value)
    c.in_ok-lengths.lengths.items _ _ (kinds c.as_slice-2.result.now) c.as_slice-5.result.now (map seen_node c.as_slice-8.result.now) (map marked_block c.in_ok-blocks.blocks.blocks.items) (departure_view c.in_ok-blocks.blocks.entry)
    c.as_slice-7.ensures.value (c.as_slice-6.ensures.value ∙ (c.in_ok-numbers.ensures.numbers ∙ ap (map (λ x. x.stmt.0)) c.as_slice-points.ensures.value))
    (ap kinds c.as_slice-2.ensures.value ∙ (c.in_ok-of.ensures.types ∙ ap (map (λ x. x.of.0)) c.as_slice.ensures.value)) c.as_slice-5.ensures.value c.in_ok-lengths.ensures c.in_ok-blocks.ensures.entry
    (ap (map seen_node) c.as_slice-8.ensures.value ∙ (c.in_ok-nodes.ensures.nodes ∙ ap₂ (λ fs ps. seen_nodes (map (λ f. f.now) fs) ps) c.as_slice-4.ensures.value c.as_slice-points.ensures.value))
    c.in_ok-blocks.ensures.blocks

pub returns-clause-blocks : goal.returns-clause-blocks
returns-clause-blocks c = blocks-plain c.args.types.now.shapes (typed_process_view c.args.checked.now.process.now).variables c.in_ok-blocks.blocks.blocks.items _ (all-marked c)

pub returns-clause-marked : goal.returns-clause-marked
returns-clause-marked c = λ x member. blocks-marked c.args.types.now.shapes (typed_process_view c.args.checked.now.process.now).variables c.in_ok-blocks.blocks.blocks.items _ x (all-marked c) member
