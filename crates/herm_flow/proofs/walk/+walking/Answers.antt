use Rattle.std.proofs.Common.{◌+◌, List, [], ◌∷◌, map, flat_map, sym, ap, ap₂, ◌∙◌, Bor, arith}
use Rattle.std.proofs.Math.ListN.{drop_of_length-le}
use Rattle.herm_model.specs.Targets.{node}
use Rattle.herm_model.specs.Nodes.{starts, start_of_block, nodes_in, nodes_of_choices, nodes_of_catches}
use Rattle.herm_model.specs.ControlPaths.{point}
use Rattle.herm_typed.specs.declared.statements.TypedStmt.{TypedStmt}
use Rattle.herm_typed.specs.View.{typed_stmts_view}
use Rattle.herm_typed.specs.Within.{statements_within, all_statements}
use Rattle.herm_typed.specs.Blocks.{handlers_list}
use Rattle.herm_judge.specs.View.{table_of, variables_of}
use Rattle.herm_flow.specs.View.{target_view, catch_view}
use Rattle.herm_flow.specs.Parts.{blocks_of, own_form}
use Rattle.herm_flow.specs.Edges.{point_at}
use Rattle.herm_flow.specs.Around.{around_view, in_loop}
use Rattle.herm_flow.proofs.Sizes.{size_of_block, size_of_handler, size_of_item}
use Rattle.herm_flow.proofs.KnownWithin.{item_known, block_known, handler_known, first_known, rest_known, left_known, right_known, same_known}
use Rattle.herm_flow.proofs.WalkedParts.{choosing_size, repeating_size, trying_size, simple_walked, choosing_walked, repeating_walked, leaving_walked, trying_walked, choosing_within, repeating_within, trying_within}
use Rattle.herm_flow.proofs.KeptPoints.{adds_as, adds_first, adds_trying, adds_end, next_block, next_handler, next_item}
use Rattle.herm_flow.proofs.walk.+walking.Goals as goal

pub walk_blocks-walk_block-requires : goal.walk_blocks-walk_block-requires
walk_blocks-walk_block-requires t c =
    let size = size_of_block c.args.blocks.now c.each.block-index c.block-item.result c.each-test.true c.block-item.is in
    (omega (arith, size, c.decreases), block_known (table_of c.args.frame.now) (variables_of c.args.frame.now) c.args.blocks.now c.each.block-index c.block-item.result c.each-test.true c.block-item.is c.requires.known)

pub walk_handlers-walk_block-requires : goal.walk_handlers-walk_block-requires
walk_handlers-walk_block-requires t c =
    let size = size_of_handler c.args.handled.now c.each.body-index c.each-item.result c.as_slice.result.now c.each-test.true c.each-item.is c.as_slice.ensures.value in
    (omega (arith, size, c.decreases), handler_known (table_of c.args.frame.now) (variables_of c.args.frame.now) c.args.handled.now c.each.body-index c.each-item.result c.as_slice.result.now c.each-test.true c.each-item.is c.as_slice.ensures.value c.requires.known)

pub walk_block-walk_form-requires : goal.walk_block-walk_form-requires
walk_block-walk_form-requires t c =
    let size = size_of_item c.args.list.now c.statements.i c.index-list-i.result c.statements-test.true c.index-list-i.is in
    (omega (arith, size, c.decreases), item_known (table_of c.args.frame.now) (variables_of c.args.frame.now) c.args.list.now c.statements.i c.index-list-i.result c.statements-test.true c.index-list-i.is c.requires.known)

pub walk_choosing-push_point-requires : goal.walk_choosing-push_point-requires
walk_choosing-push_point-requires t c = record { known = first_known (table_of c.args.frame.now) (variables_of c.args.frame.now) c.args.s.now (flat_map all_statements (map (λ b. b.now) c.args.blocks.now)) c.requires.known }

pub walk_choosing-walk_blocks-requires : goal.walk_choosing-walk_blocks-requires
walk_choosing-walk_blocks-requires t c = (omega (arith, c.decreases), rest_known (table_of c.args.frame.now) (variables_of c.args.frame.now) c.args.s.now (flat_map all_statements (map (λ b. b.now) c.args.blocks.now)) c.requires.known)

pub walk_repeating-push_point-requires : goal.walk_repeating-push_point-requires
walk_repeating-push_point-requires t c = record { known = first_known (table_of c.args.frame.now) (variables_of c.args.frame.now) c.args.s.now (all_statements c.args.body.now) c.requires.known }

pub walk_repeating-walk_block-requires : goal.walk_repeating-walk_block-requires
walk_repeating-walk_block-requires t c = (omega (arith, c.decreases), rest_known (table_of c.args.frame.now) (variables_of c.args.frame.now) c.args.s.now (all_statements c.args.body.now) c.requires.known)

pub walk_trying-walk_block-requires : goal.walk_trying-walk_block-requires
walk_trying-walk_block-requires t c = (omega (arith, c.decreases), left_known (table_of c.args.frame.now) (variables_of c.args.frame.now) (all_statements c.args.body.now) (flat_map (λ h. all_statements h.1.items) c.args.handled.now) c.requires.known)

pub walk_trying-walk_handlers-requires : goal.walk_trying-walk_handlers-requires
walk_trying-walk_handlers-requires t c = (omega (arith, c.decreases), right_known (table_of c.args.frame.now) (variables_of c.args.frame.now) (all_statements c.args.body.now) (flat_map (λ h. all_statements h.1.items) c.args.handled.now) c.requires.known)

pub walk_form-push_point-requires : goal.walk_form-push_point-requires
walk_form-push_point-requires t c = record { known = first_known (table_of c.args.frame.now) (variables_of c.args.frame.now) c.args.s.now (statements_within c.args.s.now.form) c.requires.known }

pub walk_form-walk_choosing-requires : goal.walk_form-walk_choosing-requires
walk_form-walk_choosing-requires t c =
    let size = choosing_size c.args.s.now.form (own_form c.args.s.now.form) c.in_ok-parts.parts c.in_ok-parts.ensures.seen c.in-Choosing.blocks c.as_slice.result.now c.in-Choosing.is c.as_slice.ensures.value in
    (omega (arith, size, c.decreases), same_known (table_of c.args.frame.now) (variables_of c.args.frame.now) c.args.s.now _ _ (choosing_within c.args.s.now.form c.in_ok-parts.parts c.in_ok-parts.ensures.within c.in-Choosing.blocks c.as_slice.result.now c.in-Choosing.is c.as_slice.ensures.value) c.requires.known)

pub walk_form-walk_repeating-requires : goal.walk_form-walk_repeating-requires
walk_form-walk_repeating-requires t c =
    let size = repeating_size c.args.s.now.form (own_form c.args.s.now.form) c.in_ok-parts.parts c.in_ok-parts.ensures.seen c.in-Repeating.body c.in-Repeating.is in
    (omega (arith, size, c.decreases), same_known (table_of c.args.frame.now) (variables_of c.args.frame.now) c.args.s.now _ _ (repeating_within c.args.s.now.form c.in_ok-parts.parts c.in_ok-parts.ensures.within c.in-Repeating.body c.in-Repeating.is) c.requires.known)

pub walk_form-walk_trying-requires : goal.walk_form-walk_trying-requires
walk_form-walk_trying-requires t c =
    let size = trying_size c.args.s.now.form (own_form c.args.s.now.form) c.in_ok-parts.parts c.in_ok-parts.ensures.seen c.in-Trying.body c.in-Trying.handled c.in-Trying.is in
    (omega (arith, size, c.decreases), rest_known (table_of c.args.frame.now) (variables_of c.args.frame.now) c.args.s.now _ (same_known (table_of c.args.frame.now) (variables_of c.args.frame.now) c.args.s.now _ _ (trying_within c.args.s.now.form c.in_ok-parts.parts c.in_ok-parts.ensures.within c.in-Trying.body c.in-Trying.handled c.in-Trying.is) c.requires.known))

pub walk_form-returns-in_ok-push_point-in-Simple : goal.walk_form-returns-in_ok-push_point-in-Simple
walk_form-returns-in_ok-push_point-in-Simple t c = record { points = adds_as c.args.around.now.kept _ _ _ _ (sym (simple_walked c.args.s.now.form (own_form c.args.s.now.form) c.in_ok-parts.parts c.in_ok-parts.ensures.seen (table_of c.args.frame.now) (variables_of c.args.frame.now) c.args.at.number c.args.at.from (around_view c.args.around.now) c.in_ok-parts.ensures.simple c.in-Simple.is)) c.in_ok-push_point-in-Simple.ensures.points }

pub walk_form-returns-in_ok-walk_choosing-in-Choosing : goal.walk_form-returns-in_ok-walk_choosing-in-Choosing
walk_form-returns-in_ok-walk_choosing-in-Choosing t c = record { points = adds_as c.args.around.now.kept _ _ _ _ (sym (choosing_walked c.args.s.now.form (own_form c.args.s.now.form) c.in_ok-parts.parts c.in_ok-parts.ensures.seen (table_of c.args.frame.now) (variables_of c.args.frame.now) c.args.at.number c.args.at.from (around_view c.args.around.now) c.in-Choosing.blocks c.as_slice.result.now c.in-Choosing.is c.as_slice.ensures.value)) c.in_ok-walk_choosing-in-Choosing.ensures.points }

pub walk_form-returns-in_ok-walk_repeating-in-Repeating : goal.walk_form-returns-in_ok-walk_repeating-in-Repeating
walk_form-returns-in_ok-walk_repeating-in-Repeating t c = record { points = adds_as c.args.around.now.kept _ _ _ _ (sym (repeating_walked c.args.s.now.form (own_form c.args.s.now.form) c.in_ok-parts.parts c.in_ok-parts.ensures.seen (table_of c.args.frame.now) (variables_of c.args.frame.now) c.args.at.number c.args.at.from (around_view c.args.around.now) c.in-Repeating.body c.in-Repeating.is)) c.in_ok-walk_repeating-in-Repeating.ensures.points }

pub walk_form-returns-in_ok-push_point-in-Leaving : goal.walk_form-returns-in_ok-push_point-in-Leaving
walk_form-returns-in_ok-push_point-in-Leaving t c = record { points = adds_as c.args.around.now.kept _ _ _ _ (sym (leaving_walked c.args.s.now.form (own_form c.args.s.now.form) c.in_ok-parts.parts c.in_ok-parts.ensures.seen (table_of c.args.frame.now) (variables_of c.args.frame.now) c.args.at.number c.args.at.from (around_view c.args.around.now) c.in-Leaving.is)) c.in_ok-push_point-in-Leaving.ensures.points }

pub walk_form-returns-in_ok-walk_trying-in-Trying : goal.walk_form-returns-in_ok-walk_trying-in-Trying
walk_form-returns-in_ok-walk_trying-in-Trying t c = record { points = adds_as c.args.around.now.kept _ _ _ _ (sym (trying_walked c.args.s.now.form (own_form c.args.s.now.form) c.in_ok-parts.parts c.in_ok-parts.ensures.seen (table_of c.args.frame.now) (variables_of c.args.frame.now) c.args.at.number c.args.at.from (around_view c.args.around.now) c.in-Trying.body c.in-Trying.handled c.in-Trying.is)) c.in_ok-walk_trying-in-Trying.ensures.points }

pub walk_choosing-returns : goal.walk_choosing-returns
walk_choosing-returns t c = record {
  points = adds_first c.args.around.now.kept _ _ _ _ _ _ _
      (ap (λ ts. point_at (table_of c.args.frame.now) (variables_of c.args.frame.now) c.args.s.now.form c.args.at.number ts (map catch_view c.args.around.now.catches.now))
      (sym (ap (map target_view) c.as_slice.ensures.value ∙ (c.in_ok-leads.ensures.starts ∙ ap (λ n. starts (blocks_of (map (λ b. b.now) c.args.blocks.now)) n (target_view c.args.around.now.behind)) c.in_ok-within.ensures.from))))
      (ap₂ (λ m f. map (point (table_of c.args.frame.now) (variables_of c.args.frame.now)) (nodes_of_choices (blocks_of (map (λ b. b.now) c.args.blocks.now)) m f (around_view c.args.around.now))) (sym c.in_ok-within.ensures.number) (sym c.in_ok-within.ensures.from))
      c.in_ok-push_point.ensures.points c.in_ok-walk_blocks.ensures.points;
}

pub walk_repeating-returns : goal.walk_repeating-returns
walk_repeating-returns t c = record {
  points = adds_first c.args.around.now.kept _ _ _ _ _ _ _
      (ap (λ b. point_at (table_of c.args.frame.now) (variables_of c.args.frame.now) c.args.s.now.form c.args.at.number (b ∷ target_view c.args.around.now.behind ∷ []) (map catch_view c.args.around.now.catches.now))
      (sym (c.in_ok-first.ensures.start ∙ ap (λ n. start_of_block (typed_stmts_view c.args.body.now) n (node c.args.at.from)) c.in_ok-within.ensures.from)))
      (ap₂ (λ m f. map (point (table_of c.args.frame.now) (variables_of c.args.frame.now)) (nodes_in (typed_stmts_view c.args.body.now) m f (in_loop c.args.at.from (around_view c.args.around.now)))) (sym c.in_ok-within.ensures.number) (sym c.in_ok-within.ensures.from))
      c.in_ok-push_point.ensures.points c.in_ok-walk_block.ensures.points;
}

pub walk_trying-returns : goal.walk_trying-returns
walk_trying-returns t c = record {
  points = adds_trying c.args.around.now.kept (point (table_of c.args.frame.now) (variables_of c.args.frame.now)) (typed_stmts_view c.args.body.now) (handlers_list c.args.handled.now) c.args.at.number c.args.at.from _ _ _ _ (around_view c.args.around.now) _ _ _
      c.in_ok-number.ensures
      (c.in_ok-second.ensures.number ∙ ap (λ n. c.in_ok-number.number + n) c.in_ok-count.ensures.numbers)
      (c.in_ok-second.ensures.from ∙ ap (λ n. c.args.at.from + n) c.in_ok-count.ensures.nodes)
      (ap (map catch_view) c.as_slice.ensures.value ∙ c.in_ok-catches.ensures.catches)
      c.in_ok-walk_block.ensures.points c.in_ok-walk_handlers.ensures.points;
}

pub walk_blocks-each-preserved : goal.walk_blocks-each-preserved
walk_blocks-each-preserved t c = λ last h. c.each.invariant last (next_block c.args.around.now.kept (point (table_of c.args.frame.now) (variables_of c.args.frame.now)) c.args.blocks.now c.each.block-index c.block-item.result c.each.at.number c.each.at.from _ _ (around_view c.args.around.now) _ _ last c.each-test.true c.block-item.is
    (c.in_ok-at.ensures.number ∙ ap (λ n. c.each.at.number + n) c.in_ok-count.ensures.numbers)
    (c.in_ok-at.ensures.from ∙ ap (λ n. c.each.at.from + n) c.in_ok-count.ensures.nodes)
    c.in_ok-walk_block.ensures.points h)

pub walk_blocks-returns : goal.walk_blocks-returns
walk_blocks-returns t c = record { points = c.each.invariant _ (adds_end c.args.around.now.kept (point (table_of c.args.frame.now) (variables_of c.args.frame.now)) _ _ (ap (λ (xs : List (Bor (List TypedStmt))). nodes_of_choices (blocks_of (map (λ b. b.now) xs)) c.each.at.number c.each.at.from (around_view c.args.around.now)) (drop_of_length-le c.args.blocks.now c.each-test.false))) }

pub walk_handlers-each-preserved : goal.walk_handlers-each-preserved
walk_handlers-each-preserved t c = λ last h. c.each.invariant last (next_handler c.args.around.now.kept (point (table_of c.args.frame.now) (variables_of c.args.frame.now)) c.args.handled.now c.each.body-index c.each-item.result c.as_slice.result.now c.as_slice-in-each.result.now c.each.at.number c.each.at.from _ _ (around_view c.args.around.now) _ _ last c.each-test.true c.each-item.is c.as_slice.ensures.value c.as_slice-in-each.ensures.value
    (c.in_ok-at.ensures.number ∙ ap (λ n. c.each.at.number + n) c.in_ok-count.ensures.numbers)
    (c.in_ok-at.ensures.from ∙ ap (λ n. c.each.at.from + n) c.in_ok-count.ensures.nodes)
    c.in_ok-walk_block.ensures.points h)

pub walk_handlers-returns : goal.walk_handlers-returns
walk_handlers-returns t c = record { points = c.each.invariant _ (adds_end c.args.around.now.kept (point (table_of c.args.frame.now) (variables_of c.args.frame.now)) _ _ (ap (λ xs. nodes_of_catches (handlers_list xs) c.each.at.number c.each.at.from (around_view c.args.around.now)) (drop_of_length-le c.args.handled.now c.each-test.false))) }

pub walk_block-statements-preserved : goal.walk_block-statements-preserved
walk_block-statements-preserved t c = λ last h. c.statements.invariant last (next_item c.args.around.now.kept (point (table_of c.args.frame.now) (variables_of c.args.frame.now)) c.args.list.now c.statements.i c.index-list-i.result c.statements.at.number c.statements.at.from _ _ _ (around_view c.args.around.now) _ _ last c.statements-test.true c.index-list-i.is
    (c.in_ok-then.ensures.number ∙ ap (λ n. c.statements.at.number + n) c.in_ok-count.ensures.numbers)
    (c.in_ok-then.ensures.from ∙ ap (λ n. c.statements.at.from + n) c.in_ok-count.ensures.nodes)
    c.in_ok-to.ensures.start
    c.in_ok-walk_form.ensures.points h)

pub walk_block-returns : goal.walk_block-returns
walk_block-returns t c = record { points = c.statements.invariant _ (adds_end c.args.around.now.kept (point (table_of c.args.frame.now) (variables_of c.args.frame.now)) _ _ (ap (λ xs. nodes_in (typed_stmts_view xs) c.statements.at.number c.statements.at.from (around_view c.args.around.now)) (drop_of_length-le c.args.list.now c.statements-test.false))) }
