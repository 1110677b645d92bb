use Rattle.std.proofs.Common.{◌+◌, ◌∷◌, [], map, drop, ap, ◌∙◌}
use Rattle.std.proofs.lemmas.List.{map-append}
use Rattle.herm_fronts.specs.Frames.{table_of, variables_of}
use Rattle.herm_fronts.specs.Forms.{form_seen}
use Rattle.herm_translated.specs.CodeBlocks.{slots_within}
use Rattle.herm_blocks.specs.Views.{slots_view}
use Rattle.herm_blocks.specs.Seen.{drops_view, seen_node, ways_view}
use Rattle.herm_blocks.specs.Scopes.{open_at}
use Rattle.herm_blocks.proofs.Rest.{next-rest}
use Rattle.herm_blocks.proofs.Turns.{ways-next}
use Rattle.herm_blocks.proofs.ways.ways_of.Goals as goal

pub nodes-preserved : goal.nodes-preserved
nodes-preserved c =
    let node = c.index-nodes-i.result in
    ways-next (table_of c.args.frame.now) (variables_of c.args.frame.now) c.args.scope.now.numbers.now c.args.scope.now.lengths.now (map seen_node c.args.nodes.now) (map (λ v. drops_view v.items) c.args.drops.now)
    (map ways_view c.nodes.found.items) _ _ c.nodes.i (slots_view c.nodes.before.items) (slots_view c.in_ok-slots.slots.items) (slots_view c.in_ok-before.before.items) (ways_view c.in_ok-ways_at.field-0) (seen_node c.index-nodes-i.result)
    (drops_view c.drops_at-dropped.result.now) _ (map seen_node (drop (c.nodes.i + 1) c.args.nodes.now))
    (c.in_ok-slots.ensures ∙ ap (λ xs. open_at c.args.scope.now.lengths.now node.point.now.stmt.0 (slots_view xs)) c.as_slice.ensures.value)
    (c.in_ok-before.ensures ∙ ap (λ xs. slots_within (table_of c.args.frame.now) (variables_of c.args.frame.now) node.point.now.stmt.0 (form_seen node.form.now) (slots_view xs)) c.as_slice-in-nodes.ensures.value)
    c.drops_at-dropped.ensures c.in_ok-ways_at.ensures
    (ap (map ways_view) c.in_ok-push.ensures.items ∙ map-append ways_view c.nodes.found.items (c.in_ok-ways_at.field-0 ∷ []))
    (ap (map seen_node) (next-rest c.args.nodes.now c.nodes.i c.index-nodes-i.result c.nodes-test.true c.index-nodes-i.is)) c.nodes.invariant
