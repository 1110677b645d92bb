use Rattle.std.proofs.Common.{[], false, map, length, get_or, sym, ap, ap₂, ◌∙◌}
use Rattle.herm_model.proofs.Lists.{length-map}
use Rattle.herm_fronts.specs.Frames.{table_of, variables_of}
use Rattle.herm_fronts.specs.Blocks.{departure_view}
use Rattle.herm_blocks.specs.CheckedProcesses.{held_lists}
use Rattle.herm_blocks.specs.Seen.{drops_view, seen_node, ways_view, marked_block}
use Rattle.herm_blocks.specs.Scopes.{ways_by, led_by, settled_by}
use Rattle.herm_blocks.proofs.ScopedBlocks.{blocks-joined}
use Rattle.herm_blocks.proofs.blocks.blocks_in.Goals as goal

pub returns : goal.returns
returns c =
    let types = table_of c.args.frame.now in
    let variables = variables_of c.args.frame.now in
    let nodes = map seen_node c.args.nodes.now in
    let ways = map ways_view c.in_ok-ways.ways.items in
    let value = c.as_slice-2.ensures.value in
    blocks-joined types variables c.args.scope.now.numbers.now c.args.scope.now.lengths.now (departure_view c.args.entry.now) nodes (held_lists types variables c.args.checked.now.labels.now.at.items) (map (λ v. drops_view v.items) c.args.checked.now.coercions.now.at.items)
    ways (λ i. get_or c.in_ok-led.led.items i false) (map marked_block c.in_ok-blocks.blocks.items) (length c.as_slice-2.result.now)
    (c.in_ok-ways.ensures ∙ ap (λ xs. ways_by types variables c.args.scope.now.numbers.now c.args.scope.now.lengths.now nodes 0 [] nodes (map (λ v. drops_view v.items) xs)) c.as_slice.ensures.value)
    (length-map ways_view c.in_ok-ways.ways.items ∙ ap length (sym value))
    (λ i within. c.in_ok-led.ensures.led i within ∙ ap (λ xs. led_by (departure_view c.args.entry.now) (map ways_view xs) i) value)
    (c.in_ok-blocks.ensures ∙ ap₂ (λ led states. settled_by (λ i. get_or led i false) (held_lists types variables states) 0 [] ways) c.as_slice-3.ensures.value c.as_slice-states.ensures.value)
