use Rattle.std.proofs.Common.{arith, ◌+◌, ◌++◌, ◌∷◌, [], false, List, map, cond, vec_len, get_or, sym, ap, ap₂, ◌∙◌, append_assoc}
use Rattle.std.proofs.lemmas.List.{append-nil, map-append}
use Rattle.herm_types.specs.View.{fact_view}
use Rattle.herm_flow.specs.View.{edge_view}
use Rattle.herm_fronts.specs.Frames.{table_of, variables_of}
use Rattle.herm_fronts.specs.Forms.{form_seen}
use Rattle.herm_blocks.specs.CheckedProcesses.{held_lists}
use Rattle.herm_blocks.specs.Seen.{ways_view, marked_block}
use Rattle.herm_blocks.specs.Scopes.{SeenWays, list_at, facts_by, handed_by, settled_by}
use Rattle.herm_blocks.proofs.Turns.{settled-next}
use Rattle.herm_blocks.proofs.settle.settle.Goals as goal

pub ways-preserved : goal.ways-preserved
ways-preserved c =
    let labels = held_lists (table_of c.args.frame.now) (variables_of c.args.frame.now) c.args.states.now in
    let way = c.in-Some.way in
    let first = λ (rest : List SeenWays).
    settled-next (λ i. get_or c.args.led.now i false) labels (map marked_block c.ways.found.items) (map marked_block c.push.new.self.items) _ (vec_len c.ways.found) (vec_len c.push.new.self) (ways_view way)
    (map fact_view c.ways.handed.items) (map fact_view c.in_ok-facts.facts.items) (map fact_view c.in_ok-handed.handed.items) (marked_block c.block_with.result) rest
    (c.in_ok-facts.ensures ∙ ap₂ (λ b k. facts_by b (form_seen way.node.form.now) (list_at labels k) (map fact_view c.ways.handed.items)) (c.is_led.ensures ∙ ap (λ k. get_or c.args.led.now k false) c.len-place.ensures) c.len-place.ensures)
    (c.in_ok-handed.ensures
    ∙ (ap₂ (λ es fs. cond c.is_led-next.result [] (handed_by (map edge_view es) (map fact_view fs))) c.as_slice.ensures.value c.as_slice-in-ways.ensures.value
    ∙ ap (λ b. cond b [] (handed_by (map edge_view way.node.point.now.edges.items) (map fact_view c.in_ok-facts.facts.items)))
    (c.is_led-next.ensures ∙ ap (λ k. get_or c.args.led.now k false) (ap (λ k. k + 1) c.len-place.ensures ∙ sym c.in_ok-push.ensures.len))))
    c.block_with.ensures (ap (map marked_block) c.in_ok-push.ensures.items ∙ map-append marked_block c.ways.found.items (c.block_with.result ∷ []))
    c.in_ok-push.ensures.len
    (c.ways.invariant.0 (ways_view way ∷ rest)
    ∙ ap (settled_by (λ i. get_or c.args.led.now i false) labels 0 [])
    (sym (ap (λ xs. xs ++ rest) (map-append ways_view c.ways.yielded (way ∷ [])) ∙ append_assoc (map ways_view c.ways.yielded) (ways_view way ∷ []) rest))) in
    (first, sym (append-nil (map marked_block c.push.new.self.items)) ∙ (first [] ∙ ap (settled_by (λ i. get_or c.args.led.now i false) labels 0 []) (append-nil (map ways_view (c.ways.yielded ++ way ∷ [])))))

pub overflow_add-place : goal.overflow_add-place
overflow_add-place c = omega (arith, c.len-place.ensures, c.ways.found.ok, c.ways.found.small)
