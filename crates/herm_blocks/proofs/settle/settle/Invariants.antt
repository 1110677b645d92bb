use Rattle.std.proofs.Common.{◌≡◌, ◌++◌, [], false, List, map, vec_len, get_or}
use Rattle.herm_types.specs.View.{fact_view}
use Rattle.herm_fronts.specs.Frames.{table_of, variables_of}
use Rattle.herm_blocks.specs.CheckedProcesses.{held_lists}
use Rattle.herm_blocks.specs.Seen.{ways_view, marked_block}
use Rattle.herm_blocks.specs.Scopes.{SeenWays, settled_by}
use Rattle.herm_blocks.proofs.settle.settle.Given as goal

abbrev pub invariant-ways : goal.invariant-ways
invariant-ways l =
    ((rest : List SeenWays) → map marked_block l.found.items ++ settled_by (λ i. get_or l.fn.led i false) (held_lists (table_of l.fn.frame) (variables_of l.fn.frame) l.fn.states) (vec_len l.found) (map fact_view l.handed.items) rest
    ≡ settled_by (λ i. get_or l.fn.led i false) (held_lists (table_of l.fn.frame) (variables_of l.fn.frame) l.fn.states) 0 [] (map ways_view l.yielded ++ rest))
    × (map marked_block l.found.items ≡ settled_by (λ i. get_or l.fn.led i false) (held_lists (table_of l.fn.frame) (variables_of l.fn.frame) l.fn.states) 0 [] (map ways_view l.yielded))
