use Rattle.std.proofs.Common.{◌≡◌, ◌++◌, map, take}
use Rattle.herm_types.specs.View.{shape_view, parts_view}
use Rattle.herm_meaning.specs.Items.{types_in}
use Rattle.herm_meaning.specs.Meaning.{part_names, meant_shape}
use Rattle.herm_defs.specs.Seen.{item_seen}
use Rattle.herm_defs.proofs.table.defined_of.Given as goal

abbrev pub invariant-loop-item : goal.invariant-loop-item
invariant-loop-item l = record {
  names : map (λ d. d.0) l.defined.items ≡ map (λ d. d.0) l.initial.defined.items ++ map (λ d. d.0) (types_in (map item_seen (take l.item-index l.items)));
  shapes : map (λ d. shape_view d.1) l.defined.items ≡ map (λ d. shape_view d.1) l.initial.defined.items ++ map (λ d. meant_shape l.table d.1) (types_in (map item_seen (take l.item-index l.items)));
  parts : map (λ d. parts_view d.1) l.defined.items ≡ map (λ d. parts_view d.1) l.initial.defined.items ++ map (λ d. part_names d.1) (types_in (map item_seen (take l.item-index l.items)));
}
