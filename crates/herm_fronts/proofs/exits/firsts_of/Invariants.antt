use Rattle.std.proofs.Common.{◌≡◌, ◌<◌, ℕ, None, map, drop, length, get_or}
use Rattle.herm_model.specs.Lists.{map_or}
use Rattle.herm_model.specs.Outcomes.{component}
use Rattle.herm_translated.specs.Layout.{edge_at}
use Rattle.herm_fronts.specs.Blocks.{departure_view, exits_view}
use Rattle.herm_fronts.proofs.exits.firsts_of.Given as goal

-- A component leads to what is noted of it, or where it leads among the edges that are left.
abbrev pub invariant-edges : goal.invariant-edges
invariant-edges l = (length l.firsts.items ≡ l.count) × ((c : ℕ) → c < l.count → map_or (edge_at l.at (map departure_view (drop l.d-index l.exits.edges.now)) (component c)) (λ n. n) (get_or l.firsts.items c None) ≡ exits_view l.exits (component c))
