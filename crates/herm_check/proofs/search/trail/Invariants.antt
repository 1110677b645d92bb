use Rattle.std.proofs.Common.{◌≡◌, ◌++◌, map, reverse}
use Rattle.herm_check.specs.View.{hop_view}
use Rattle.herm_check.specs.Trails.{trail}
use Rattle.herm_check.proofs.Trails.{trail_from, places_left}
use Rattle.herm_check.proofs.search.trail.Given as goal

abbrev pub invariant-loop-last : goal.invariant-loop-last
invariant-loop-last l = trail l.visits l.place ≡ trail_from l.visits l.at l.last ++ map hop_view (reverse l.hops.items)

abbrev pub decreases-loop-last : goal.decreases-loop-last
decreases-loop-last l = places_left l.at l.last
