use Rattle.std.proofs.Common.{length, suc, ◌*◌}
use Rattle.herm_places.proofs.taking.+taking.Given as goal

abbrev pub decreases-take_at : goal.decreases-take_at
decreases-take_at l = 2 * length l.rest.now

abbrev pub decreases-take_inside : goal.decreases-take_inside
decreases-take_inside l = suc (2 * length l.others.now)
