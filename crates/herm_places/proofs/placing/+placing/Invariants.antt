use Rattle.std.proofs.Common.{length, suc, ◌*◌}
use Rattle.herm_places.proofs.placing.+placing.Given as goal

abbrev pub decreases-put_at : goal.decreases-put_at
decreases-put_at l = 2 * length l.rest.now

abbrev pub decreases-put_inside : goal.decreases-put_inside
decreases-put_inside l = suc (2 * length l.others.now)
