use Rattle.std.proofs.Common.{length, suc, ◌*◌}
use Rattle.herm_places.proofs.exchanging.+exchanging.Given as goal

abbrev pub decreases-exchange_in : goal.decreases-exchange_in
decreases-exchange_in l = 2 * length l.rest.now

abbrev pub decreases-exchange_at : goal.decreases-exchange_at
decreases-exchange_at l = suc (2 * length l.rest.now)
