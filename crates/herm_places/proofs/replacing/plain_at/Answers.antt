use Rattle.std.proofs.Common.{[], ◌≤◌, length, arith}
use Rattle.herm_places.proofs.Replaced.{past}
use Rattle.herm_places.proofs.replacing.plain_at.Goals as goal

pub returns-then-place-places-clause-done : goal.returns-then-place-places-clause-done
returns-then-place-places-clause-done c =
    let behind : length c.args.places.now ≤ c.args.place = omega (arith, c.if-place-places.true) in
    past c.args.places.now c.args.place [] behind
