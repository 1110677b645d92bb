use Rattle.std.proofs.Common.{arith}
use Rattle.herm_numbers.proofs.Passed.{place-within}
use Rattle.herm_numbers.proofs.paths.path_from.Goals as goal

pub path_at-requires-2-clause-few : goal.path_at-requires-2-clause-few
path_at-requires-2-clause-few c =
    let within = place-within c.bytes.result.now c.args.scope.now.variables in
    omega (arith, within, c.requires.few, c.place-place.ensures)
