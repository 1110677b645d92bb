use Rattle.std.proofs.Common.{arith}
use Rattle.herm_numbers.proofs.Passed.{place-within}
use Rattle.herm_numbers.proofs.index.Names.number.Goals as goal

pub overflow_cast-result : goal.overflow_cast-result
overflow_cast-result c = omega (arith, c.place-place.ensures, place-within c.args.name.now c.args.self.now, c.requires.few)
