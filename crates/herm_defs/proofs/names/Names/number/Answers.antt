use Rattle.std.proofs.Common.{arith}
use Rattle.herm_defs.proofs.Finding.{place-within}
use Rattle.herm_defs.proofs.names.Names.number.Goals as goal

pub overflow_cast-result : goal.overflow_cast-result
overflow_cast-result c = omega (arith, c.place-place.ensures, place-within c.args.self.now c.args.name.now, c.requires)
