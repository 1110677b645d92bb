use Rattle.std.proofs.Common.{◌≡◌, ◌++◌, map, drop}
use Rattle.herm_fronts.specs.Frames.{kinds}
use Rattle.herm_blocks.proofs.node.types_of.Given as goal

abbrev pub invariant-vars : goal.invariant-vars
invariant-vars l = kinds l.found.items ++ map (λ x. x.of.0) (drop l.x-index l.vars) ≡ map (λ x. x.of.0) l.vars
