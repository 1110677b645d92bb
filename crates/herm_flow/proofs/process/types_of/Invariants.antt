use Rattle.std.proofs.Common.{◌≡◌, map, take}
use Rattle.herm_flow.proofs.process.types_of.Given as goal

abbrev pub invariant-vars : goal.invariant-vars
invariant-vars l = map (λ t. t.0) l.found.items ≡ map (λ x. x.of.0) (take l.x-index l.vars)
