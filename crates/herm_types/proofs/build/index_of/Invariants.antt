use Rattle.std.proofs.Common.{◌≡◌, take, map}
use Rattle.herm_types.proofs.build.index_of.Given as goal

abbrev pub invariant-loop-name : goal.invariant-loop-name
invariant-loop-name l = map (λ k. k.items) l.index.keys ≡ take l.name-index l.names
