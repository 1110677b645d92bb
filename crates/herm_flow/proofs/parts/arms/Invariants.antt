use Rattle.std.proofs.Common.{◌≡◌, map, take}
use Rattle.herm_flow.proofs.parts.arms.Given as goal

abbrev pub invariant-arms : goal.invariant-arms
invariant-arms l = map (λ b. b.now) l.found.items ≡ map (λ a. a.1.items) (take l.body-index l.arms)
