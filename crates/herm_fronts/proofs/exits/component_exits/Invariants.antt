use Rattle.std.proofs.Common.{◌≡◌, map}
use Rattle.herm_model.specs.Lists.{range}
use Rattle.herm_model.specs.Outcomes.{component}
use Rattle.herm_fronts.specs.Blocks.{exits_view}
use Rattle.herm_fronts.proofs.exits.component_exits.Given as goal

abbrev pub invariant-components : goal.invariant-components
invariant-components l = l.found.items ≡ map (λ c. exits_view l.exits (component c)) (range 0 l.c)
