use Rattle.std.proofs.Common.{ap}
use Rattle.herm_types.specs.Chosen.{IsShallow, lists}
use Rattle.herm_types.proofs.PathFacts.{started}
use Rattle.herm_types.proofs.paths.paths_from.Goals as goal

pub walk-requires-clause-within : goal.walk-requires-clause-within
unfolding IsShallow
walk-requires-clause-within c = c.requires.within

pub returns : goal.returns
returns c = started c.args.choice _ _ _ _ _ _ c.in_ok-at.ensures.items (ap lists c.new-out.ensures.items) c.in_ok-walk.ensures.out
