use Rattle.std.proofs.Common.{false, map}
use Rattle.herm_types.specs.View.{path_view}
use Rattle.herm_typestate.specs.Facts.{has_fact}
use Rattle.herm_coerce.proofs.Excess.{low-same}
use Rattle.herm_coerce.proofs.coercions.beyond_nothing.Goals as goal

pub returns : goal.returns
returns c = low-same (has_fact c.args.state.now) (has_fact c.in_ok-nothing.nothing) (λ f. false) (map path_view c.in_ok-paths.paths.items) c.in_ok-nothing.ensures c.in_ok-paths.ensures
