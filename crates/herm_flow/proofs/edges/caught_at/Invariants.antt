use Rattle.std.proofs.Common.{◌≡◌, map, drop}
use Rattle.herm_model.specs.Handlers.{caught}
use Rattle.herm_flow.specs.View.{catch_view}
use Rattle.herm_flow.proofs.edges.caught_at.Given as goal

abbrev pub invariant-each : goal.invariant-each
invariant-each l = caught (map catch_view (drop l.c-index l.catches)) l.e.0 ≡ caught (map catch_view l.catches) l.e.0
