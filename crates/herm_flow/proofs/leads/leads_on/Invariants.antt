use Rattle.std.proofs.Common.{◌≡◌, ◌++◌, map, drop, filter}
use Rattle.herm_typed.specs.View.{outcome_view}
use Rattle.herm_flow.specs.View.{target_view, catch_view}
use Rattle.herm_flow.specs.Edges.{exits_from}
use Rattle.herm_flow.specs.Listed.{exits_on, lead_view}
use Rattle.herm_flow.proofs.leads.leads_on.Given as goal

-- Those found, with those of the outcomes that are left, are all.
abbrev pub invariant-each : goal.invariant-each
invariant-each l = map lead_view l.found.items ++ filter exits_on (exits_from (map outcome_view (drop l.outcome-index l.outcomes)) (map target_view (drop l.taken l.leads)) (map catch_view l.catches))
    ≡ filter exits_on (exits_from (map outcome_view l.outcomes) (map target_view l.leads) (map catch_view l.catches))
