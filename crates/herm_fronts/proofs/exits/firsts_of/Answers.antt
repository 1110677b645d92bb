use Rattle.std.proofs.Common.{◌≡◌, List, None, map, get_or, subst}
use Rattle.std.proofs.Math.ListN.{drop_of_length-le}
use Rattle.herm_model.specs.Lists.{map_or}
use Rattle.herm_model.specs.Outcomes.{component}
use Rattle.herm_translated.specs.Layout.{edge_at}
use Rattle.herm_fronts.specs.declared.departures.Departure.{Departure}
use Rattle.herm_fronts.specs.Blocks.{departure_view, exits_view}
use Rattle.herm_fronts.proofs.exits.firsts_of.Goals as goal

pub returns-clause-firsts : goal.returns-clause-firsts
returns-clause-firsts c = λ k less.
    subst (λ (ds : List Departure). map_or (edge_at c.edges.at (map departure_view ds) (component k)) (λ n. n) (get_or c.edges.firsts.items k None) ≡ exits_view c.args.exits.now (component k))
    (drop_of_length-le c.args.exits.now.edges.now c.edges-test.false) (c.edges.invariant.1 k less)
