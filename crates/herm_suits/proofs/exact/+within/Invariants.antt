use Rattle.std.proofs.Common.{◌≡◌, map, drop}
use Rattle.herm_types.specs.View.{fact_view}
use Rattle.herm_values.specs.Parts.{parts_from}
use Rattle.herm_values.specs.View.{views_of}
use Rattle.herm_suits.specs.Exact.{are_within}
use Rattle.herm_suits.proofs.exact.+within.Given as goal

abbrev pub invariant-are_within-places : goal.invariant-are_within-places
invariant-are_within-places l = record {
  counted : l.place ≡ l.held-index;
  rest : are_within (parts_from (views_of (drop l.held-index l.places))) (map fact_view l.facts) l.path l.place ≡ are_within (parts_from (views_of l.places)) (map fact_view l.facts) l.path 0;
}
