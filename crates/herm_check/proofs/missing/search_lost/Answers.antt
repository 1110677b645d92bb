use Rattle.std.proofs.Common.{◌≡◌, ◌<◌, map, Some, slice_get, ap, arith}
use Rattle.herm_types.specs.View.{fact_view}
use Rattle.herm_flow.specs.OnwardView.{onward_flow_view}
use Rattle.herm_check.proofs.Searched.{some-at}
use Rattle.herm_check.proofs.Standing.{searched-by}
use Rattle.herm_model.proofs.Lists.{length-map}
use Rattle.herm_check.proofs.missing.search_lost.Goals as goal

pub searches_of-requires-clause-some : goal.searches_of-requires-clause-some
searches_of-requires-clause-some c h =
    let facts = c.facts.result.now in
    let many = length-map fact_view facts in
    let first = some-at (map fact_view facts) 0 (omega (arith, h, many)) in
    let g = c.in_ok-standing.ensures.some first.0 0 ((c.facts.ensures first.0 0).0 first.1) in
    c.requires.some g.0 g.1 g.2

pub returns-clause-searched : goal.returns-clause-searched
returns-clause-searched c = searched-by (onward_flow_view c.args.flow.now) c.args.numbers c.in_ok-standing.standing.numbers c.in_ok-standing.standing.by.items c.in_ok-searches.searches.items c.in_ok-standing.ensures.stood c.in_ok-searches.ensures
