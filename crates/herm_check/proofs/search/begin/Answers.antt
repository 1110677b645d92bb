use Rattle.std.proofs.Common.{◌≡◌, ℕ, ◌&&◌, not, nat_lt, length, map, sym, ◌∙◌, ap, arith}
use Rattle.herm_model.proofs.Lists.{length-map}
use Rattle.herm_types.specs.View.{fact_view}
use Rattle.herm_flow.specs.OnwardView.{onward_flow_view, onward_point_view}
use Rattle.herm_facts.specs.FactSets.{has}
use Rattle.herm_check.proofs.FirstVisits.{begun}
use Rattle.herm_check.proofs.search.begin.Goals as goal

pub returns : goal.returns
returns c =
    let facts = map fact_view c.args.facts.now in
    let held = c.held_first-held.result in
    let lost = c.without-lost.result in
    let ms = c.add.new.search in
    let points = length-map onward_point_view c.args.flow.now.points.items in
    let many = length-map fact_view c.args.facts.now in
    let are_lost : (j : ℕ) → has lost j ≡ (nat_lt j (length facts) && not (has held j)) = λ j. c.without-lost.ensures j ∙ ap (λ b. b && not (has held j)) (c.first.ensures j ∙ ap (nat_lt j) (sym many)) in
    begun (onward_flow_view c.args.flow.now) facts _ c.in_ok-search.search held lost ms.visits.items ms.seen.items ms.places.items c.add-2.new.search c.in_ok-search.ensures (omega (arith, points, c.len.ensures)) (omega (arith, points, c.requires.some)) c.held_first-held.ensures are_lost c.in_ok-add.ensures c.in_ok-add-2.ensures
