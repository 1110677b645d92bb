use Rattle.std.proofs.Common.{◌∷◌, [], map, sym, ap, ◌∙◌}
use Rattle.std.proofs.lemmas.List.{map-append}
use Rattle.herm_types.specs.View.{fact_view}
use Rattle.herm_typestate.specs.Facts.{has_fact}
use Rattle.herm_fronts.proofs.HeldHere.{held_here}
use Rattle.herm_fronts.proofs.held.+holding.Goals as goal

pub push_held-returns : goal.push_held-returns
push_held-returns t c =
    held_here c.args.types.now.shapes (has_fact c.args.state.now) c.args.depth c.args.at.within c.args.at.of.0 _ _ _ _ (fact_view c.in_ok-fact.fact)
    c.if-depth-eq0.false c.if-at.false c.in_ok-fact.ensures (sym c.holds.ensures ∙ c.if-not-holds.false)
    (ap (map fact_view) c.in_ok-push.ensures.items ∙ map-append fact_view c.args.out.now.items (c.in_ok-fact.fact ∷ [])) c.in_ok-push_inside-2.ensures
