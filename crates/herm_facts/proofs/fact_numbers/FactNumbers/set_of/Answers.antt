use Rattle.std.proofs.Common.{◌∙◌, ◌++◌, ◌∷◌, [], map, take, sym, ap, subst}
use Rattle.std.proofs.lemmas.List.{map_more, take_all}
use Rattle.herm_types.specs.View.{fact_view}
use Rattle.herm_facts.specs.FactNumbers.{number_of}
use Rattle.herm_facts.specs.NumberSets.{has_number}
use Rattle.herm_facts.specs.SparseSets.{has_sparse}
use Rattle.herm_facts.proofs.FactsInSets.{HasListed, no_listed, listed_next, same_set}
use Rattle.herm_facts.proofs.fact_numbers.FactNumbers.set_of.Goals as goal

pub loop-fact-init : goal.loop-fact-init
loop-fact-init c = no_listed (number_of c.args.self.now) (has_number c.none-set.result) c.none-set.ensures

pub loop-fact-preserved : goal.loop-fact-preserved
loop-fact-preserved c =
    let facts = c.args.facts.now in
    let before = map fact_view (take c.loop-fact.fact-index facts) in
    let next = map_more fact_view facts c.loop-fact.fact-index c.fact-item.result c.loop-fact-test.true ∙ ap (λ x. before ++ fact_view x ∷ []) (sym c.fact-item.is) in
    subst (λ fs. HasListed (number_of c.args.self.now) fs (has_number c.insert_fact.new.set)) (sym next)
    (listed_next (number_of c.args.self.now) before (fact_view c.fact-item.result) (has_number c.loop-fact.set) (has_number c.insert_fact.new.set) c.loop-fact.invariant c.in_ok-insert_fact.ensures)

pub returns : goal.returns
returns c = same_set _ (has_number c.loop-fact.set) (has_sparse c.in_ok-sparse.sparse) c.in_ok-sparse.ensures
    (subst (λ fs. HasListed (number_of c.args.self.now) (map fact_view fs) (has_number c.loop-fact.set)) (take_all c.loop-fact.fact-index c.args.facts.now c.loop-fact-test.false) c.loop-fact.invariant)
