use Rattle.std.proofs.Common.{◌∙◌, ◌++◌, ◌∷◌, [], map, take, sym, ap, subst}
use Rattle.std.proofs.lemmas.List.{map_more, take_all}
use Rattle.herm_types.specs.View.{path_view}
use Rattle.herm_facts.specs.FactNumbers.{number_of}
use Rattle.herm_facts.specs.NumberSets.{has_number}
use Rattle.herm_facts.specs.SparseSets.{has_sparse}
use Rattle.herm_facts.proofs.FactsInSets.{HasBelow, no_below, below_next, same_set}
use Rattle.herm_facts.proofs.fact_numbers.FactNumbers.set_below.Goals as goal

pub loop-path-init : goal.loop-path-init
loop-path-init c = no_below (number_of c.args.self.now) (has_number c.none-set.result) c.none-set.ensures

pub loop-path-preserved : goal.loop-path-preserved
loop-path-preserved c =
    let paths = c.args.paths.now in
    let before = map path_view (take c.loop-path.path-index paths) in
    let next = map_more path_view paths c.loop-path.path-index c.path-item.result c.loop-path-test.true ∙ ap (λ x. before ++ path_view x ∷ []) (sym c.path-item.is) in
    subst (λ ps. HasBelow (number_of c.args.self.now) ps (has_number c.insert_below.new.set)) (sym next)
    (below_next (number_of c.args.self.now) before (path_view c.path-item.result) (has_number c.loop-path.set) (has_number c.insert_below.new.set) c.loop-path.invariant c.in_ok-insert_below.ensures)

pub returns : goal.returns
returns c = same_set _ (has_number c.loop-path.set) (has_sparse c.in_ok-sparse.sparse) c.in_ok-sparse.ensures
    (subst (λ ps. HasBelow (number_of c.args.self.now) (map path_view ps) (has_number c.loop-path.set)) (take_all c.loop-path.path-index c.args.paths.now c.loop-path-test.false) c.loop-path.invariant)
