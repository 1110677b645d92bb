use Rattle.std.proofs.Common.{◌++◌, ◌∷◌, [], map, flat_map, take, subst, ap, ◌∙◌}
use Rattle.std.proofs.lemmas.List.{take_all}
use Rattle.herm_model.specs.Paths.{init}
use Rattle.herm_types.specs.View.{fact_view}
use Rattle.herm_flow.specs.declared.onward.OnwardPoint.{OnwardPoint}
use Rattle.herm_check.specs.Numberings.{HaveNumbers}
use Rattle.herm_check.specs.Labelled.{facts_of}
use Rattle.herm_check.proofs.FactsNumbered.{rows-more}
use Rattle.herm_facts.proofs.Listed.{facts-apart}
use Rattle.herm_check.proofs.numbering.numbers_in.Goals as goal

pub loop-point-preserved : goal.loop-point-preserved
loop-point-preserved c =
    let points = c.deref-point-items.result.now in
    let i = c.loop-point.point-index in
    let made = λ (q : OnwardPoint). flat_map facts_of q.made.items in
    let so_far = (init (0 ∷ []) ∷ []) ++ flat_map made (take i points) in
    subst (λ fs. HaveNumbers fs c.add_lists.new.numbers)
    (ap (λ lists. so_far ++ flat_map facts_of lists) c.as_slice.ensures.value ∙ rows-more made (init (0 ∷ []) ∷ []) points i c.point-item.result c.loop-point-test.true c.point-item.is)
    (c.in_ok-add_lists.ensures so_far c.loop-point.invariant)

pub returns-clause-numbers : goal.returns-clause-numbers
returns-clause-numbers c = subst (λ points. HaveNumbers (init (0 ∷ []) ∷ flat_map (λ (p : OnwardPoint). flat_map facts_of p.made.items) points) c.loop-point.numbers) (take_all c.loop-point.point-index c.deref-point-items.result.now c.loop-point-test.false ∙ c.deref-point-items.ensures.value) c.loop-point.invariant

pub returns-clause-apart : goal.returns-clause-apart
returns-clause-apart c = facts-apart c.loop-point.numbers (map fact_view c.facts-facts.result.now) c.facts-facts.ensures
