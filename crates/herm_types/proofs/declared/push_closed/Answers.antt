use Rattle.std.proofs.Common.{◌∙◌, ap, sym, map, [], ◌∷◌, ◌++◌, flat_map, List}
use Rattle.herm_model.specs.Paths as model
use Rattle.herm_model.specs.Lists.{any_pass}
use Rattle.herm_model.specs.Facts as facts
use Rattle.herm_types.specs.View.{fact_view}
use Rattle.herm_types.specs.Table.{shapes_view}
use Rattle.herm_types.proofs.ClosedLists.{listed-more, listed-again}
use Rattle.herm_types.proofs.declared.push_closed.Goals as goal

pub returns-then-has_fact : goal.returns-then-has_fact
returns-then-has_fact c = λ done old.
    old ∙ listed-again (shapes_view c.args.shapes.now) c.args.message.0 done (fact_view c.args.fact.now) (ap (any_pass (model.same_fact (fact_view c.args.fact.now))) (sym old) ∙ sym c.if-has_fact.ensures)

pub returns : goal.returns
returns c = λ done old.
    c.in_ok-push_each_new.ensures (model.init (0 ∷ []) ∷ flat_map (facts.with_prefixes (shapes_view c.args.shapes.now) (c.args.message.0 ∷ [])) done) old
    ∙ (ap (λ (fs : List model.Fact). facts.without_repeats ((model.init (0 ∷ []) ∷ flat_map (facts.with_prefixes (shapes_view c.args.shapes.now) (c.args.message.0 ∷ [])) done) ++ fs)) (c.in_ok-push_with_prefixes.ensures ∙ ap (λ (fs : List model.Fact). fs ++ facts.with_prefixes (shapes_view c.args.shapes.now) (c.args.message.0 ∷ []) (fact_view c.args.fact.now)) (ap (map fact_view) c.new-more.ensures.items))
    ∙ sym (listed-more (shapes_view c.args.shapes.now) c.args.message.0 done (fact_view c.args.fact.now)))
