use Rattle.std.proofs.Common.{◌++◌, ◌+◌, map, drop, ap, ◌∙◌, sym}
use Rattle.std.specs.Prelude.{filter, not}
use Rattle.herm_model.specs.Lists.{any_pass}
use Rattle.herm_model.specs.Paths.{Path, Fact, path_of, is_at_or_below}
use Rattle.herm_types.specs.View.{path_view, fact_view}
use Rattle.herm_blocks.proofs.Rest.{next-rest, filtered-next}
use Rattle.herm_blocks.proofs.handed.push_left.Goals as goal

pub facts-preserved : goal.facts-preserved
facts-preserved c =
    let p = λ (f : Fact). not (any_pass (λ (p : Path). is_at_or_below p (path_of f)) (map path_view c.args.kills.now)) in
    filtered-next p (map fact_view c.facts.out.items) _ _ (fact_view c.fact-item.result) (map fact_view (drop (c.facts.fact-index + 1) c.args.facts.now)) c.in_ok-push_one.ensures
    (ap (λ fs. map fact_view c.facts.out.items ++ filter p (map fact_view fs)) (sym (next-rest c.args.facts.now c.facts.fact-index c.fact-item.result c.facts-test.true c.fact-item.is)) ∙ c.facts.invariant)
