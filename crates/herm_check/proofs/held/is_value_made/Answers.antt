use Rattle.std.proofs.Common.{sym, ◌∙◌}
use Rattle.herm_model.specs.Paths.{init, same_fact}
use Rattle.herm_types.specs.View.{path_view, fact_view}
use Rattle.herm_check.proofs.Begun.{some-pass}
use Rattle.herm_check.proofs.held.is_value_made.Goals as goal

pub returns-then-is_value_at : goal.returns-then-is_value_at
returns-then-is_value_at c =
    sym (some-pass (same_fact (init (path_view c.args.path.now))) fact_view c.args.makes.now c.loop-made.made-index c.made-item.result c.loop-made-test.true c.made-item.is (sym c.is_value_at.ensures ∙ c.if-is_value_at.true))
