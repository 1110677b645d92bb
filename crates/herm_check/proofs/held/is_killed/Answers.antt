use Rattle.std.proofs.Common.{sym, ◌∙◌}
use Rattle.herm_model.specs.Paths.{Path, is_at_or_below}
use Rattle.herm_types.specs.View.{path_view}
use Rattle.herm_check.proofs.Begun.{some-pass}
use Rattle.herm_check.proofs.held.is_killed.Goals as goal

pub returns-then-is_at_or_below : goal.returns-then-is_at_or_below
returns-then-is_at_or_below c =
    sym (some-pass (λ (p : Path). is_at_or_below p (path_view c.args.path.now)) path_view c.args.kills.now c.loop-killed.killed-index c.killed-item.result c.loop-killed-test.true c.killed-item.is (sym c.is_at_or_below.ensures ∙ c.if-is_at_or_below.true))
