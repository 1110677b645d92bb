use Rattle.std.proofs.Common.{◌≡◌, map, take, false}
use Rattle.herm_model.specs.Lists.{any_pass}
use Rattle.herm_model.specs.Paths.{init, same_fact}
use Rattle.herm_types.specs.View.{path_view, fact_view}
use Rattle.herm_check.proofs.held.is_value_made.Given as goal

abbrev pub invariant-loop-made : goal.invariant-loop-made
invariant-loop-made l = any_pass (same_fact (init (path_view l.path))) (map fact_view (take l.made-index l.makes)) ≡ false
