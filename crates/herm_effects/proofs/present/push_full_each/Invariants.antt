use Rattle.std.proofs.Common.{◌≡◌, ◌++◌, map, take, flat_map}
use Rattle.herm_model.specs.FactsOfStatements.{full}
use Rattle.herm_types.specs.View.{path_view, fact_view}
use Rattle.herm_judge.specs.View.{table_of, variables_of}
use Rattle.herm_effects.proofs.present.push_full_each.Given as goal

abbrev pub invariant-loop-p : goal.invariant-loop-p
invariant-loop-p l = map fact_view l.out.items ≡ map fact_view l.fn.out.items ++ flat_map (full (table_of l.frame) (variables_of l.frame)) (map path_view (take l.p-index l.paths))
