use Rattle.std.proofs.Common.{◌≡◌, ◌++◌, map, take, flat_map}
use Rattle.herm_model.specs.FactsOfStatements.{room_for}
use Rattle.herm_types.specs.View.{fact_view}
use Rattle.herm_typed.specs.Blocks.{typed_arm_view}
use Rattle.herm_judge.specs.View.{table_of, variables_of}
use Rattle.herm_effects.proofs.needed.push_targets.Given as goal

abbrev pub invariant-loop-target : goal.invariant-loop-target
invariant-loop-target l = map fact_view l.out.items ≡ map fact_view l.fn.out.items ++ flat_map (λ a. room_for (table_of l.frame) (variables_of l.frame) a.target) (map typed_arm_view (take l.target-index l.arms))
