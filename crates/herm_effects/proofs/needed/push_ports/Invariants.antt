use Rattle.std.proofs.Common.{◌≡◌, ◌++◌, map, take, flat_map}
use Rattle.herm_model.specs.FactsOfStatements.{present}
use Rattle.herm_types.specs.View.{fact_view}
use Rattle.herm_typed.specs.Blocks.{typed_arm_view}
use Rattle.herm_judge.specs.View.{table_of, variables_of}
use Rattle.herm_effects.proofs.needed.push_ports.Given as goal

abbrev pub invariant-loop-port : goal.invariant-loop-port
invariant-loop-port l = map fact_view l.out.items ≡ map fact_view l.fn.out.items ++ flat_map (λ a. present (table_of l.frame) (variables_of l.frame) a.port) (map typed_arm_view (take l.port-index l.arms))
