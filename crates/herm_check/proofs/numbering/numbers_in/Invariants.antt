use Rattle.std.proofs.Common.{◌++◌, ◌∷◌, [], flat_map, take}
use Rattle.herm_model.specs.Paths.{init}
use Rattle.herm_flow.specs.declared.onward.OnwardPoint.{OnwardPoint}
use Rattle.herm_check.specs.Numberings.{HaveNumbers}
use Rattle.herm_check.specs.Labelled.{facts_of}
use Rattle.herm_check.proofs.numbering.numbers_in.Given as goal

abbrev pub invariant-loop-point : goal.invariant-loop-point
invariant-loop-point l = HaveNumbers ((init (0 ∷ []) ∷ []) ++ flat_map (λ (p : OnwardPoint). flat_map facts_of p.made.items) (take l.point-index l.point-items)) l.numbers
