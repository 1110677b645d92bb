use Rattle.std.proofs.Common.{◌≡◌, ◌≤◌, ◌++◌, ◌∷◌, [], map, flat_map, drop, nat_eq, nat_lt}
use Rattle.herm_model.specs.Lists.{all_pass, any_pass, range}
use Rattle.herm_model.specs.Statements.{Arm}
use Rattle.herm_naming.specs.Fits.{fits_arm}
use Rattle.herm_naming.specs.UnknownNames.{is_there}
use Rattle.herm_typed.specs.View.{typed_path_view}
use Rattle.herm_typed.specs.Blocks.{typed_arm_view}
use Rattle.herm_judge.specs.View.{table_of, variables_of}
use Rattle.herm_judge.proofs.arms.are_arms_there.Given as goal

-- What is so of those that are left is so of all.
abbrev pub invariant-arms : goal.invariant-arms
invariant-arms l = all_pass (is_there (table_of l.frame) (variables_of l.frame)) (flat_map (λ (a : Arm). a.port ∷ a.target ∷ []) (map typed_arm_view (drop l.port-index l.arms))) ≡ all_pass (is_there (table_of l.frame) (variables_of l.frame)) (flat_map (λ (a : Arm). a.port ∷ a.target ∷ []) (map typed_arm_view l.arms))
