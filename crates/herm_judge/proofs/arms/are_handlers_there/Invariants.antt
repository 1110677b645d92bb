use Rattle.std.proofs.Common.{◌≡◌, ◌≤◌, ◌++◌, ◌∷◌, [], map, flat_map, drop, nat_eq, nat_lt}
use Rattle.herm_model.specs.Lists.{all_pass, any_pass, range}
use Rattle.herm_model.specs.Statements.{Arm}
use Rattle.herm_naming.specs.Fits.{fits_arm}
use Rattle.herm_naming.specs.UnknownNames.{is_there}
use Rattle.herm_typed.specs.View.{typed_path_view}
use Rattle.herm_typed.specs.Blocks.{typed_arm_view}
use Rattle.herm_judge.specs.View.{table_of, variables_of}
use Rattle.herm_judge.proofs.arms.are_handlers_there.Given as goal

-- What is so of those that are left is so of all.
abbrev pub invariant-handlers : goal.invariant-handlers
invariant-handlers l = all_pass (λ e. nat_lt e l.exceptions) (map (λ h. h.0.0) (drop l.e-index l.handled)) ≡ all_pass (λ e. nat_lt e l.exceptions) (map (λ h. h.0.0) l.handled)
