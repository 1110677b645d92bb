use Rattle.std.proofs.Common.{refl}
use Rattle.herm_model.specs.Types.{predefined}
use Rattle.herm_model.specs.examples.RefusedProcesses.{missing_after_one_branch, missing_in_a_loop, sent_twice, set_in_one_branch}
use Rattle.herm_model.proofs.ExampleRefusals.{computed}
use Rattle.herm_model.proofs.examples.joins_are_refused.Goals as goal

pub returns : goal.returns
returns c = record {
  one_branch = computed predefined set_in_one_branch missing_after_one_branch refl;
  second_turn = computed predefined sent_twice missing_in_a_loop refl;
}
