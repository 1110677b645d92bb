use Rattle.std.proofs.Common.{[], refl}
use Rattle.herm_model.proofs.DecidedTables.{none-well_formed}
use Rattle.herm_instructions.proofs.DecidedCode.{test-images}
use Rattle.herm_instructions.specs.examples.ExampleImages.{example_defined}
use Rattle.herm_code_machine.specs.examples.CodeByHand.{greeting_image, left_loop, row_types, whole_loop}
use Rattle.herm_code_machine.specs.examples.EndingCode.{greeting_in_one_step, raising}
use Rattle.herm_code_machine.proofs.examples.code_by_hand_meets_the_laws.Goals as goal

pub returns : goal.returns
returns c =
    let plain = (none-well_formed 8 []).0 refl in
    let shared = (none-well_formed 8 example_defined).0 refl in
    let rows = (none-well_formed 8 row_types).0 refl in
    record {
      greeting = record { good = (test-images 8 greeting_image shared).0 refl; table = shared };
      whole = record { good = (test-images 8 whole_loop shared).0 refl; table = shared };
      left = record { good = (test-images 8 left_loop rows).0 refl; table = rows };
      raised = record { good = (test-images 8 raising plain).0 refl; table = plain };
      one_step = record { good = (test-images 8 greeting_in_one_step plain).0 refl; table = plain };
    }
