use Rattle.herm_instructions.proofs.DecidedCode.{tests-code, none-code, test-images}
use Rattle.herm_instructions.proofs.good_code.tests_decide_code.Goals as goal

pub returns : goal.returns
returns c = record { rules = tests-code; modules = none-code; images = test-images }
