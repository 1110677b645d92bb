use Rattle.herm_code_machine.specs.CodeInstance.{code_machine, nameless_code}
use Rattle.herm_code_machine.specs.CodeRenaming.{forget_code}
use Rattle.herm_runs.proofs.DiariesTold.{diaries-tell}
use Rattle.herm_code_machine.proofs.instance.CodeForgets.{code-forgets-names}
use Rattle.herm_code_machine.proofs.instance.CodeLaws.{code-keeps-numbers}
use Rattle.herm_code_machine.proofs.runs.diaries_tell.Goals as goal

pub returns : goal.returns
returns c = record { told = λ image. diaries-tell (code_machine image) (nameless_code image) forget_code (code-forgets-names image) (code-keeps-numbers image) }
