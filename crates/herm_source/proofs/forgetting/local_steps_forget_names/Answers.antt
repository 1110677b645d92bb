use Rattle.herm_journal.specs.Renaming.{forget_name}
use Rattle.herm_source.specs.States.{own_name}
use Rattle.herm_source.proofs.renamed.RenamedSteps.{local_step-renamed}
use Rattle.herm_source.proofs.forgetting.local_steps_forget_names.Goals as goal

pub returns : goal.returns
returns c = record { local_steps = local_step-renamed forget_name own_name }
