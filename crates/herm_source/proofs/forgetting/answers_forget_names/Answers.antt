use Rattle.herm_journal.specs.Renaming.{forget_name}
use Rattle.herm_source.specs.States.{own_name}
use Rattle.herm_source.proofs.renamed.RenamedSteps.{answered-renamed}
use Rattle.herm_source.proofs.forgetting.answers_forget_names.Goals as goal

pub returns : goal.returns
returns c = record { answers = answered-renamed forget_name own_name }
