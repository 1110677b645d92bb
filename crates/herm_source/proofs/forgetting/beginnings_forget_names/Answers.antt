use Rattle.herm_journal.specs.Renaming.{forget_name}
use Rattle.herm_source.specs.States.{own_name}
use Rattle.herm_source.proofs.renamed.RenamedSteps.{begin-renamed}
use Rattle.herm_source.proofs.forgetting.beginnings_forget_names.Goals as goal

pub returns : goal.returns
returns c = record { beginnings = begin-renamed forget_name own_name }
