use Rattle.herm_source.specs.Instance.{source, nameless}
use Rattle.herm_source.specs.Renaming.{forget_state}
use Rattle.herm_runs.proofs.DiariesTold.{diaries-tell}
use Rattle.herm_source.proofs.instance.SourceForgets.{source-forgets-names}
use Rattle.herm_source.proofs.instance.SourceLaws.{source-keeps-numbers}
use Rattle.herm_source.proofs.runs.diaries_tell.Goals as goal

pub returns : goal.returns
returns c = record { told = λ modules. diaries-tell (source modules) (nameless modules) forget_state (source-forgets-names modules) (source-keeps-numbers modules) }
