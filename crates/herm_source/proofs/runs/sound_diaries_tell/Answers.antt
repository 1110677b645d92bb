use Rattle.herm_source.specs.Instance.{source, nameless, IsSoundIn}
use Rattle.herm_source.specs.Renaming.{forget_state}
use Rattle.herm_runs.proofs.SuitsRuns.{sound-diaries-tell}
use Rattle.herm_source.proofs.instance.SourceForgets.{source-forgets-names}
use Rattle.herm_source.proofs.instance.SourceLooks.{source-looks-at-held}
use Rattle.herm_source.proofs.instance.SourceLaws.{source-keeps-numbers}
use Rattle.herm_source.proofs.runs.sound_diaries_tell.Goals as goal

pub returns : goal.returns
returns c = record { told = λ modules share. sound-diaries-tell (source modules) (IsSoundIn modules) (source-looks-at-held modules share) (nameless modules) forget_state (source-forgets-names modules) (source-keeps-numbers modules) }
