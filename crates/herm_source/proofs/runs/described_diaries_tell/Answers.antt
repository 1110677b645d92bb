use Rattle.herm_source.specs.Instance.{source, nameless, IsSoundIn}
use Rattle.herm_source.specs.AcceptedRuns.{FindsNeedsIn}
use Rattle.herm_source.specs.Renaming.{forget_state}
use Rattle.herm_runs.proofs.SuitsRuns.{described-diaries-tell}
use Rattle.herm_source.proofs.instance.SourceForgets.{source-forgets-names}
use Rattle.herm_source.proofs.instance.SourceLooks.{source-looks-at-held, accepted-share-types}
use Rattle.herm_source.proofs.instance.SourceLaws.{source-keeps-numbers}
use Rattle.herm_source.proofs.runs.described_diaries_tell.Goals as goal

pub returns : goal.returns
returns c = record { told = λ program modules accepted. described-diaries-tell (source modules) (nameless modules) forget_state (source-forgets-names modules) (source-keeps-numbers modules) (IsSoundIn modules) (FindsNeedsIn modules) (source-looks-at-held modules (accepted-share-types program modules accepted)) }
