use Rattle.herm_source.specs.Instance.{source, IsSoundIn}
use Rattle.herm_runs.proofs.SuitsRuns.{sound-states-suit, sound-states-would-suit}
use Rattle.herm_source.proofs.instance.SourceLooks.{source-looks-at-held}
use Rattle.herm_source.proofs.runs.sound_states_suit.Goals as goal

pub returns : goal.returns
returns c = record {
  suits = λ modules share. sound-states-suit (source modules) (IsSoundIn modules) (source-looks-at-held modules share);
  would = λ modules share. sound-states-would-suit (source modules) (IsSoundIn modules) (source-looks-at-held modules share);
}
