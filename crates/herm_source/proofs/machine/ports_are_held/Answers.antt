use Rattle.herm_source.proofs.instance.SourceLooks.{source-looks-at-held}
use Rattle.herm_source.proofs.machine.ports_are_held.Goals as goal

pub returns : goal.returns
returns c = record { held = source-looks-at-held }
