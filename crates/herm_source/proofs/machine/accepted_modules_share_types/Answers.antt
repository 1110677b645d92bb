use Rattle.herm_source.proofs.instance.SourceLooks.{accepted-share-types}
use Rattle.herm_source.proofs.machine.accepted_modules_share_types.Goals as goal

pub returns : goal.returns
returns c = record { types = accepted-share-types }
