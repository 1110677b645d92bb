use Rattle.herm_checked.proofs.RunningPrograms.{ring-ready, senders-ready, both-ready, kept-ready, raises-ready}
use Rattle.herm_checked.proofs.running_programs.programs_are_ready.Goals as goal

pub returns : goal.returns
returns c = record { ring = ring-ready; senders = senders-ready; both = both-ready; kept = kept-ready; raises = raises-ready }
