use Rattle.herm_checked.proofs.RunningPrograms.{raises-described, kept-described}
use Rattle.herm_checked.proofs.running_programs.runs_by_exception_are_described.Goals as goal

pub returns : goal.returns
returns c = record { raises = raises-described; kept = kept-described }
