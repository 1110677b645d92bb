use Rattle.std.proofs.Common.{refl}
use Rattle.herm_checked.proofs.RunningPrograms.{missing-stuck}
use Rattle.herm_checked.proofs.running_programs.missing_arms_stop_a_run.Goals as goal

pub returns : goal.returns
returns c = record { before = refl; missing = refl; stuck = missing-stuck; complete = refl }
