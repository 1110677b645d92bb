use Rattle.herm_compile.proofs.SpotLaws.{modules_short}
use Rattle.herm_compile.proofs.acceptance.faults_of.Goals as goal

pub missing_faults-requires : goal.missing_faults-requires
missing_faults-requires c = modules_short 0 _ _ _ c.requires
