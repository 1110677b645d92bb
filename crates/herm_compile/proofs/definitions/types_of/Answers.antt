use Rattle.herm_compile.proofs.SpotLaws.{modules_short}
use Rattle.herm_compile.proofs.definitions.types_of.Goals as goal

pub definition_faults-requires : goal.definition_faults-requires
definition_faults-requires c = modules_short 0 _ _ _ c.requires
