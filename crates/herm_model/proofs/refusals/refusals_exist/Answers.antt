use Rattle.herm_model.specs.ControlPaths.{flow_of}
use Rattle.herm_model.specs.MissingFacts.{demands}
use Rattle.herm_model.proofs.HeldDecided.{refusals-exist}
use Rattle.herm_model.proofs.refusals.refusals_exist.Goals as goal

pub returns-clause-demands : goal.returns-clause-demands
returns-clause-demands c = λ flow ds. refusals-exist flow ds

pub returns-clause-processes : goal.returns-clause-processes
returns-clause-processes c = λ types p. refusals-exist (flow_of types p) (demands (flow_of types p))
