-- What is missing in the examples: labels are found and tested by computing.
use Rattle.std.proofs.Common.{◌≡◌, List, true}
use Rattle.herm_model.specs.Types.{TypeTable}
use Rattle.herm_model.specs.Statements.{Process}
use Rattle.herm_model.specs.ControlPaths.{flow_of}
use Rattle.herm_model.specs.MissingFacts.{Refusal, IsMissing}
use Rattle.herm_model.proofs.Labels.{confirms, labels_found, confirms-AreRefusals}

-- by labels that are found and then tested
pub computed : (types : TypeTable) (p : Process) (refusals : List Refusal) → confirms (flow_of types p) (labels_found (flow_of types p)) refusals ≡ true → IsMissing types p refusals
computed types p refusals h = confirms-AreRefusals (flow_of types p) (labels_found (flow_of types p)) refusals h
