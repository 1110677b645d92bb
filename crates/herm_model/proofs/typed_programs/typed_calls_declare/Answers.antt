use Rattle.herm_model.proofs.TypedArguments.{arguments-fit}
use Rattle.herm_model.proofs.ThereFacts.{calls-declare, travel-full}
use Rattle.herm_model.proofs.typed_programs.typed_calls_declare.Goals as goal

pub returns : goal.returns
returns c = record { exceptions = calls-declare; messages = travel-full; arguments = arguments-fit }
