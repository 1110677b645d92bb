use Rattle.herm_code_machine.proofs.instance.CodeLaws.{code-knows-places}
use Rattle.herm_code_machine.proofs.machine.places_are_known.Goals as goal

pub returns : goal.returns
returns c = record { places = code-knows-places }
