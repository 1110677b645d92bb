use Rattle.herm_forms.proofs.evaluated.RaisedExceptions.{raises-its}
use Rattle.herm_forms.proofs.expressions.evaluations_raise_their_exceptions.Goals as goal

pub returns : goal.returns
returns start = record { exceptions = raises-its }
