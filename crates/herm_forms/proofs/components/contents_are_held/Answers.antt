use Rattle.herm_forms.proofs.forms.HeldContents.{contents-held}
use Rattle.herm_forms.proofs.components.contents_are_held.Goals as goal

pub returns : goal.returns
returns c = record { contents = contents-held }
