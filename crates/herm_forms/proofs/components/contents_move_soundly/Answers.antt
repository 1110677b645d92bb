use Rattle.herm_forms.proofs.forms.MovedContents.{contents-move}
use Rattle.herm_forms.proofs.components.contents_move_soundly.Goals as goal

pub returns : goal.returns
returns c = record { contents = contents-move }
