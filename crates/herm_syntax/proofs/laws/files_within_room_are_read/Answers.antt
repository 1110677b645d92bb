use Rattle.herm_syntax.proofs.Places.{file_is_found, file_is_again}
use Rattle.herm_syntax.proofs.laws.files_within_room_are_read.Goals as goal

pub returns : goal.returns
returns c = record { found = file_is_found; again = file_is_again }
