use Rattle.herm_lexer.proofs.Longest.{pieces_are_longest}
use Rattle.herm_lexer.proofs.laws.pieces_are_longest.Goals as goal

pub returns : goal.returns
returns c = pieces_are_longest
