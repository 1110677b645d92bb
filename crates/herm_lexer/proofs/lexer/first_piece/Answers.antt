use Rattle.herm_lexer.specs.Reading.{piece_at}
use Rattle.herm_lexer.proofs.Pieces.{explained}
use Rattle.herm_lexer.proofs.Files.{within_of}
use Rattle.herm_lexer.proofs.lexer.first_piece.Goals as goal

pub returns-clause-within : goal.returns-clause-within
returns-clause-within c =
    within_of c.args.bytes.now (piece_at c.args.bytes.now) c.read_piece.result (explained c.args.bytes.now c.requires) c.read_piece.ensures
