use Rattle.herm_lexer.proofs.Files.{read_more, read_stop}
use Rattle.herm_lexer.proofs.lexer.add_piece.Goals as goal

pub returns-in_ok-add_token-in-Ok-clause-read : goal.returns-in_ok-add_token-in-Ok-clause-read
returns-in_ok-add_token-in-Ok-clause-read c =
    read_more c.args.bytes.now c.args.rest.now c.args.tokens.now.items c.add_token.new.tokens.items c.in-Ok.found c.requires.read c.requires.some c.in-Ok.ensures.exact c.in_ok-add_token-in-Ok.ensures.ok

pub returns-in-Err-clause-fault : goal.returns-in-Err-clause-fault
returns-in-Err-clause-fault c =
    read_stop c.args.bytes.now c.args.rest.now c.args.tokens.now.items c.fault_at.result c.in-Err.stop c.requires.read c.requires.some c.in-Err.ensures.exact c.fault_at.ensures
