use Rattle.std.proofs.Common.{sym, arith}
use Rattle.herm_lexer.proofs.FileLaws.{long_fault, cut_fault, kept_length}
use Rattle.herm_lexer.proofs.lexer.long_file_fault.Goals as goal

pub slice_bounds-front-end : goal.slice_bounds-front-end
slice_bounds-front-end c = sym (kept_length c.args.bytes.now c.requires)

pub tokens_of-requires : goal.tokens_of-requires
tokens_of-requires c = omega (arith, kept_length c.args.bytes.now c.requires)

pub returns-in-Ok : goal.returns-in-Ok
returns-in-Ok c = cut_fault c.args.bytes.now _ c.requires c.in-Ok.ensures.read

pub returns-in-Err : goal.returns-in-Err
returns-in-Err c = long_fault c.args.bytes.now c.in-Err.fault c.in-Err.ensures.fault
