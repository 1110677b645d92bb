use Rattle.std.proofs.Common.{arith}
use Rattle.herm_lexer.proofs.FileLaws.{short_fault, read_ordinary, read_count}
use Rattle.herm_lexer.proofs.lexer.short_file_tokens.Goals as goal

pub returns-in-Ok : goal.returns-in-Ok
returns-in-Ok c = record {
  tokens = record { short = c.requires; read = c.in-Ok.ensures.read };
  fault = tt;
  ordinary = read_ordinary c.args.bytes.now _ _ c.in-Ok.ensures.read;
  count = omega (arith, read_count c.args.bytes.now _ _ c.in-Ok.ensures.read, c.requires);
}

pub returns-in-Err-clause-fault : goal.returns-in-Err-clause-fault
returns-in-Err-clause-fault c = short_fault c.args.bytes.now c.in-Err.fault c.requires c.in-Err.ensures.fault
