use Rattle.std.proofs.Common.{length}
use Rattle.herm_lexer.specs.Spelling.{ReadTo}
use Rattle.herm_lexer.proofs.lexer.tokens_of.Given as goal

-- the tokens so far are those of the bytes before the rest
abbrev pub invariant-loop-rest : goal.invariant-loop-rest
invariant-loop-rest l = ReadTo l.bytes l.rest l.tokens.items

abbrev pub decreases-loop-rest : goal.decreases-loop-rest
decreases-loop-rest l = length l.rest
