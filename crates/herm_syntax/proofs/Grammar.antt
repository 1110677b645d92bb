-- The readers of statements over those of expressions and blocks.
use Rattle.herm_syntax.specs.ReadExpressions.{read_expression}
use Rattle.herm_syntax.specs.ReadStatements.{read_statements}
use Rattle.herm_syntax.specs.laws.GrammarLaws.{StatementsAreRead}
use Rattle.herm_syntax.proofs.Levels.{expression_reads}
use Rattle.herm_syntax.proofs.Blocks.{statement_reads, statements_reads}

pub statements_hold : StatementsAreRead
statements_hold levels = statement_reads levels (read_expression levels) (read_statements levels) (expression_reads levels) (statements_reads levels)
