-- The readers of expressions level by level: language reference, "Expressions".
use Rattle.std.specs.Prelude.{ℕ, zero, suc}
use Rattle.herm_readers.specs.Reader.{Reader}
use Rattle.herm_syntax.specs.Symbols.{Symbol}
use Rattle.herm_syntax.specs.Trees.{Expression, Primary}
use Rattle.herm_syntax.specs.ReadExpressions.{read_simple, read_primary, read_unary, read_chain, read_comparison, read_levels}

-- Operands in which expressions stand in one another no deeper than this.
unfoldable pub primary_at : ℕ → Reader Symbol Primary
primary_at zero = read_simple
primary_at (suc depth) = read_primary (read_levels (primary_at depth))

unfoldable pub unary_at : ℕ → Reader Symbol Expression
unary_at depth = read_unary (primary_at depth)

unfoldable pub product_at : ℕ → Reader Symbol Expression
product_at depth = read_chain 1 (unary_at depth)

unfoldable pub sum_at : ℕ → Reader Symbol Expression
sum_at depth = read_chain 2 (product_at depth)

unfoldable pub comparison_at : ℕ → Reader Symbol Expression
comparison_at depth = read_comparison 3 (sum_at depth)

unfoldable pub conjunction_at : ℕ → Reader Symbol Expression
conjunction_at depth = read_chain 4 (comparison_at depth)

unfoldable pub expression_at : ℕ → Reader Symbol Expression
expression_at depth = read_chain 5 (conjunction_at depth)
