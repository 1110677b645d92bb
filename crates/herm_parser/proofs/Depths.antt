-- One level of brackets more.
use Rattle.std.proofs.Common.{◌≡◌, ℕ, zero, suc, ◌-◌, ◌<◌, List, refl, sym, ap, ◌∙◌, arith}
use Rattle.herm_readers.specs.Reader.{Reader}
use Rattle.herm_syntax.specs.Symbols.{Symbol}
use Rattle.herm_syntax.specs.Trees.{Expression}
use Rattle.herm_syntax.specs.ReadExpressions.{read_primary, read_simple, read_expression, read_levels}
use Rattle.herm_parser.specs.Levels.{primary_at, unary_at, product_at, sum_at, comparison_at, conjunction_at, expression_at}

pub primary_none : (depth : ℕ) → depth ≡ 0 → (symbols : List Symbol) → primary_at depth symbols ≡ read_simple symbols
unfolding primary_at
primary_none zero e symbols = refl
primary_none (suc depth) e symbols = absurd (omega arith)

at_levels : (depth : ℕ) (symbols : List Symbol) → primary_at (suc depth) symbols ≡ read_primary (expression_at depth) symbols
unfolding primary_at unary_at product_at sum_at comparison_at conjunction_at expression_at
at_levels depth symbols = refl

pub primary_more : (depth : ℕ) → 0 < depth → (symbols : List Symbol) → primary_at depth symbols ≡ read_primary (expression_at (depth - 1)) symbols
primary_more zero e symbols = absurd (omega arith)
primary_more (suc depth) e symbols = at_levels depth symbols ∙ ap (λ d. read_primary (expression_at d) symbols) less
  where
    less : depth ≡ suc depth - 1
    less = omega arith

at_levels_alone : (depth : ℕ) → expression_at depth ≡ read_levels (primary_at depth)
unfolding unary_at product_at sum_at comparison_at conjunction_at expression_at
at_levels_alone depth = refl

levels_are : (depth : ℕ) → read_levels (primary_at depth) ≡ read_expression depth
unfolding primary_at
levels_are zero = refl
levels_are (suc depth) = ap (λ (read : Reader Symbol Expression). read_levels (read_primary read)) (levels_are depth)

-- The reader of expressions is the grammar's.
pub expression_is : (depth : ℕ) → expression_at depth ≡ read_expression depth
expression_is depth = at_levels_alone depth ∙ levels_are depth

pub expression_at_is : (depth : ℕ) (symbols : List Symbol) → read_expression depth symbols ≡ expression_at depth symbols
expression_at_is depth symbols = ap (λ (read : Reader Symbol Expression). read symbols) (sym (expression_is depth))
