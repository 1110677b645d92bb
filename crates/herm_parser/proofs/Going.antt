-- Lists of operands go on operand by operand.
use Rattle.std.proofs.Common.{◌≡◌, ℕ, zero, suc, refl}
use Rattle.herm_readers.specs.Reader.{Reader, Reads}
use Rattle.herm_readers.specs.Combinators.{one, one_rule, sequence, sequence_rule}
use Rattle.herm_readers.proofs.Sequences.{sequence_reads}
use Rattle.std.specs.Prelude.{true}
use Rattle.herm_syntax.specs.Symbols.{Symbol, is_operator, star, plus, equal}
use Rattle.herm_syntax.specs.KeywordSymbols.{kw_and, kw_or}
use Rattle.herm_syntax.specs.Trees.{Expression}
use Rattle.herm_syntax.specs.ReadExpressions.{pick_by, expression_rule, primary_rule, read_levels}
use Rattle.herm_syntax.proofs.Names.{pick_by_reads}
use Rattle.herm_syntax.proofs.Levels.{simple_reads, primary_reads, unary_reads, chain_reads, comparison_reads, levels_reads}
use Rattle.herm_parser.specs.Levels.{primary_at, unary_at, product_at, sum_at, comparison_at, conjunction_at}
use Rattle.herm_parser.proofs.Loops.{Goes, goes_by}

-- An operator, and then an operand.
operand_goes : (n level depth : ℕ) (example : Symbol) (read : Reader Symbol Expression) → is_operator n example ≡ true → Reads (expression_rule level depth) read → Goes (is_operator n) (sequence (one (pick_by (is_operator n))) read)
operand_goes n level depth example read is reads =
    let parts = sequence_rule (one_rule (is_operator n) (λ x. x)) (expression_rule level depth) in
    goes_by (is_operator n) parts (sequence (one (pick_by (is_operator n))) read) (λ found f e. cc)
    (sequence_reads (one_rule (is_operator n) (λ x. x)) (expression_rule level depth) (one (pick_by (is_operator n))) read (pick_by_reads (is_operator n) example is) reads)

primary_at_reads : (depth : ℕ) → Reads (primary_rule depth) (primary_at depth)
unfolding primary_at
primary_at_reads zero = simple_reads
primary_at_reads (suc depth) = primary_reads depth (read_levels (primary_at depth)) (levels_reads depth (primary_at depth) (primary_at_reads depth))

unary_at_reads : (depth : ℕ) → Reads (expression_rule 0 depth) (unary_at depth)
unfolding unary_at
unary_at_reads depth = unary_reads depth (primary_at depth) (primary_at_reads depth)

product_at_reads : (depth : ℕ) → Reads (expression_rule 1 depth) (product_at depth)
unfolding product_at
product_at_reads depth = chain_reads 0 depth (unary_at depth) (unary_at_reads depth) star refl refl

sum_at_reads : (depth : ℕ) → Reads (expression_rule 2 depth) (sum_at depth)
unfolding sum_at
sum_at_reads depth = chain_reads 1 depth (product_at depth) (product_at_reads depth) plus refl refl

comparison_at_reads : (depth : ℕ) → Reads (expression_rule 3 depth) (comparison_at depth)
unfolding comparison_at
comparison_at_reads depth = comparison_reads 2 depth (sum_at depth) (sum_at_reads depth) equal refl refl

conjunction_at_reads : (depth : ℕ) → Reads (expression_rule 4 depth) (conjunction_at depth)
unfolding conjunction_at
conjunction_at_reads depth = chain_reads 3 depth (comparison_at depth) (comparison_at_reads depth) kw_and refl refl

pub unary_goes : (depth : ℕ) → Goes (is_operator 1) (sequence (one (pick_by (is_operator 1))) (unary_at depth))
unary_goes depth = operand_goes 1 0 depth star (unary_at depth) refl (unary_at_reads depth)

pub product_goes : (depth : ℕ) → Goes (is_operator 2) (sequence (one (pick_by (is_operator 2))) (product_at depth))
product_goes depth = operand_goes 2 1 depth plus (product_at depth) refl (product_at_reads depth)

pub comparison_goes : (depth : ℕ) → Goes (is_operator 4) (sequence (one (pick_by (is_operator 4))) (comparison_at depth))
comparison_goes depth = operand_goes 4 3 depth kw_and (comparison_at depth) refl (comparison_at_reads depth)

pub conjunction_goes : (depth : ℕ) → Goes (is_operator 5) (sequence (one (pick_by (is_operator 5))) (conjunction_at depth))
conjunction_goes depth = operand_goes 5 4 depth kw_or (conjunction_at depth) refl (conjunction_at_reads depth)
