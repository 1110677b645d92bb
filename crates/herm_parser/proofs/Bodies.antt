-- The statements of a block, by the depth.
use Rattle.std.proofs.Common.{◌≡◌, ℕ, zero, suc, ◌-◌, ◌<◌, List, [], ◌∷◌, map, length, inr, refl, sym, ap, ◌∙◌, arith}
use Rattle.herm_readers.specs.Reader.{Read, Fault, Reader}
use Rattle.herm_readers.specs.Combinators.{mapped, many, choice}
use Rattle.herm_alphabet.specs.declared.token.Token.{Token}
use Rattle.herm_syntax.specs.declared.statements.Stmt.{Stmt}
use Rattle.herm_syntax.specs.Symbols.{Symbol, is}
use Rattle.herm_syntax.specs.KeywordSymbols.{kw_case, kw_for, kw_select, kw_if, kw_while, kw_try}
use Rattle.herm_syntax.specs.Trees.{Statement, Statements, NoStatement, Further}
use Rattle.herm_syntax.specs.ReadExpressions.{read_expression}
use Rattle.herm_syntax.specs.ReadStatements.{inside, statements_of, read_statement, read_statements, statement_of as joined, compound_of, read_compound, read_plain, is_plain, read_case, read_for, read_select, read_if, read_while, read_try, read_assign}
use Rattle.herm_syntax.specs.View.{stmt_form_view, stmts_view}
use Rattle.herm_parser.specs.Gives.{kinds}
use Rattle.herm_parser.specs.Forms.{either, plain_at}
use Rattle.herm_parser.specs.Blocks.{body_at, case_at, for_at, select_at, if_at, while_at, try_at, assign_at, compound_at, statement_at}
use Rattle.herm_parser.proofs.Choosing.{split, plain_is}
use mathlib.Core.Path.{fun_ext}

pub body_none : (depth : ℕ) → depth ≡ 0 → (symbols : List Symbol) → body_at depth symbols ≡ Read NoStatement symbols
unfolding body_at
body_none zero e symbols = refl
body_none (suc depth) e symbols = absurd (omega arith)

pub body_list : (found : List Stmt) → statements_of (map (λ s. stmt_form_view s.form) found) ≡ stmts_view found
body_list [] = refl
body_list (s ∷ found) = ap (λ t. Further (stmt_form_view s.form) t) (body_list found)

pub statement_behind : (depth : ℕ) → statement_at depth [] ≡ Fault 0
unfolding statement_at compound_at case_at for_at select_at if_at while_at try_at assign_at
statement_behind depth = refl

from_try : (depth : ℕ) (s : List Symbol) → mapped (λ x. compound_of (inr (inr (inr (inr (inr x)))))) (choice (is kw_try) (read_try (body_at depth)) (read_assign (read_expression depth))) s ≡ (mapped either (choice (is kw_try) (try_at depth) (assign_at depth))) s
unfolding try_at assign_at
from_try depth s = split (λ x. compound_of (inr (inr (inr (inr (inr x)))))) (read_try (body_at depth)) (read_assign (read_expression depth)) (try_at depth) (assign_at depth) (λ s. refl) (λ s. refl) (is kw_try) s

from_while : (depth : ℕ) (s : List Symbol) → mapped (λ x. compound_of (inr (inr (inr (inr x))))) (choice (is kw_while) (read_while (read_expression depth) (body_at depth)) (choice (is kw_try) (read_try (body_at depth)) (read_assign (read_expression depth)))) s ≡ (mapped either (choice (is kw_while) (while_at depth) (mapped either (choice (is kw_try) (try_at depth) (assign_at depth))))) s
unfolding while_at
from_while depth s = split (λ x. compound_of (inr (inr (inr (inr x))))) (read_while (read_expression depth) (body_at depth)) (choice (is kw_try) (read_try (body_at depth)) (read_assign (read_expression depth))) (while_at depth) (mapped either (choice (is kw_try) (try_at depth) (assign_at depth))) (λ s. refl) (from_try depth) (is kw_while) s

from_if : (depth : ℕ) (s : List Symbol) → mapped (λ x. compound_of (inr (inr (inr x)))) (choice (is kw_if) (read_if (read_expression depth) (body_at depth)) (choice (is kw_while) (read_while (read_expression depth) (body_at depth)) (choice (is kw_try) (read_try (body_at depth)) (read_assign (read_expression depth))))) s ≡ (mapped either (choice (is kw_if) (if_at depth) (mapped either (choice (is kw_while) (while_at depth) (mapped either (choice (is kw_try) (try_at depth) (assign_at depth))))))) s
unfolding if_at
from_if depth s = split (λ x. compound_of (inr (inr (inr x)))) (read_if (read_expression depth) (body_at depth)) (choice (is kw_while) (read_while (read_expression depth) (body_at depth)) (choice (is kw_try) (read_try (body_at depth)) (read_assign (read_expression depth)))) (if_at depth) (mapped either (choice (is kw_while) (while_at depth) (mapped either (choice (is kw_try) (try_at depth) (assign_at depth))))) (λ s. refl) (from_while depth) (is kw_if) s

from_select : (depth : ℕ) (s : List Symbol) → mapped (λ x. compound_of (inr (inr x))) (choice (is kw_select) (read_select (body_at depth)) (choice (is kw_if) (read_if (read_expression depth) (body_at depth)) (choice (is kw_while) (read_while (read_expression depth) (body_at depth)) (choice (is kw_try) (read_try (body_at depth)) (read_assign (read_expression depth)))))) s ≡ (mapped either (choice (is kw_select) (select_at depth) (mapped either (choice (is kw_if) (if_at depth) (mapped either (choice (is kw_while) (while_at depth) (mapped either (choice (is kw_try) (try_at depth) (assign_at depth))))))))) s
unfolding select_at
from_select depth s = split (λ x. compound_of (inr (inr x))) (read_select (body_at depth)) (choice (is kw_if) (read_if (read_expression depth) (body_at depth)) (choice (is kw_while) (read_while (read_expression depth) (body_at depth)) (choice (is kw_try) (read_try (body_at depth)) (read_assign (read_expression depth))))) (select_at depth) (mapped either (choice (is kw_if) (if_at depth) (mapped either (choice (is kw_while) (while_at depth) (mapped either (choice (is kw_try) (try_at depth) (assign_at depth))))))) (λ s. refl) (from_if depth) (is kw_select) s

from_for : (depth : ℕ) (s : List Symbol) → mapped (λ x. compound_of (inr x)) (choice (is kw_for) (read_for (body_at depth)) (choice (is kw_select) (read_select (body_at depth)) (choice (is kw_if) (read_if (read_expression depth) (body_at depth)) (choice (is kw_while) (read_while (read_expression depth) (body_at depth)) (choice (is kw_try) (read_try (body_at depth)) (read_assign (read_expression depth))))))) s ≡ (mapped either (choice (is kw_for) (for_at depth) (mapped either (choice (is kw_select) (select_at depth) (mapped either (choice (is kw_if) (if_at depth) (mapped either (choice (is kw_while) (while_at depth) (mapped either (choice (is kw_try) (try_at depth) (assign_at depth))))))))))) s
unfolding for_at
from_for depth s = split (λ x. compound_of (inr x)) (read_for (body_at depth)) (choice (is kw_select) (read_select (body_at depth)) (choice (is kw_if) (read_if (read_expression depth) (body_at depth)) (choice (is kw_while) (read_while (read_expression depth) (body_at depth)) (choice (is kw_try) (read_try (body_at depth)) (read_assign (read_expression depth)))))) (for_at depth) (mapped either (choice (is kw_select) (select_at depth) (mapped either (choice (is kw_if) (if_at depth) (mapped either (choice (is kw_while) (while_at depth) (mapped either (choice (is kw_try) (try_at depth) (assign_at depth))))))))) (λ s. refl) (from_select depth) (is kw_for) s

compound_is : (depth : ℕ) (s : List Symbol) → mapped compound_of (choice (is kw_case) (read_case (body_at depth)) (choice (is kw_for) (read_for (body_at depth)) (choice (is kw_select) (read_select (body_at depth)) (choice (is kw_if) (read_if (read_expression depth) (body_at depth)) (choice (is kw_while) (read_while (read_expression depth) (body_at depth)) (choice (is kw_try) (read_try (body_at depth)) (read_assign (read_expression depth)))))))) s ≡ compound_at depth s
unfolding case_at compound_at
compound_is depth s = split compound_of (read_case (body_at depth)) (choice (is kw_for) (read_for (body_at depth)) (choice (is kw_select) (read_select (body_at depth)) (choice (is kw_if) (read_if (read_expression depth) (body_at depth)) (choice (is kw_while) (read_while (read_expression depth) (body_at depth)) (choice (is kw_try) (read_try (body_at depth)) (read_assign (read_expression depth))))))) (case_at depth) (mapped either (choice (is kw_for) (for_at depth) (mapped either (choice (is kw_select) (select_at depth) (mapped either (choice (is kw_if) (if_at depth) (mapped either (choice (is kw_while) (while_at depth) (mapped either (choice (is kw_try) (try_at depth) (assign_at depth))))))))))) (λ s. refl) (from_for depth) (is kw_case) s

statement_is_at : (depth : ℕ) (s : List Symbol) → read_statement (read_expression depth) (body_at depth) s ≡ statement_at depth s
unfolding statement_at
statement_is_at depth s = split joined read_plain (read_compound (read_expression depth) (body_at depth)) plain_at (compound_at depth) plain_is (compound_is depth) is_plain s

body_is : (depth : ℕ) → body_at depth ≡ read_statements depth
unfolding body_at
body_is depth = refl

pub statement_is : (depth : ℕ) → read_statement (read_expression depth) (read_statements depth) ≡ statement_at depth
statement_is depth = fun_ext (λ s. ap (λ (read : Reader Symbol Statements). read_statement (read_expression depth) read s) (sym (body_is depth)) ∙ statement_is_at depth s)

body_suc : (depth : ℕ) (symbols : List Symbol) → body_at (suc depth) symbols ≡ mapped statements_of (many inside (statement_at depth)) symbols
unfolding body_at
body_suc depth symbols = ap (λ (read : Reader Symbol Statement). mapped statements_of (many inside read) symbols) (statement_is depth)

pub body_more : (depth : ℕ) → 0 < depth → (symbols : List Symbol) → body_at depth symbols ≡ mapped statements_of (many inside (statement_at (depth - 1))) symbols
body_more zero e symbols = absurd (omega arith)
body_more (suc depth) e symbols = body_suc depth symbols ∙ ap (λ d. mapped statements_of (many inside (statement_at d)) symbols) less
  where
    less : depth ≡ suc depth - 1
    less = omega arith

pub no_kinds : (tokens : List Token) → length tokens ≡ 0 → kinds tokens ≡ []
no_kinds [] e = refl
no_kinds (t ∷ tokens) e = absurd (omega arith)
