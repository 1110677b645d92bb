-- The readers of statements with blocks: language reference, "Statements". So many brackets may still open as the depth says.
use Rattle.std.specs.Prelude.{ℕ, Option, Some, None, Vec}
use Rattle.std.specs.Global.{Global}
use Rattle.herm_base.specs.declared.word.Name.{Name}
use Rattle.herm_readers.specs.Reader.{Reader}
use Rattle.herm_readers.specs.Combinators.{mapped, choice}
use Rattle.herm_syntax.specs.declared.expressions.PathForm.{PathForm}
use Rattle.herm_syntax.specs.declared.statements.Stmt.{Stmt}
use Rattle.herm_syntax.specs.Symbols.{Symbol, is}
use Rattle.herm_syntax.specs.KeywordSymbols.{kw_case, kw_for, kw_select, kw_if, kw_while, kw_try}
use Rattle.herm_syntax.specs.Trees.{Letters, Path, Statement, Statements, Otherwise, NoElse, Else, Case, For, Select, If, While, Try, Assign}
use Rattle.herm_syntax.specs.ReadExpressions.{read_expression}
use Rattle.herm_syntax.specs.ReadStatements.{read_statements, is_plain, in_braces, read_case_arm, read_port_arm, read_handler, read_otherwise, read_case, read_for, read_select, read_if, read_while, read_try, read_assign}
use Rattle.herm_syntax.specs.View.{name_view, path_form_view, stmts_view}
use Rattle.herm_parser.specs.Forms.{either, plain_at}

-- Arms of the code as the grammar's.
abbrev pub arm_view : Name × Vec Stmt Global → Letters × Statements
arm_view a = (name_view a.0, stmts_view a.1.items)

abbrev pub port_arm_view : PathForm × PathForm × Vec Stmt Global → Path × (Path × Statements)
port_arm_view a = (path_form_view a.0, (path_form_view a.1, stmts_view a.2.items))

abbrev pub else_view : Option (Vec Stmt Global) → Otherwise
else_view None = NoElse
else_view (Some body) = Else (stmts_view body.items)

-- Statements up to the brace that closes their block.
unfoldable pub body_at : ℕ → Reader Symbol Statements
body_at depth = read_statements depth

unfoldable pub block_at : ℕ → Reader Symbol Statements
block_at depth = in_braces (body_at depth)

unfoldable pub case_arm_at : ℕ → Reader Symbol (Letters × Statements)
case_arm_at depth = read_case_arm (body_at depth)

unfoldable pub handler_at : ℕ → Reader Symbol (Letters × Statements)
handler_at depth = read_handler (body_at depth)

unfoldable pub port_arm_at : ℕ → Reader Symbol (Path × (Path × Statements))
port_arm_at depth = read_port_arm (body_at depth)

unfoldable pub otherwise_at : ℕ → Reader Symbol Otherwise
otherwise_at depth = read_otherwise (body_at depth)

unfoldable pub case_at : ℕ → Reader Symbol Statement
case_at depth = mapped (λ x. Case x.0 x.1) (read_case (body_at depth))

unfoldable pub for_at : ℕ → Reader Symbol Statement
for_at depth = mapped (λ x. For x.0 x.1.0 x.1.1) (read_for (body_at depth))

unfoldable pub select_at : ℕ → Reader Symbol Statement
select_at depth = mapped (λ x. Select x) (read_select (body_at depth))

unfoldable pub if_at : ℕ → Reader Symbol Statement
if_at depth = mapped (λ x. If x.0 x.1.0 x.1.1) (read_if (read_expression depth) (body_at depth))

unfoldable pub while_at : ℕ → Reader Symbol Statement
while_at depth = mapped (λ x. While x.0 x.1) (read_while (read_expression depth) (body_at depth))

unfoldable pub try_at : ℕ → Reader Symbol Statement
try_at depth = mapped (λ x. Try x.0 x.1) (read_try (body_at depth))

unfoldable pub assign_at : ℕ → Reader Symbol Statement
assign_at depth = mapped (λ x. Assign x.0 x.1) (read_assign (read_expression depth))

unfoldable pub compound_at : ℕ → Reader Symbol Statement
compound_at depth = mapped either (choice (is kw_case) (case_at depth) (mapped either (choice (is kw_for) (for_at depth) (mapped either (choice (is kw_select) (select_at depth)
    (mapped either (choice (is kw_if) (if_at depth) (mapped either (choice (is kw_while) (while_at depth) (mapped either (choice (is kw_try) (try_at depth) (assign_at depth))))))))))))

unfoldable pub statement_at : ℕ → Reader Symbol Statement
statement_at depth = mapped either (choice is_plain plain_at (compound_at depth))
