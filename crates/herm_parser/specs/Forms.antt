-- The readers of statements without statements in them, form by form: language reference, "Statements".
use Rattle.std.specs.Prelude.{◌⊎◌}
use mathlib.Core.Logic.{inl, inr}
use Rattle.herm_readers.specs.Reader.{Reader}
use Rattle.herm_readers.specs.Combinators.{mapped, choice}
use Rattle.herm_syntax.specs.Symbols.{Symbol, is}
use Rattle.herm_syntax.specs.KeywordSymbols.{kw_unwrap, kw_call, kw_return, kw_create, kw_raise}
use Rattle.herm_syntax.specs.Trees.{Statement, Unwrap, Call, Create, Raise, Leave}
use Rattle.herm_syntax.specs.Words.{two_paths, one_path, keyed, is_transfer, is_touch, is_find}
use Rattle.herm_syntax.specs.ReadStatements.{read_two_paths, read_one_path, read_keyed, read_unwrap, read_call, read_return, read_create, read_raise, read_leave, return_of}

unfoldable pub transfer_at : Reader Symbol Statement
transfer_at = mapped (λ x. two_paths x.0 x.1.0 x.1.1) read_two_paths

unfoldable pub touch_at : Reader Symbol Statement
touch_at = mapped (λ x. one_path x.0 x.1) read_one_path

unfoldable pub find_at : Reader Symbol Statement
find_at = mapped (λ x. keyed x.0 x.1.0 x.1.1.0 x.1.1.1.0) read_keyed

unfoldable pub unwrap_at : Reader Symbol Statement
unwrap_at = mapped (λ x. Unwrap x.0 x.1.0 x.1.1) read_unwrap

unfoldable pub call_at : Reader Symbol Statement
call_at = mapped (λ x. Call x.0 x.1.0) read_call

unfoldable pub return_at : Reader Symbol Statement
return_at = mapped (λ x. return_of x.0 x.1) read_return

unfoldable pub create_at : Reader Symbol Statement
create_at = mapped (λ x. Create x.0 x.1) read_create

unfoldable pub raise_at : Reader Symbol Statement
raise_at = mapped (λ name. Raise name) read_raise

unfoldable pub leave_at : Reader Symbol Statement
leave_at = mapped (λ none. Leave) read_leave

-- Either of two readers of statements.
abbrev pub either : Statement ⊎ Statement → Statement
either (inl s) = s
either (inr s) = s

unfoldable pub other_at : Reader Symbol Statement
other_at = mapped either (choice (is kw_unwrap) unwrap_at (mapped either (choice (is kw_call) call_at (mapped either (choice (is kw_return) return_at
    (mapped either (choice (is kw_create) create_at (mapped either (choice (is kw_raise) raise_at leave_at)))))))))

unfoldable pub plain_at : Reader Symbol Statement
plain_at = mapped either (choice is_transfer transfer_at (mapped either (choice is_touch touch_at (mapped either (choice is_find find_at other_at)))))
