-- The readers of modules: language reference, "Files".
use Rattle.std.specs.Prelude.{ℕ, ◌⊎◌}
use mathlib.Core.Logic.{inl, inr}
use Rattle.herm_readers.specs.Reader.{Reader}
use Rattle.herm_readers.specs.Combinators.{mapped, choice, preceded, many, sequence}
use Rattle.herm_syntax.specs.Symbols.{Symbol, is}
use Rattle.herm_syntax.specs.KeywordSymbols.{kw_definitions, kw_process}
use Rattle.herm_syntax.specs.Trees.{Module}
use Rattle.herm_syntax.specs.ReadExpressions.{read_name, in_parens}
use Rattle.herm_syntax.specs.ReadStatements.{inside, in_braces}
use Rattle.herm_syntax.specs.ReadModules.{module_of, read_field, read_item, read_variables}
use Rattle.herm_parser.specs.Blocks.{body_at}

unfoldable pub definitions_at : Reader Symbol Module
definitions_at = mapped (λ x. module_of (inl x)) (preceded (is kw_definitions) (sequence read_name (in_braces (many inside read_item))))

unfoldable pub process_at : ℕ → Reader Symbol Module
process_at depth = mapped (λ x. module_of (inr x)) (preceded (is kw_process) (sequence read_name (sequence (in_parens read_field) (in_braces (sequence read_variables (body_at depth))))))

-- Either of two readers of modules.
abbrev pub either_module : Module ⊎ Module → Module
either_module (inl m) = m
either_module (inr m) = m

unfoldable pub module_at : ℕ → Reader Symbol Module
module_at depth = mapped either_module (choice (is kw_definitions) definitions_at (process_at depth))
