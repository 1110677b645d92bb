use Rattle.std.proofs.Common.{◌≡◌, ◌+◌, ◌≤◌, length}
use Rattle.herm_readers.specs.BracketBalance.{too_deep}
use Rattle.herm_syntax.specs.Symbols.{side}
use Rattle.herm_parser.specs.Gives.{kinds}
use Rattle.herm_parser.specs.BracketDepth.{most_brackets}
use Rattle.herm_parser.proofs.brackets.too_deep.Given as goal

abbrev pub invariant-tokens : goal.invariant-tokens
invariant-tokens l = (too_deep side (kinds l.rest) l.room ≡ too_deep side (kinds l.fn.tokens) most_brackets) × (l.room + length l.rest ≤ 64 + length l.fn.tokens)

abbrev pub decreases-tokens : goal.decreases-tokens
decreases-tokens l = length l.rest
