-- What the parser answers for the tokens of a source file.
use Rattle.std.specs.Prelude.{◌≡◌, List, [], Some, map}
use Rattle.herm_alphabet.specs.declared.token.Token.{Token}
use Rattle.herm_syntax.specs.declared.modules.Module.{Module}
use Rattle.herm_syntax.specs.Spelling.{file}
use Rattle.herm_syntax.specs.View.{module_view}
use Rattle.herm_syntax.specs.laws.GrammarLaws.{IsWithinRoom, IsProgram}
use Rattle.herm_parser.specs.Along.{past_each}
use Rattle.herm_parser.specs.AlongDefinitions.{past_module}
use Rattle.herm_parser.specs.Gives.{kinds}
use Rattle.herm_parser.specs.BracketDepth.{most_brackets}

-- The modules are a program with these tokens: they spell the tokens' kinds, no bracket is open too many, each name stands at
-- its token's place, and each statement has the next number of its process, begins at its first token and ends at its last.
-- Any two have the same trees and numbers (`HasOneParse`; Language reference, "One tree").
pub record IsParsed (tokens : List Token) (modules : List Module) : Type 0 where
  pub within : IsWithinRoom most_brackets (kinds tokens)
  pub program : IsProgram modules
  pub spelled : kinds tokens ≡ file (map module_view modules)
  pub along : past_each past_module modules tokens ≡ Some []
