-- The laws of the parser's answers: each list of tokens has one, but for want of memory.
use Rattle.std.specs.Prelude.{◌≡◌, ◌≢◌, List, map}
use Rattle.herm_alphabet.specs.declared.token.Token.{Token}
use Rattle.herm_syntax.specs.declared.modules.Module.{Module}
use Rattle.herm_syntax.specs.View.{module_view}
use Rattle.herm_syntax.specs.StatementNumbers.{module_numbers}
use Rattle.herm_parser.specs.Parsing.{IsParsed}
use Rattle.herm_parser.specs.SyntaxFaults.{IsFault}
use Rattle.herm_parser.specs.declared.fault.ParseFault.{ParseFault}
use Rattle.herm_parser.specs.declared.fault.ParseFault.TheVariants.{Memory}

-- Modules with the same tokens are one program, with the same numbers (Language reference, "One tree").
abbrev pub HasOneParse : Type 0
HasOneParse = (tokens : List Token) (a b : List Module) → IsParsed tokens a → IsParsed tokens b → (map module_view a ≡ map module_view b) × (map module_numbers a ≡ map module_numbers b)

-- Tokens that modules have are refused for want of memory alone.
abbrev pub ParsedHasNoFault : Type 0
ParsedHasNoFault = (tokens : List Token) (modules : List Module) (fault : ParseFault) → IsParsed tokens modules → IsFault tokens fault → fault ≡ Memory

-- Other tokens have one fault, at one place: a bracket that is open too many comes first (Language reference,
-- "The place of a syntax fault" and "Open brackets").
abbrev pub HasOneFault : Type 0
HasOneFault = (tokens : List Token) (a b : ParseFault) → a ≢ Memory → b ≢ Memory → IsFault tokens a → IsFault tokens b → a ≡ b
