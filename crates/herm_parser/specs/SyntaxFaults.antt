-- The faults of tokens that have no trees, and their places. Language reference, "The place of a syntax fault".
use Rattle.std.specs.Prelude.{◌≡◌, ◌≢◌, ℕ, suc, List, ◌∷◌, ◌++◌, length}
use Rattle.std.specs.List.{AllByRecursion}
use Rattle.herm_alphabet.specs.Tokens.{IsSourceKind}
use Rattle.herm_alphabet.specs.declared.token.Token.{Token}
use Rattle.herm_syntax.specs.Symbols.{Symbol}
use Rattle.herm_syntax.specs.Trees as trees
use Rattle.herm_syntax.specs.Spelling.{file}
use Rattle.herm_syntax.specs.Fitting.{IsFile}
use Rattle.herm_syntax.specs.laws.GrammarLaws.{IsWithinRoom, BeginsFile, BeginsSource}
use Rattle.herm_parser.specs.Gives.{kinds}
use Rattle.herm_parser.specs.declared.fault.ParseFault.{ParseFault}
use Rattle.herm_parser.specs.declared.fault.ParseFault.TheVariants as faults
use Rattle.herm_parser.specs.BracketDepth.{most_brackets, IsNested}
use Rattle.herm_parser.specs.TokenPlaces.{place_of}

-- No modules have these tokens. The tokens before the fault begin a list of modules, one that a source file can have where the
-- tokens are ones that it can have, and those up to the fault, with it, begin none; or the fault stands behind the last token
-- (Language reference, "The place of a syntax fault").
pub record IsMisspelled (tokens : List Token) (offset : ℕ) : Type 0 where
  pub within : IsWithinRoom most_brackets (kinds tokens)
  pub left : ℕ
  pub begins : BeginsFile (kinds tokens) left
  pub begins_source : AllByRecursion IsSourceKind (kinds tokens) → BeginsSource (kinds tokens) left
  pub none : (modules : List trees.Module) → IsFile modules → file modules ≢ kinds tokens
  pub first : (front : List Symbol) (x : Symbol) (behind : List Symbol) → kinds tokens ≡ front ++ x ∷ behind → left ≡ suc (length behind) →
      (modules : List trees.Module) (more : List Symbol) → IsFile modules → file modules ≢ front ++ x ∷ more
  pub place : offset ≡ place_of tokens left

-- Want of memory says nothing of the tokens.
abbrev pub IsFault : List Token → ParseFault → Type 0
IsFault tokens (faults.Nesting offset) = IsNested tokens offset
IsFault tokens (faults.Syntax offset) = IsMisspelled tokens offset
IsFault tokens faults.Memory = Unit {0}
