-- The tokens of a file are ones that a source file can have.
use Rattle.std.proofs.Common.{ℕ, ◌+◌, List, [], ◌∷◌, map, length, sym, subst}
use Rattle.std.specs.List.{AllByRecursion}
use Rattle.herm_alphabet.specs.Tokens.{IsWithinLimit, IsSourceKind}
use Rattle.herm_alphabet.specs.declared.token.Token.{Token}
use Rattle.herm_alphabet.specs.declared.token.TokenKind.{TokenKind}
use Rattle.herm_alphabet.specs.declared.token.TokenKind.TheVariants.{Key, Ident, Int, Text, Sign}
use Rattle.herm_lexer.specs.Spelling.{Spells, SpellsPiece, IsPieceWithinLimit, Part, AreParts, tokens_of}
use Rattle.herm_lexer.specs.laws.TokenLaws.{TokensAreSource}
use Rattle.herm_lexer.specs.declared.piece.Piece.{Piece}
use Rattle.herm_lexer.specs.declared.piece.Piece.TheVariants.{Blank, Comment, Token as Lexeme}

kind_is_source : (kind : TokenKind) (text : List ℕ) → Spells kind text → IsWithinLimit kind → IsSourceKind kind
kind_is_source (Key keyword) text s w = record { written = tt; within = w }
kind_is_source (Ident name) text s w = record { written = (s.1, s.2); within = w }
kind_is_source (Int n) text s w = record { written = tt; within = w }
kind_is_source (Text content) text s w = record { written = s.1; within = w }
kind_is_source (Sign mark) text s w = record { written = tt; within = w }

abbrev kinds_of : List Token → List TokenKind
kinds_of tokens = map (λ (t : Token). t.kind) tokens

-- Those of a part, and then those of the others.
parts_are_source : (parts : List Part) (rest : List ℕ) (start : ℕ) → AreParts parts rest → AllByRecursion IsSourceKind (kinds_of (tokens_of start parts))
parts_are_source [] rest start each = tt
parts_are_source (part ∷ parts) rest start each =
    one part.piece each.0.spelled each.0.within (parts_are_source parts rest (start + length part.text) each.1)
  where
    one : (piece : Piece) → SpellsPiece piece part.text → IsPieceWithinLimit piece → AllByRecursion IsSourceKind (kinds_of (tokens_of (start + length part.text) parts))
        → AllByRecursion IsSourceKind (kinds_of (tokens_of start (record { piece = piece; text = part.text } ∷ parts)))
    one Blank s w others = others
    one Comment s w others = others
    one (Lexeme kind) s w others = (kind_is_source kind part.text s w, others)

pub tokens_are_source : TokensAreSource
tokens_are_source bytes tokens has =
    subst (λ tokens. AllByRecursion IsSourceKind (kinds_of tokens)) (sym has.read.listed) (parts_are_source has.read.parts [] 0 has.read.each)
