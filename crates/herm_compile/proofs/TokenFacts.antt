-- What is known of the tokens of a file.
use Rattle.std.proofs.Common.{◌≡◌, ℕ, ◌+◌, ◌-◌, ◌≤◌, zero, suc, drop, inl, inr, List, [], ◌∷◌, length, ap, arith}
use Rattle.std.specs.List.{AllByRecursion}
use Rattle.std.proofs.lemmas.List.{length-append, length-take}
use Rattle.herm_lexer.specs.Spelling.{HasTokens}
use Rattle.herm_lexer.specs.Faults.{FaultAt, HasFault, kept}
use Rattle.herm_lexer.specs.laws.TokenLaws.{AreRising}
use Rattle.herm_alphabet.specs.declared.token.Token.{Token}
use Rattle.herm_lexer.specs.declared.fault.LexFault.{LexFault}
use Rattle.herm_lexer.specs.declared.fault.LexFault.TheVariants as lexical
use Rattle.herm_lexer.proofs.Files.{ReadTo-le}
use Rattle.herm_lexer.proofs.FileLaws.{tokens_spell_file}
use Rattle.herm_parser.specs.TokenPlaces.{end_first, start_of, place_of}
use Rattle.herm_compile.specs.declared.phase.FileFault.{FileFault}
use Rattle.herm_compile.specs.declared.phase.FileFault.TheVariants as faults
use Rattle.herm_compile.specs.FirstPhase.{HasFileFault, fault_offset}

-- ---- places

-- the token stands within so many bytes
record StandsWithin (size : ℕ) (token : Token) : Type 0 where
  pub starts : token.span.start ≤ size
  pub ends : token.span.end ≤ size

rising_within : (start : ℕ) (tokens : List Token) (size : ℕ) → AreRising start tokens size → (start ≤ size) × AllByRecursion (StandsWithin size) tokens
rising_within start [] size r = (r, tt)
rising_within start (t ∷ ts) size r =
    let m = rising_within t.span.end ts size r.2 in
    (omega (arith, r.0, r.1, m.0), (record { starts = omega (arith, r.1, m.0); ends = m.0 }, m.1))

tokens_within : (bytes : List ℕ) (tokens : List Token) → HasTokens bytes tokens → AllByRecursion (StandsWithin (length bytes)) tokens
tokens_within bytes tokens h = (rising_within 0 tokens (length bytes) (tokens_spell_file bytes tokens h).1).1

all_drop : {A : Type 0} (P : A → Type 0) (n : ℕ) (xs : List A) → AllByRecursion P xs → AllByRecursion P (drop n xs)
all_drop P zero xs a = a
all_drop P (suc n) [] a = tt
all_drop P (suc n) (x ∷ xs) a = all_drop P n xs a.1

first_end_within : (size : ℕ) (tokens : List Token) → AllByRecursion (StandsWithin size) tokens → end_first tokens ≤ size
first_end_within size [] a = omega arith
first_end_within size (t ∷ tokens) a = a.0.ends

first_start_within : (size : ℕ) (tokens : List Token) → AllByRecursion (StandsWithin size) tokens → start_of tokens ≤ size
first_start_within size [] a = omega arith
first_start_within size (t ∷ tokens) a = a.0.starts

place_within : (size : ℕ) (tokens : List Token) (left : ℕ) → AllByRecursion (StandsWithin size) tokens → place_of tokens left ≤ size
place_within size tokens zero a = first_end_within size (drop (length tokens - 1) tokens) (all_drop (StandsWithin size) (length tokens - 1) tokens a)
place_within size tokens (suc left) a = first_start_within size (drop (length tokens - suc left) tokens) (all_drop (StandsWithin size) (length tokens - suc left) tokens a)

-- ---- faults

-- the place of a fault of bytes
abbrev pub lexical_offset : LexFault → ℕ
lexical_offset (lexical.Byte offset) = offset
lexical_offset (lexical.Token offset) = offset
lexical_offset (lexical.TooLong offset) = offset
lexical_offset lexical.Memory = 0

fault_at : (start : ℕ) (rest : List ℕ) (fault : LexFault) → FaultAt start rest fault → lexical_offset fault ≤ start + length rest
fault_at start rest (lexical.Byte offset) f = omega (arith, f.2, ap length f.1.parts, length-append f.0 (f.1.stray ∷ f.1.after))
fault_at start rest (lexical.Token offset) f = omega (arith, f.0)
fault_at start rest (lexical.TooLong offset) f = omega (arith, f.0)
fault_at start rest lexical.Memory f = absurd f

abbrev pub IsNear : List ℕ → ℕ → Type 0
IsNear bytes offset = (offset ≤ length bytes) × (offset ≤ 1048576)

-- a fault of bytes stands within them, and within what is read of them
lexical_within : (bytes : List ℕ) (fault : LexFault) → HasFault bytes fault → IsNear bytes (lexical_offset fault)
lexical_within bytes fault (inl s) =
    let at : lexical_offset fault ≤ (length (kept bytes) - length s.rest) + length s.rest = fault_at _ s.rest fault s.first in
    let few : length s.rest ≤ length (kept bytes) = ReadTo-le (kept bytes) s.rest s.tokens s.read in
    (omega (arith, at, few, length-take 1048576 bytes), omega (arith, at, few, length-take 1048576 bytes))
lexical_within bytes fault (inr c) = (omega (arith, ap lexical_offset c.place, c.longer), omega (arith, ap lexical_offset c.place))

tree_within : (bytes : List ℕ) (tokens : List Token) (left offset : ℕ) → HasTokens bytes tokens → offset ≡ place_of tokens left → IsNear bytes offset
tree_within bytes tokens left offset h e =
    let near = place_within (length bytes) tokens left (tokens_within bytes tokens h) in
    (omega (arith, near), omega (arith, near, h.short))

-- a fault stands within the bytes, and within what is read of them
pub fault_within : (bytes : List ℕ) (fault : FileFault) → HasFileFault bytes fault → IsNear bytes (fault_offset fault)
fault_within bytes (faults.Byte offset) h = lexical_within bytes (lexical.Byte offset) h
fault_within bytes (faults.Token offset) h = lexical_within bytes (lexical.Token offset) h
fault_within bytes (faults.TooLong offset) h = lexical_within bytes (lexical.TooLong offset) h
fault_within bytes (faults.Syntax offset) h = tree_within bytes h.0 h.2.left offset h.1 h.2.place
fault_within bytes (faults.Nesting offset) h = tree_within bytes h.0 h.2.left offset h.1 h.2.place
