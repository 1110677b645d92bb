-- Keywords and other names.
use Rattle.std.proofs.Common.{◌≡◌, ◌≢◌, ℕ, suc, ◌<◌, ◌≤◌, Bool, true, false, ◌&&◌, nat_lt, List, [], ◌∷◌, ◌++◌, length, take, Option, Some, None, Ok, Err, refl, sym, ap, subst, ◌∙◌, arith}
use Rattle.std.specs.Prelude.{IsTrue}
use Rattle.std.specs.List.{list_all, AllByRecursion}
use Rattle.std.specs.Char.{is_ascii_alphabetic}
use Rattle.std.proofs.lemmas.Bool.{le-ltb, lt-ltb, ltb-false, ltb-true}
use Rattle.std.proofs.lemmas.List.{take_at}
use Rattle.herm_lexer.specs.Bytes.{is_name_byte}
use Rattle.herm_alphabet.specs.KeywordLetters.{letters}
use Rattle.herm_alphabet.proofs.Keywords.{keyword_of-letters, keyword_of-some, keyword_of-none}
use Rattle.herm_lexer.specs.Runs.{Goes, Stops, run_length}
use Rattle.herm_lexer.specs.Spelling.{IsName, Spells, IsWithinLimit}
use Rattle.herm_alphabet.specs.KeywordLetters.{keyword_of}
use Rattle.herm_lexer.specs.Reading.{kind_of, name_of, name_at, piece_at}
use Rattle.herm_lexer.specs.declared.run.Run.TheVariants.{Name}
use Rattle.herm_alphabet.specs.declared.keyword.Keyword.{Keyword}
use Rattle.herm_alphabet.specs.declared.keyword.Keyword.TheVariants.{KwAnd}
use Rattle.herm_lexer.specs.Spelling.{Ends, piece_goes_on}
use Rattle.herm_lexer.specs.declared.piece.Piece.{Piece}
use Rattle.herm_lexer.specs.declared.piece.Piece.TheVariants.{Token as Lexeme}
use Rattle.herm_lexer.specs.declared.piece.Stop.TheVariants as stops
use Rattle.herm_alphabet.specs.declared.token.TokenKind.TheVariants.{Key, Ident}
use Rattle.herm_lexer.proofs.Explained.{Explains}
use Rattle.herm_lexer.proofs.ByteFacts.{letter_no_blank, letter_name_byte}
use Rattle.herm_lexer.proofs.Choices.{by_test, and_true}
use Rattle.herm_lexer.proofs.RunFacts.{IsPlain, Goes-from_all, run_length-of}

-- ---- keywords

-- whether a text is a name
abbrev is_name : List ℕ → Bool
is_name [] = false
is_name (b ∷ bs) = is_ascii_alphabetic b && list_all is_name_byte bs

all_tested : (bs : List ℕ) → list_all is_name_byte bs ≡ true → AllByRecursion (λ b. IsTrue (is_name_byte b)) bs
all_tested [] h = tt
all_tested (b ∷ bs) h = let p = and_true (is_name_byte b) (list_all is_name_byte bs) h in (p.0, all_tested bs p.1)

name_tested : (text : List ℕ) → is_name text ≡ true → IsName text
name_tested [] h = absurd cc
name_tested (b ∷ bs) h = let p = and_true (is_ascii_alphabetic b) (list_all is_name_byte bs) h in (p.0, all_tested bs p.1)

letters_tested : (k : Keyword) → is_name (letters k) ≡ true
letters_tested KwAnd = refl
letters_tested _ = refl

pub letters_IsName : (k : Keyword) → IsName (letters k)
letters_IsName k = name_tested (letters k) (letters_tested k)

letters_len : (k : Keyword) → nat_lt 64 (length (letters k)) ≡ false
letters_len KwAnd = refl
letters_len _ = refl

pub length-letters-le : (k : Keyword) → length (letters k) ≤ 64
length-letters-le k = ltb-false _ _ (letters_len k)

-- ---- names

pub plain_name : IsPlain Name is_name_byte
plain_name = record { tests = λ e b. refl; never = λ e b. refl }

name_bytes : (text : List ℕ) → IsName text → AllByRecursion (λ b. IsTrue (is_name_byte b)) text
name_bytes [] h = absurd h
name_bytes (b ∷ bs) h = (letter_name_byte b h.0, h.1)

pub name_Goes : (text : List ℕ) → IsName text → Goes Name false text false
name_Goes text h = Goes-from_all Name is_name_byte plain_name text (name_bytes text h)

-- a name is spelled as a keyword or as itself
kind_spells : (text : List ℕ) (found : Option Keyword) → keyword_of text ≡ found → IsName text → Spells (kind_of found text) text
kind_spells text (Some k) e h = keyword_of-some text k e
kind_spells text None e h = (refl, h, λ k. keyword_of-none text k e)

pub name_Spells : (text : List ℕ) → IsName text → Spells (kind_of (keyword_of text) text) text
name_Spells text h = kind_spells text (keyword_of text) refl h

-- a name is read up to where it ends
pub piece_at-name : (text rest : List ℕ) → IsName text → Stops Name false rest → piece_at (text ++ rest) ≡ name_of (length text) text
unfolding piece_at name_at
piece_at-name [] rest h stops = absurd h
piece_at-name (b ∷ bs) rest h stops =
    let len : run_length Name false (b ∷ (bs ++ rest)) ≡ suc (length bs) = run_length-of Name false (b ∷ bs) rest false (name_Goes (b ∷ bs) h) stops in
    let front : take (suc (length bs)) (b ∷ (bs ++ rest)) ≡ b ∷ bs = take_at (b ∷ bs) rest (suc (length bs)) refl in
    rw (letter_no_blank b h.0, h.0, len, front) refl

-- ---- what the reading of a name says

ends_name : (found : Option Keyword) (text rest : List ℕ) → Stops Name false rest → Ends (Lexeme (kind_of found text)) rest
ends_name (Some k) text [] h = tt
ends_name (Some k) text (b ∷ bs) h = h
ends_name None text [] h = tt
ends_name None text (b ∷ bs) h = h

within_name : (found : Option Keyword) (text : List ℕ) → length text ≤ 64 → IsWithinLimit (kind_of found text)
within_name (Some k) text h = tt
within_name None text h = h

beyond_name : (found : Option Keyword) (text : List ℕ) → keyword_of text ≡ found → 64 < length text → IsWithinLimit (kind_of found text) → ⊥
beyond_name (Some k) text e h w = omega (arith, ap length (keyword_of-some text k e), length-letters-le k)
beyond_name None text e h w = omega arith

pub name_some : (text : List ℕ) → IsName text → 0 < length text
name_some [] h = absurd h
name_some (b ∷ bs) h = omega arith

pub name_explained : (text rest : List ℕ) → IsName text → Stops Name false rest → Explains (text ++ rest) (name_of (length text) text)
name_explained text rest h end =
    by_test (Explains (text ++ rest)) (nat_lt 64 (length text)) (Err stops.TooLong) (Ok (Lexeme (kind_of (keyword_of text) text), length text))
    (λ long. let far : 64 < length text = ltb-true _ _ long in record {
      kind = kind_of (keyword_of text) text;
      text = text;
      after = rest;
      parts = refl;
      spelled = name_Spells text h;
      ended = ends_name (keyword_of text) text rest end;
      beyond = beyond_name (keyword_of text) text refl far;
    })
    (λ short. record {
      text = text;
      rest = rest;
      whole = refl;
      len = refl;
      some = name_some text h;
      part = record {
        spelled = name_Spells text h;
        within = within_name (keyword_of text) text (ltb-false _ _ short);
        ended = ends_name (keyword_of text) text rest end;
      };
    })

-- ---- a name that is spelled is read

pub stops_name : (piece : Piece) (rest : List ℕ) → ((b : ℕ) → piece_goes_on piece b ≡ is_name_byte b) → Ends piece rest → Stops Name false rest
stops_name piece [] same h = tt
stops_name piece (b ∷ bs) same h = sym (same b) ∙ h

name_of-short : (found : Option Keyword) (text : List ℕ) → keyword_of text ≡ found → length text ≤ 64 → name_of (length text) text ≡ Ok (Lexeme (kind_of found text), length text)
name_of-short found text e h = rw (le-ltb 64 (length text) h, e) refl

name_of-long : (text : List ℕ) → 64 < length text → name_of (length text) text ≡ Err stops.TooLong
name_of-long text h = rw (lt-ltb 64 (length text) h) refl

-- what is no keyword is none
unkept : (name : List ℕ) (found : Option Keyword) → keyword_of name ≡ found → ((k : Keyword) → name ≢ letters k) → keyword_of name ≡ None
unkept name (Some k) e h = absurd (h k (keyword_of-some name k e))
unkept name None e h = e

pub key_again : (k : Keyword) (text rest : List ℕ) → Spells (Key k) text → Ends (Lexeme (Key k)) rest → piece_at (text ++ rest) ≡ Ok (Lexeme (Key k), length text)
key_again k text rest spelled ended =
    let name : IsName text = subst IsName (sym spelled) (letters_IsName k) in
    let found : keyword_of text ≡ Some k = ap keyword_of spelled ∙ keyword_of-letters k in
    let short : length text ≤ 64 = omega (arith, ap length spelled, length-letters-le k) in
    piece_at-name text rest name (stops_name (Lexeme (Key k)) rest (λ b. refl) ended) ∙ name_of-short (Some k) text found short

ident_at : (name text rest : List ℕ) → Spells (Ident name) text → Ends (Lexeme (Ident name)) rest → piece_at (text ++ rest) ≡ name_of (length text) text
ident_at name text rest spelled ended =
    piece_at-name text rest (subst IsName (sym spelled.0) spelled.1) (stops_name (Lexeme (Ident name)) rest (λ b. refl) ended)

pub ident_again : (name text rest : List ℕ) → Spells (Ident name) text → length name ≤ 64 → Ends (Lexeme (Ident name)) rest → piece_at (text ++ rest) ≡ Ok (Lexeme (Ident name), length text)
ident_again name text rest spelled short ended =
    let none : keyword_of text ≡ None = ap keyword_of spelled.0 ∙ unkept name (keyword_of name) refl spelled.2 in
    let read = name_of-short None text none (omega (arith, ap length spelled.0)) in
    ident_at name text rest spelled ended ∙ read ∙ ap (λ (t : List ℕ). Ok (Lexeme (Ident t), length text)) spelled.0

pub ident_too_long : (name text rest : List ℕ) → Spells (Ident name) text → (length name ≤ 64 → ⊥) → Ends (Lexeme (Ident name)) rest → piece_at (text ++ rest) ≡ Err stops.TooLong
ident_too_long name text rest spelled beyond ended =
    let long : 64 < length text = omega (arith, ap length spelled.0) in
    ident_at name text rest spelled ended ∙ name_of-long text long
