-- Symbols and trees, with each name, part, number and text that no token of a source file can have replaced by one that
-- a token can have. What is spelled is replaced alike.
use Rattle.std.proofs.Common.{◌≡◌, ◌^◌, ℕ, ℤ, pos, negsuc, Bool, true, false, not, ◌&&◌, List, [], ◌∷◌, ◌++◌, map, length, Option, Some, None, is_some, IsTrue, refl, sym, ap, ap₂, ◌∙◌, arith}
use Rattle.std.proofs.Math.Dec.{ltb}
use Rattle.std.proofs.lemmas.Bool.{and_parts, and_from, ltb-true, lt-ltb}
use Rattle.std.proofs.lemmas.List.{map-append}
use Rattle.std.specs.List.{AllByRecursion}
use Rattle.std.specs.Char.{is_ascii_alphabetic}
use Rattle.herm_readers.specs.Combinators.{many_spelling, separated_spelling}
use Rattle.herm_alphabet.specs.KeywordLetters.{keyword_of, letters}
use Rattle.herm_alphabet.specs.Tokens.{is_name_byte, IsName, is_content, IsSourceKind}
use Rattle.herm_alphabet.specs.declared.keyword.Keyword.{Keyword}
use Rattle.herm_alphabet.specs.declared.sign.Mark.{Mark}
use Rattle.herm_alphabet.proofs.Keywords.{keyword_of-none, keyword_of-some}
use Rattle.herm_syntax.specs.Symbols.{Symbol, Key, Sign, Identifier, Number, Quoted}
use Rattle.herm_syntax.specs.Trees.{Letters}
use Rattle.herm_syntax.specs.Spelling.{part_at, part}
use Rattle.herm_syntax.specs.Fitting.{is_name}
use Rattle.herm_syntax.proofs.Names.{some_name, some_name_fits, part_of_name_at}

abbrev is_made_of : (ℕ → Bool) → List ℕ → Bool
is_made_of test [] = true
is_made_of test (b ∷ bs) = test b && is_made_of test bs

made_of : (test : ℕ → Bool) (bs : List ℕ) → is_made_of test bs ≡ true → AllByRecursion (λ b. IsTrue (test b)) bs
made_of test [] e = tt
made_of test (b ∷ bs) e = let parts = and_parts (test b) (is_made_of test bs) e in (parts.0, made_of test bs parts.1)

of_made : (test : ℕ → Bool) (bs : List ℕ) → AllByRecursion (λ b. IsTrue (test b)) bs → is_made_of test bs ≡ true
of_made test [] each = refl
of_made test (b ∷ bs) each = and_from (test b) (is_made_of test bs) each.0 (of_made test bs each.1)

-- What a name and a text of a source file are, as tests.
abbrev is_name_text : Letters → Bool
is_name_text [] = false
is_name_text (b ∷ bs) = is_ascii_alphabetic b && is_made_of is_name_byte bs

name_text : (text : Letters) → is_name_text text ≡ true → IsName text
name_text [] e = absurd (cc)
name_text (b ∷ bs) e = let parts = and_parts (is_ascii_alphabetic b) (is_made_of is_name_byte bs) e in (parts.0, made_of is_name_byte bs parts.1)

text_name : (text : Letters) → IsName text → is_name_text text ≡ true
text_name [] is = absurd is
text_name (b ∷ bs) is = and_from (is_ascii_alphabetic b) (is_made_of is_name_byte bs) is.0 (of_made is_name_byte bs is.1)

abbrev is_source_name : Letters → Bool
is_source_name text = is_name_text text && (is_name text && ltb (length text) 65)

abbrev is_source_text : Letters → Bool
is_source_text text = is_made_of is_content text && ltb (length text) 4097

-- Where it is none, another one.
abbrev name_by : Bool → Letters → Letters
name_by true text = text
name_by false text = some_name

abbrev number_by : Bool → ℕ → ℤ
number_by true n = pos n
number_by false n = pos 0

abbrev text_by : Bool → Letters → Letters
text_by true text = text
text_by false text = []

abbrev pub mend_name : Letters → Letters
mend_name text = name_by (is_source_name text) text

abbrev pub mend_number : ℤ → ℤ
mend_number (pos n) = number_by (ltb n (2 ^ 63)) n
mend_number (negsuc n) = pos 0

abbrev pub mend_text : Letters → Letters
mend_text text = text_by (is_source_text text) text

abbrev part_by : Option Keyword → Letters → Letters
part_by None text = mend_name text
part_by (Some k) text = text

-- A part that is a keyword stays.
abbrev pub mend_part : Letters → Letters
mend_part text = part_by (keyword_of text) text

abbrev pub mend : Symbol → Symbol
mend (Key k) = Key k
mend (Sign m) = Sign m
mend (Identifier text) = Identifier (mend_name text)
mend (Number n) = Number (mend_number n)
mend (Quoted text) = Quoted (mend_text text)

-- No keyword has the letters of a name.
none_found : (found : Option Keyword) → not (is_some found) ≡ true → found ≡ None
none_found None e = refl
none_found (Some k) e = absurd (cc)

name_by_fits : (text : Letters) (b : Bool) → is_source_name text ≡ b → is_name (name_by b text) ≡ true
name_by_fits text true e = (and_parts (is_name text) (ltb (length text) 65) (and_parts (is_name_text text) (is_name text && ltb (length text) 65) e).1).0
name_by_fits text false e = some_name_fits

pub mend_name_fits : (text : Letters) → is_name (mend_name text) ≡ true
mend_name_fits text = name_by_fits text (is_source_name text) refl

-- What is replaced can be a token of a source file.
name_is_source : (text : Letters) (b : Bool) → is_source_name text ≡ b → IsSourceKind (Identifier (name_by b text))
name_is_source text true e =
    let parts = and_parts (is_name_text text) (is_name text && ltb (length text) 65) e in
    let more = and_parts (is_name text) (ltb (length text) 65) parts.1 in
    let short = ltb-true (length text) 65 more.1 in
    record { written = (name_text text parts.0, λ k. keyword_of-none text k (none_found (keyword_of text) more.0)); within = omega (arith, short) }
name_is_source text false e =
    record { written = ((refl, tt), λ k. keyword_of-none some_name k (none_found (keyword_of some_name) some_name_fits)); within = omega arith }

number_is_source : (n : ℕ) (b : Bool) → ltb n (2 ^ 63) ≡ b → IsSourceKind (Number (number_by b n))
number_is_source n true e = record { written = tt; within = ltb-true n (2 ^ 63) e }
number_is_source n false e = record { written = tt; within = ltb-true 0 (2 ^ 63) refl }

text_is_source : (text : Letters) (b : Bool) → is_source_text text ≡ b → IsSourceKind (Quoted (text_by b text))
text_is_source text true e =
    let parts = and_parts (is_made_of is_content text) (ltb (length text) 4097) e in
    let short = ltb-true (length text) 4097 parts.1 in
    record { written = made_of is_content text parts.0; within = omega (arith, short) }
text_is_source text false e = record { written = tt; within = omega arith }

pub mend_is_source : (x : Symbol) → IsSourceKind (mend x)
mend_is_source (Key k) = record { written = tt; within = tt }
mend_is_source (Sign m) = record { written = tt; within = tt }
mend_is_source (Identifier text) = name_is_source text (is_source_name text) refl
mend_is_source (Number (pos n)) = number_is_source n (ltb n (2 ^ 63)) refl
mend_is_source (Number (negsuc n)) = record { written = tt; within = ltb-true 0 (2 ^ 63) refl }
mend_is_source (Quoted text) = text_is_source text (is_source_text text) refl

pub all_are_source : (symbols : List Symbol) → AllByRecursion IsSourceKind (map mend symbols)
all_are_source [] = tt
all_are_source (x ∷ symbols) = (mend_is_source x, all_are_source symbols)

-- What can be one stays.
is_name_by : (text : Letters) (found : Option Keyword) → keyword_of text ≡ found → ((k : Keyword) → text ≡ letters k → ⊥) → not (is_some found) ≡ true
is_name_by text None e none = refl
is_name_by text (Some k) e none = absurd (none k (keyword_of-some text k e))

source_stays : (x : Symbol) → IsSourceKind x → mend x ≡ x
source_stays (Key k) s = refl
source_stays (Sign m) s = refl
source_stays (Identifier text) s =
    let within = s.within in
    let e : is_source_name text ≡ true =
    and_from (is_name_text text) (is_name text && ltb (length text) 65) (text_name text s.written.0)
    (and_from (is_name text) (ltb (length text) 65) (is_name_by text (keyword_of text) refl s.written.1) (lt-ltb (length text) 65 (omega (arith, within)))) in
    ap (λ b. Identifier (name_by b text)) e
source_stays (Number (pos n)) s = ap (λ b. Number (number_by b n)) (lt-ltb n (2 ^ 63) s.within)
source_stays (Number (negsuc n)) s = absurd s.within
source_stays (Quoted text) s =
    let within = s.within in
    let e : is_source_text text ≡ true = and_from (is_made_of is_content text) (ltb (length text) 4097) (of_made is_content text s.written) (lt-ltb (length text) 4097 (omega (arith, within))) in
    ap (λ b. Quoted (text_by b text)) e

pub sources_stay : (symbols : List Symbol) → AllByRecursion IsSourceKind symbols → map mend symbols ≡ symbols
sources_stay [] each = refl
sources_stay (x ∷ symbols) each = ap₂ (λ y ys. y ∷ ys) (source_stays x each.0) (sources_stay symbols each.1)

-- The symbol of a part.
part_mended_at : (text : Letters) (found : Option Keyword) → keyword_of text ≡ found → part (part_by found text) ≡ mend (part_at found text)
part_mended_at text None e = part_of_name_at (mend_name text) (keyword_of (mend_name text)) (mend_name_fits text)
part_mended_at text (Some k) e = ap (λ found. part_at found text) e

pub part_mended : (text : Letters) → part (mend_part text) ≡ mend (part text)
part_mended text = part_mended_at text (keyword_of text) refl

-- Spellings one behind the other, and lists.
pub joined : {a b : List Symbol} → (c d : List Symbol) → a ≡ map mend c → b ≡ map mend d → a ++ b ≡ map mend (c ++ d)
joined c d first second = ap₂ (λ x y. x ++ y) first second ∙ sym (map-append mend c d)

pub many_mended : {A : Type 0} → (change : A → A) (spell : A → List Symbol) → ((a : A) → spell (change a) ≡ map mend (spell a)) → (list : List A) → many_spelling spell (map change list) ≡ map mend (many_spelling spell list)
many_mended change spell each [] = refl
many_mended change spell each (a ∷ list) = joined _ _ (each a) (many_mended change spell each list)

pub separated_mended : {A : Type 0} → (m : Mark) (change : A → A) (spell : A → List Symbol) → ((a : A) → spell (change a) ≡ map mend (spell a)) → (list : List A) →
    separated_spelling (Sign m) spell (map change list) ≡ map mend (separated_spelling (Sign m) spell list)
separated_mended m change spell each [] = refl
separated_mended m change spell each (a ∷ list) = joined _ _ (each a) (many_mended change (λ b. Sign m ∷ spell b) (λ b. ap (Sign m ∷◌) (each b)) list)
