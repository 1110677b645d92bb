-- Each piece is the longest that stands there.
use Rattle.std.proofs.Common.{◌≡◌, ℕ, ◌+◌, ◌<◌, ◌≤◌, Bool, true, false, cond, ◌&&◌, nat_eq, List, [], ◌∷◌, ◌++◌, length, get_or, drop, refl, sym, ap, subst, ◌∙◌, append_assoc, arith}
use Rattle.std.specs.Prelude.{IsTrue, is_some, pos, negsuc}
use Rattle.std.specs.List.{AllByRecursion, flat_map}
use Rattle.std.specs.Char.{is_ascii_alphabetic, is_ascii_digit}
use Rattle.std.proofs.lemmas.List.{length-append}
use Rattle.herm_lexer.specs.Bytes.{is_blank, is_line_byte, is_name_byte}
use Rattle.herm_alphabet.specs.KeywordLetters.{characters}
use Rattle.herm_lexer.specs.Runs.{Goes, Stops, run_length}
use Rattle.herm_model.specs.Escapes.{escaped}
use Rattle.herm_lexer.specs.Spelling.{IsName, Spells, SpellsPiece, Ends, is_content, piece_goes_on, sign_goes_on}
use Rattle.herm_alphabet.specs.KeywordLetters.{keyword_of}
use Rattle.herm_lexer.specs.Reading.{double_sign, kind_of}
use Rattle.herm_lexer.specs.laws.TokenLaws.{IsLongest, IsApart, PiecesAreLongest}
use Rattle.herm_lexer.specs.declared.run.Run.TheVariants.{Name, Digits, Line, Inside}
use Rattle.herm_lexer.specs.declared.piece.Piece.{Piece}
use Rattle.herm_lexer.specs.declared.piece.Piece.TheVariants.{Blank, Comment, Token as Lexeme}
use Rattle.herm_alphabet.specs.declared.token.TokenKind.{TokenKind}
use Rattle.herm_alphabet.specs.declared.token.TokenKind.TheVariants.{Key, Ident, Int, Text, Sign}
use Rattle.herm_alphabet.specs.declared.sign.Mark.{Mark}
use Rattle.herm_alphabet.specs.declared.sign.Mark.TheVariants.{Colon, Becomes, NotEqual, Less, LessEqual, Greater, GreaterEqual, Minus}
use Rattle.herm_lexer.proofs.ByteFacts.{letter_no_blank, digit_no_blank, digit_no_letter}
use Rattle.herm_lexer.proofs.Choices.{by_test, not_both, or_false, is_n}
use Rattle.herm_lexer.proofs.RunFacts.{Goes-from_all, run_length-of, run_length-le}
use Rattle.herm_lexer.proofs.Names.{letters_IsName, name_Goes, name_Spells, stops_name}
use Rattle.herm_lexer.proofs.Integers.{AreDigits, digits_to, digits_Goes, ended_rest, stops_digits}
use Rattle.herm_lexer.proofs.Strings.{content_Goes, quoted, quoted_front, quoted_len}
use Rattle.herm_lexer.proofs.Pieces.{plain_line}
use Rattle.herm_lexer.proofs.Again.{stops_line}

-- ---- how far a piece may go, by its first bytes

abbrev sign_reach : ℕ → ℕ → ℕ
sign_reach b next = cond (is_some (double_sign b next)) 2 1

abbrev reach_from : ℕ → List ℕ → ℕ
reach_from b bs =
    cond (is_blank b) 1
    (cond (is_ascii_alphabetic b) (run_length Name false (b ∷ bs))
    (cond (is_ascii_digit b) (run_length Digits false (b ∷ bs))
    (cond (nat_eq b 34) (run_length Inside false bs + 2)
    (cond (nat_eq b 45 && nat_eq (get_or bs 0 0) 45) (run_length Line false (drop 1 bs) + 2) (sign_reach b (get_or bs 0 0))))))

unfoldable reach : List ℕ → ℕ
reach [] = 0
reach (b ∷ bs) = reach_from b bs

-- names
reach-name : (text rest : List ℕ) → IsName text → Stops Name false rest → reach (text ++ rest) ≡ length text
unfolding reach
reach-name [] rest h end = absurd h
reach-name (b ∷ bs) rest h end = rw (letter_no_blank b h.0, h.0) (run_length-of Name false (b ∷ bs) rest false (name_Goes (b ∷ bs) h) end)

name-reach : (text more : List ℕ) → IsName text → length text ≤ reach (text ++ more)
unfolding reach
name-reach [] more h = absurd h
name-reach (b ∷ bs) more h = rw (letter_no_blank b h.0, h.0) (run_length-le Name false (b ∷ bs) more false (name_Goes (b ∷ bs) h))

-- digits
on_true : (t : Bool) (x y : ℕ) → t ≡ true → cond t x y ≡ x
on_true t x y h = rw h refl

digits_reach : (b : ℕ) (bs : List ℕ) → is_ascii_digit b ≡ true → reach (b ∷ bs) ≡ run_length Digits false (b ∷ bs)
unfolding reach
digits_reach b bs h = rw (digit_no_blank b h, digit_no_letter b h) (on_true (is_ascii_digit b) (run_length Digits false (b ∷ bs)) _ h)

reach-digits : (text rest : List ℕ) → AreDigits text → 0 < length text → Stops Digits false rest → reach (text ++ rest) ≡ length text
reach-digits [] rest all some end = absurd (omega arith)
reach-digits (b ∷ bs) rest all some end = digits_reach b (bs ++ rest) all.0 ∙ run_length-of Digits false (b ∷ bs) rest false (digits_Goes (b ∷ bs) all) end

digits-reach : (text more : List ℕ) → AreDigits text → 0 < length text → length text ≤ reach (text ++ more)
digits-reach [] more all some = absurd (omega arith)
digits-reach (b ∷ bs) more all some = omega (arith, digits_reach b (bs ++ more) all.0, run_length-le Digits false (b ∷ bs) more false (digits_Goes (b ∷ bs) all))

-- strings
reach-quoted : (content rest : List ℕ) → AllByRecursion (λ b. IsTrue (is_content b)) content → reach (quoted (flat_map escaped content) ++ rest) ≡ length (quoted (flat_map escaped content))
unfolding reach
reach-quoted content rest all =
    let inside : List ℕ = flat_map escaped content in
    let len : run_length Inside false (inside ++ 34 ∷ rest) ≡ length inside = run_length-of Inside false inside (34 ∷ rest) false (content_Goes content all) refl in
    ap reach (sym (quoted_front inside rest)) ∙ ap (λ (n : ℕ). n + 2) len ∙ sym (quoted_len inside)

-- signs
sign_reach-some : (b next : ℕ) → 1 ≤ sign_reach b next
sign_reach-some b next = by_test (λ (n : ℕ). 1 ≤ n) (is_some (double_sign b next)) 2 1 (λ _. omega arith) (λ _. omega arith)

minus_reach : (more : List ℕ) → 1 ≤ reach (45 ∷ more)
unfolding reach
minus_reach more =
    by_test (λ (n : ℕ). 1 ≤ n) (nat_eq (get_or more 0 0) 45) (run_length Line false (drop 1 more) + 2) (sign_reach 45 (get_or more 0 0))
    (λ _. omega arith) (λ _. sign_reach-some 45 (get_or more 0 0))

sign-reach : (mark : Mark) (more : List ℕ) → length (characters mark) ≤ reach (characters mark ++ more)
unfolding reach
sign-reach Colon more = sign_reach-some 58 (get_or more 0 0)
sign-reach Less more = sign_reach-some 60 (get_or more 0 0)
sign-reach Greater more = sign_reach-some 62 (get_or more 0 0)
sign-reach Minus more = minus_reach more
sign-reach _ more = omega arith

reach-sign : (mark : Mark) (rest : List ℕ) → Ends (Lexeme (Sign mark)) rest → reach (characters mark ++ rest) ≡ length (characters mark)
unfolding reach
reach-sign Colon [] h = refl
reach-sign Colon (x ∷ xs) h = rw h refl
reach-sign Less [] h = refl
reach-sign Less (x ∷ xs) h = let p = or_false (nat_eq x 61) (nat_eq x 62) h in rw (p.0, p.1) refl
reach-sign Greater [] h = refl
reach-sign Greater (x ∷ xs) h = rw h refl
reach-sign Minus [] h = refl
reach-sign Minus (x ∷ xs) h = rw h refl
reach-sign _ rest h = refl

-- ---- pieces

reach-blank : (b : ℕ) (rest : List ℕ) → is_blank b ≡ true → reach (b ∷ rest) ≡ 1
unfolding reach
reach-blank b rest h = rw h refl

reach-dashes : (bs : List ℕ) → reach (45 ∷ 45 ∷ bs) ≡ run_length Line false bs + 2
unfolding reach
reach-dashes bs = refl

kind-reach : (kind : TokenKind) (text more : List ℕ) → Spells kind text → length text ≤ reach (text ++ more)
kind-reach (Key k) text more h = name-reach text more (subst IsName (sym h) (letters_IsName k))
kind-reach (Ident name) text more h = name-reach text more (subst IsName (sym h.0) h.1)
kind-reach (Int (pos n)) text more h = digits-reach text more (digits_to text h.digits.1) h.digits.0
kind-reach (Int (negsuc n)) text more h = absurd h
kind-reach (Text content) text more h =
    subst (λ (t : List ℕ). length t ≤ reach (t ++ more)) (sym h.0) (omega (arith, reach-quoted content more h.1))
kind-reach (Sign mark) text more h = subst (λ (t : List ℕ). length t ≤ reach (t ++ more)) (sym h) (sign-reach mark more)

piece-reach : (piece : Piece) (text more : List ℕ) → SpellsPiece piece text → length text ≤ reach (text ++ more)
piece-reach Blank text more h =
    subst (λ (t : List ℕ). length t ≤ reach (t ++ more)) (sym h.1) (omega (arith, reach-blank h.0 more h.2))
piece-reach Comment text more h =
    let goes : Goes Line false h.0 false = Goes-from_all Line is_line_byte plain_line h.0 h.2 in
    subst (λ (t : List ℕ). length t ≤ reach (t ++ more)) (sym h.1) (omega (arith, reach-dashes (h.0 ++ more), run_length-le Line false h.0 more false goes))
piece-reach (Lexeme kind) text more h = kind-reach kind text more h

reach-kind : (kind : TokenKind) (text rest : List ℕ) → Spells kind text → Ends (Lexeme kind) rest → reach (text ++ rest) ≡ length text
reach-kind (Key k) text rest h end = reach-name text rest (subst IsName (sym h) (letters_IsName k)) (stops_name (Lexeme (Key k)) rest (λ b. refl) end)
reach-kind (Ident name) text rest h end = reach-name text rest (subst IsName (sym h.0) h.1) (stops_name (Lexeme (Ident name)) rest (λ b. refl) end)
reach-kind (Int (pos n)) text rest h end = reach-digits text rest (digits_to text h.digits.1) h.digits.0 (stops_digits rest (ended_rest (pos n) rest end))
reach-kind (Int (negsuc n)) text rest h end = absurd h
reach-kind (Text content) text rest h end = subst (λ (t : List ℕ). reach (t ++ rest) ≡ length t) (sym h.0) (reach-quoted content rest h.1)
reach-kind (Sign mark) text rest h end = subst (λ (t : List ℕ). reach (t ++ rest) ≡ length t) (sym h) (reach-sign mark rest end)

reach-piece : (piece : Piece) (text rest : List ℕ) → SpellsPiece piece text → Ends piece rest → reach (text ++ rest) ≡ length text
reach-piece Blank text rest h end = subst (λ (t : List ℕ). reach (t ++ rest) ≡ length t) (sym h.1) (reach-blank h.0 rest h.2)
reach-piece Comment text rest h end =
    let goes : Goes Line false h.0 false = Goes-from_all Line is_line_byte plain_line h.0 h.2 in
    let len : run_length Line false (h.0 ++ rest) ≡ length h.0 = run_length-of Line false h.0 rest false goes (stops_line rest end) in
    subst (λ (t : List ℕ). reach (t ++ rest) ≡ length t) (sym h.1) (omega (arith, reach-dashes (h.0 ++ rest), len))
reach-piece (Lexeme kind) text rest h end = reach-kind kind text rest h end

-- a piece that ends is the longest
ended_longest : (piece : Piece) (text rest : List ℕ) → SpellsPiece piece text → Ends piece rest → IsLongest text rest
ended_longest piece text rest h end other longer more spelled e =
    omega (arith, piece-reach other longer more spelled, ap reach e, reach-piece piece text rest h end)

-- ---- the longest piece ends

-- a piece of a byte more
record IsLonger (text : List ℕ) (b : ℕ) : Type 0 where
  other : Piece
  spelled : SpellsPiece other (text ++ b ∷ [])

no_longer : (text : List ℕ) (b : ℕ) (bs : List ℕ) → IsLongest text (b ∷ bs) → IsLonger text b → ⊥
no_longer text b bs longest l =
    let whole : text ++ b ∷ bs ≡ (text ++ b ∷ []) ++ bs = sym (append_assoc text (b ∷ []) bs) in
    omega (arith, longest l.other (text ++ b ∷ []) bs l.spelled whole, length-append text (b ∷ []))

all_more : (test : ℕ → Bool) (bs : List ℕ) (b : ℕ) → AllByRecursion (λ c. IsTrue (test c)) bs → test b ≡ true → AllByRecursion (λ c. IsTrue (test c)) (bs ++ b ∷ [])
all_more test [] b all h = (h, tt)
all_more test (c ∷ cs) b all h = (all.0, all_more test cs b all.1 h)

longer_name : (text : List ℕ) (b : ℕ) → IsName text → is_name_byte b ≡ true → IsName (text ++ b ∷ [])
longer_name [] b h g = absurd h
longer_name (c ∷ cs) b h g = (h.0, all_more is_name_byte cs b h.1 g)

name_longer : (text : List ℕ) (b : ℕ) → IsName text → is_name_byte b ≡ true → IsLonger text b
name_longer text b h g = record { other = Lexeme (kind_of (keyword_of (text ++ b ∷ [])) (text ++ b ∷ [])); spelled = name_Spells (text ++ b ∷ []) (longer_name text b h g) }

comment_longer : (text line : List ℕ) (b : ℕ) → text ≡ 45 ∷ 45 ∷ line → AllByRecursion (λ c. IsTrue (is_line_byte c)) line → is_line_byte b ≡ true → IsLonger text b
comment_longer text line b e all g = record { other = Comment; spelled = (line ++ b ∷ [], ap (λ (t : List ℕ). t ++ b ∷ []) e, all_more is_line_byte line b all g) }

pair_longer : (other : Piece) (a c b : ℕ) (text : List ℕ) → text ≡ a ∷ [] → nat_eq b c ≡ true → SpellsPiece other (a ∷ c ∷ []) → IsLonger text b
pair_longer other a c b text e h spelled =
    let same : text ++ b ∷ [] ≡ a ∷ c ∷ [] = ap (λ (t : List ℕ). t ++ b ∷ []) e ∙ ap (λ (x : ℕ). a ∷ x ∷ []) (is_n b c h) in
    record { other = other; spelled = subst (SpellsPiece other) (sym same) spelled }

less_ends : (text : List ℕ) (b : ℕ) (bs : List ℕ) → text ≡ 60 ∷ [] → IsLongest text (b ∷ bs) → sign_goes_on Less b ≡ false
less_ends text b bs h l =
    rw (
      not_both (nat_eq b 61) (λ g. no_longer text b bs l (pair_longer (Lexeme (Sign LessEqual)) 60 61 b text h g refl)),
      not_both (nat_eq b 62) (λ g. no_longer text b bs l (pair_longer (Lexeme (Sign NotEqual)) 60 62 b text h g refl)),
    ) refl

sign_ends : (mark : Mark) (text : List ℕ) (b : ℕ) (bs : List ℕ) → text ≡ characters mark → IsLongest text (b ∷ bs) → sign_goes_on mark b ≡ false
sign_ends Colon text b bs h l = not_both (nat_eq b 61) (λ g. no_longer text b bs l (pair_longer (Lexeme (Sign Becomes)) 58 61 b text h g refl))
sign_ends Less text b bs h l = less_ends text b bs h l
sign_ends Greater text b bs h l = not_both (nat_eq b 61) (λ g. no_longer text b bs l (pair_longer (Lexeme (Sign GreaterEqual)) 62 61 b text h g refl))
sign_ends Minus text b bs h l = not_both (nat_eq b 45) (λ g. no_longer text b bs l (pair_longer Comment 45 45 b text h g ([], refl, tt)))
sign_ends _ text b bs h l = refl

longest_ends : (piece : Piece) (text : List ℕ) (b : ℕ) (bs : List ℕ) → SpellsPiece piece text → IsLongest text (b ∷ bs) → IsApart piece (b ∷ bs) → piece_goes_on piece b ≡ false
longest_ends Blank text b bs h l a = refl
longest_ends Comment text b bs h l a = not_both (is_line_byte b) (λ g. no_longer text b bs l (comment_longer text h.0 b h.1 h.2 g))
longest_ends (Lexeme (Key k)) text b bs h l a = not_both (is_name_byte b) (λ g. no_longer text b bs l (name_longer text b (subst IsName (sym h) (letters_IsName k)) g))
longest_ends (Lexeme (Ident name)) text b bs h l a = not_both (is_name_byte b) (λ g. no_longer text b bs l (name_longer text b (subst IsName (sym h.0) h.1) g))
longest_ends (Lexeme (Int n)) text b bs h l a = a
longest_ends (Lexeme (Text content)) text b bs h l a = refl
longest_ends (Lexeme (Sign mark)) text b bs h l a = sign_ends mark text b bs h l

longest_ended : (piece : Piece) (text rest : List ℕ) → SpellsPiece piece text → IsLongest text rest → IsApart piece rest → Ends piece rest
longest_ended piece text [] h l a = tt
longest_ended piece text (b ∷ bs) h l a = longest_ends piece text b bs h l a

apart : (piece : Piece) (rest : List ℕ) → Ends piece rest → IsApart piece rest
apart Blank rest h = tt
apart Comment rest h = tt
apart (Lexeme (Key k)) rest h = tt
apart (Lexeme (Ident name)) rest h = tt
apart (Lexeme (Int n)) rest h = h
apart (Lexeme (Text content)) rest h = tt
apart (Lexeme (Sign mark)) rest h = tt

pub pieces_are_longest : PiecesAreLongest
pieces_are_longest piece text rest h =
    (λ end. (ended_longest piece text rest h end, apart piece rest end), λ l. longest_ended piece text rest h l.0 l.1)
