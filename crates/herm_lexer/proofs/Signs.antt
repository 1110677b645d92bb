-- Signs, and bytes that begin no token.
use Rattle.std.proofs.Common.{◌≡◌, ℕ, ◌<◌, inl, inr, true, false, ◌&&◌, nat_eq, List, [], ◌∷◌, get_or, Option, Some, None, Err, refl, sym, ap, subst, ◌∙◌, arith}
use Rattle.std.specs.Prelude.{is_some, pos, negsuc}
use Rattle.std.specs.List.{AllByRecursion}
use Rattle.std.specs.Char.{is_ascii_alphabetic, is_ascii_digit}
use Rattle.std.proofs.lemmas.Bool.Decides.{nat_tests}
use Rattle.herm_base.specs.Decimal.{IsDecimalText}
use Rattle.herm_lexer.specs.Bytes.{is_blank, is_allowed}
use Rattle.herm_alphabet.specs.KeywordLetters.{letters, characters}
use Rattle.herm_lexer.specs.Spelling.{IsName, Spells, Ends, sign_goes_on}
use Rattle.herm_lexer.specs.Reading.{single_sign, single_signs, sign_among, single_of, sign_of, sign_at, piece_at}
use Rattle.herm_lexer.specs.declared.piece.Piece.TheVariants.{Token as Lexeme}
use Rattle.herm_lexer.specs.declared.piece.Stop.TheVariants as stops
use Rattle.herm_alphabet.specs.declared.token.TokenKind.{TokenKind}
use Rattle.herm_alphabet.specs.declared.token.TokenKind.TheVariants.{Key, Ident, Int, Text, Sign}
use Rattle.herm_alphabet.specs.declared.sign.Mark.{Mark}
use Rattle.herm_alphabet.specs.declared.sign.Mark.TheVariants.{ParenOpen, ParenClose, BraceOpen, BraceClose, BracketOpen, BracketClose, Comma, Semicolon, Colon, Becomes, Dot, Hash, Equal, NotEqual, Less, LessEqual, Greater, GreaterEqual, Plus, Minus, Star, Ampersand}
use Rattle.herm_lexer.proofs.Explained.{Explains, Found}
use Rattle.herm_lexer.proofs.Integers.{digits_to}
use Rattle.herm_lexer.proofs.Names.{letters_IsName}
use Rattle.herm_lexer.proofs.Choices.{by_test, and_true, false_not_true, is_n, none_not_some, some_is}

-- ---- what stands at the front where nothing but a sign may

-- the first byte begins no blank, name, integer, string or comment
pub record MayBeSign (b : ℕ) (bs : List ℕ) : Type 0 where
  pub no_blank : is_blank b ≡ false
  pub no_letter : is_ascii_alphabetic b ≡ false
  pub no_digit : is_ascii_digit b ≡ false
  pub no_quote : nat_eq b 34 ≡ false
  pub no_comment : (nat_eq b 45 && nat_eq (get_or bs 0 0) 45) ≡ false

pub piece_at-sign : (b : ℕ) (bs : List ℕ) → MayBeSign b bs → piece_at (b ∷ bs) ≡ sign_at b (get_or bs 0 0)
unfolding piece_at
piece_at-sign b bs m = rw (m.no_blank, m.no_letter, m.no_digit, m.no_quote, m.no_comment) refl

-- it begins no sign of two bytes either
record IsSingle (b : ℕ) (bs : List ℕ) : Type 0 where
  colon : (nat_eq b 58 && nat_eq (get_or bs 0 0) 61) ≡ false
  less_greater : (nat_eq b 60 && nat_eq (get_or bs 0 0) 62) ≡ false
  less_equal : (nat_eq b 60 && nat_eq (get_or bs 0 0) 61) ≡ false
  greater : (nat_eq b 62 && nat_eq (get_or bs 0 0) 61) ≡ false

second : (bs : List ℕ) (c : ℕ) → 0 < c → get_or bs 0 0 ≡ c → (cs : List ℕ) × (bs ≡ c ∷ cs)
second [] c h e = absurd (omega arith)
second (b ∷ bs) c h e = (bs, ap (λ (x : ℕ). x ∷ bs) e)

ends_free : (mark : Mark) (rest : List ℕ) → ((x : ℕ) → sign_goes_on mark x ≡ false) → Ends (Lexeme (Sign mark)) rest
ends_free mark [] free = tt
ends_free mark (x ∷ xs) free = free x

-- a sign of two bytes
double_found : (mark : Mark) (a c b : ℕ) (bs : List ℕ) → 0 < c → characters mark ≡ a ∷ c ∷ [] → ((x : ℕ) → sign_goes_on mark x ≡ false) → (nat_eq b a && nat_eq (get_or bs 0 0) c) ≡ true → Found (b ∷ bs) (Lexeme (Sign mark)) 2
double_found mark a c b bs some spelled free h =
    let p = and_true (nat_eq b a) (nat_eq (get_or bs 0 0) c) h in
    let s = second bs c some (is_n (get_or bs 0 0) c p.1) in
    record {
      text = a ∷ c ∷ [];
      rest = s.0;
      whole = ap (λ (x : ℕ). x ∷ bs) (is_n b a p.0) ∙ ap (λ (t : List ℕ). a ∷ t) s.1;
      len = refl;
      some = omega arith;
      part = record { spelled = sym spelled; within = tt; ended = ends_free mark s.0 free };
    }

-- ---- signs of one byte

abbrev IsSignOf : ℕ → List ℕ → ℕ × Mark → Type 0
IsSignOf b bs sign = b ≡ sign.0 → (characters sign.1 ≡ sign.0 ∷ []) × Ends (Lexeme (Sign sign.1)) bs

after_sign : (b c : ℕ) (bs : List ℕ) (d : ℕ) → b ≡ c → (nat_eq b c && nat_eq (get_or bs 0 0) d) ≡ false → nat_eq (get_or bs 0 0) d ≡ false
after_sign b c bs d e h = grind (arith, nat_tests)

ends_colon : (bs : List ℕ) → nat_eq (get_or bs 0 0) 61 ≡ false → Ends (Lexeme (Sign Colon)) bs
ends_colon [] h = tt
ends_colon (x ∷ xs) h = h

ends_less : (bs : List ℕ) → nat_eq (get_or bs 0 0) 61 ≡ false → nat_eq (get_or bs 0 0) 62 ≡ false → Ends (Lexeme (Sign Less)) bs
ends_less [] h k = tt
ends_less (x ∷ xs) h k = rw (h, k) refl

ends_greater : (bs : List ℕ) → nat_eq (get_or bs 0 0) 61 ≡ false → Ends (Lexeme (Sign Greater)) bs
ends_greater [] h = tt
ends_greater (x ∷ xs) h = h

ends_minus : (bs : List ℕ) → nat_eq (get_or bs 0 0) 45 ≡ false → Ends (Lexeme (Sign Minus)) bs
ends_minus [] h = tt
ends_minus (x ∷ xs) h = h

free : (mark : Mark) (b c : ℕ) (bs : List ℕ) → characters mark ≡ c ∷ [] → ((x : ℕ) → sign_goes_on mark x ≡ false) → IsSignOf b bs (c, mark)
free mark b c bs spelled none e = (spelled, ends_free mark bs none)

all_signs : (b : ℕ) (bs : List ℕ) → MayBeSign b bs → IsSingle b bs → AllByRecursion (IsSignOf b bs) single_signs
all_signs b bs m s = (
  free ParenOpen b _ bs refl (λ x. refl),
  (
    free ParenClose b _ bs refl (λ x. refl),
    (
      free BraceOpen b _ bs refl (λ x. refl),
      (
        free BraceClose b _ bs refl (λ x. refl),
        (
          free BracketOpen b _ bs refl (λ x. refl),
          (
            free BracketClose b _ bs refl (λ x. refl),
            (
              free Comma b _ bs refl (λ x. refl),
              (
                free Semicolon b _ bs refl (λ x. refl),
                (
                  (λ e. (refl, ends_colon bs (after_sign b 58 bs 61 e s.colon))),
                  (
                    free Dot b _ bs refl (λ x. refl),
                    (
                      free Hash b _ bs refl (λ x. refl),
                      (
                        free Equal b _ bs refl (λ x. refl),
                        (
                          (λ e. (refl, ends_less bs (after_sign b 60 bs 61 e s.less_equal) (after_sign b 60 bs 62 e s.less_greater))),
                          (
                            (λ e. (refl, ends_greater bs (after_sign b 62 bs 61 e s.greater))),
                            (
                              free Plus b _ bs refl (λ x. refl),
                              (
                                (λ e. (refl, ends_minus bs (after_sign b 45 bs 45 e m.no_comment))),
                                (
                                  free Star b _ bs refl (λ x. refl),
                                  (
                                    free Ampersand b _ bs refl (λ x. refl),
                                    tt,
                                  ),
                                ),
                              ),
                            ),
                          ),
                        ),
                      ),
                    ),
                  ),
                ),
              ),
            ),
          ),
        ),
      ),
    ),
  ),
)

-- the sign that is found is spelled by the byte, and ends
among_some : (b : ℕ) (bs : List ℕ) (signs : List (ℕ × Mark)) (mark : Mark) → AllByRecursion (IsSignOf b bs) signs → sign_among b signs ≡ Some mark → (characters mark ≡ b ∷ []) × Ends (Lexeme (Sign mark)) bs
among_some b bs [] mark all = λ e. absurd (none_not_some mark e)
among_some b bs (sign ∷ signs) mark all =
    by_test (λ (o : Option Mark). o ≡ Some mark → (characters mark ≡ b ∷ []) × Ends (Lexeme (Sign mark)) bs) (nat_eq b sign.0) (Some sign.1) (sign_among b signs)
    (λ h e.
    let same : b ≡ sign.0 = is_n b sign.0 h in
    let is : sign.1 ≡ mark = some_is sign.1 mark e in
    let p = all.0 same in
    subst (λ (k : Mark). (characters k ≡ b ∷ []) × Ends (Lexeme (Sign k)) bs) is (p.0 ∙ ap (λ (x : ℕ). x ∷ []) (sym same), p.1))
    (λ _ e. among_some b bs signs mark all.1 e)

-- ---- a byte that begins no token

first_is_single : (mark : Mark) → is_some (single_sign (get_or (characters mark) 0 0)) ≡ true
unfolding single_sign
first_is_single ParenOpen = refl
first_is_single _ = refl

no_sign : (b : ℕ) (more : List ℕ) (mark : Mark) → single_sign b ≡ None → b ∷ more ≡ characters mark → ⊥
no_sign b more mark none spelled =
    let same : b ≡ get_or (characters mark) 0 0 = ap (λ (t : List ℕ). get_or t 0 0) spelled in
    let clash : false ≡ true = ap is_some (sym none) ∙ ap (λ (x : ℕ). is_some (single_sign x)) same ∙ first_is_single mark in
    absurd cc

name_first : (b : ℕ) (more text : List ℕ) → b ∷ more ≡ text → IsName text → is_ascii_alphabetic b ≡ true
name_first b more text e name = (subst IsName (sym e) name).0

decimal_first : (b n : ℕ) (more : List ℕ) → IsDecimalText n (b ∷ more) → is_ascii_digit b ≡ true
decimal_first b n more d = (digits_to (b ∷ more) d.digits.1).0

first_is : (b c : ℕ) (bs cs : List ℕ) → b ∷ bs ≡ c ∷ cs → b ≡ c
first_is b c bs cs e = cc

begins_none : (b : ℕ) (bs : List ℕ) → MayBeSign b bs → single_sign b ≡ None → (kind : TokenKind) (more : List ℕ) → Spells kind (b ∷ more) → ⊥
begins_none b bs m none (Key k) more spelled = false_not_true _ m.no_letter (name_first b more (letters k) spelled (letters_IsName k))
begins_none b bs m none (Ident name) more spelled = false_not_true _ m.no_letter (name_first b more name spelled.0 spelled.1)
begins_none b bs m none (Int (pos n)) more spelled = false_not_true _ m.no_digit (decimal_first b n more spelled)
begins_none b bs m none (Int (negsuc n)) more spelled = spelled
begins_none b bs m none (Text content) more spelled =
    let same : b ≡ 34 = first_is b 34 more _ spelled.0 in
    false_not_true (nat_eq b 34) m.no_quote (rw same refl)
begins_none b bs m none (Sign mark) more spelled = no_sign b more mark none spelled

single_explained : (b : ℕ) (bs : List ℕ) → MayBeSign b bs → IsSingle b bs → (found : Option Mark) → single_sign b ≡ found → Explains (b ∷ bs) (single_of b found)
unfolding single_sign
single_explained b bs m s (Some mark) e =
    let p = among_some b bs single_signs mark (all_signs b bs m s) e in
    record {
      text = b ∷ [];
      rest = bs;
      whole = refl;
      len = refl;
      some = omega arith;
      part = record { spelled = sym p.0; within = tt; ended = p.1 };
    }
single_explained b bs m s None e =
    by_test (Explains (b ∷ bs)) (is_allowed b) (Err stops.Token) (Err (stops.Byte 0))
    (λ inside. inr (inr (inr (record { first = b; after = bs; parts = refl; inside = inside; visible = m.no_blank; begins = begins_none b bs m e }))))
    (λ outside. ([], record { stray = b; after = bs; parts = refl; outside = outside; place = inl refl }, refl))

pub sign_explained : (b : ℕ) (bs : List ℕ) → MayBeSign b bs → Explains (b ∷ bs) (sign_at b (get_or bs 0 0))
unfolding sign_at
sign_explained b bs m =
    let P : Option Mark → Type 0 = λ o. Explains (b ∷ bs) (sign_of b o) in
    by_test P (nat_eq b 58 && nat_eq (get_or bs 0 0) 61) _ _ (double_found Becomes 58 61 b bs (omega arith) refl (λ x. refl))
    (λ p. by_test P (nat_eq b 60 && nat_eq (get_or bs 0 0) 62) _ _ (double_found NotEqual 60 62 b bs (omega arith) refl (λ x. refl))
    (λ q. by_test P (nat_eq b 60 && nat_eq (get_or bs 0 0) 61) _ _ (double_found LessEqual 60 61 b bs (omega arith) refl (λ x. refl))
    (λ r. by_test P (nat_eq b 62 && nat_eq (get_or bs 0 0) 61) _ _ (double_found GreaterEqual 62 61 b bs (omega arith) refl (λ x. refl))
    (λ s. single_explained b bs m (record { colon = p; less_greater = q; less_equal = r; greater = s }) (single_sign b) refl))))
