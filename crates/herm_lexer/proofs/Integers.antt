-- Integers.
use Rattle.std.proofs.Common.{◌≡◌, ℕ, suc, ◌+◌, ◌-◌, ◌*◌, ◌<◌, ◌≤◌, ◌^◌, ◌⊎◌, inl, inr, Bool, true, false, cond, ◌&&◌, ◌||◌, nat_lt, nat_eq, List, [], ◌∷◌, ◌++◌, length, get_or, take, Option, Some, None, Ok, Err, Result, refl, sym, ap, ◌∙◌, arith}
use Rattle.std.specs.Prelude.{IsTrue, ℤ, pos}
use Rattle.std.specs.Int.{IsInRange}
use Rattle.std.specs.List.{AllByRecursion}
use Rattle.std.specs.Char.{is_ascii_digit, digit_value}
use Rattle.std.specs.Str.Parse.{AllDigits, digits_value_after}
use Rattle.std.proofs.lemmas.Bool.{le-ltb, lt-ltb, ltb-false, ltb-true}
use Rattle.std.proofs.lemmas.Bool.Decides.{nat_tests}
use Rattle.std.proofs.lemmas.List.{take_at}
use Rattle.std.proofs.lemmas.Str.{digit_value_digit}
use Rattle.std.proofs.lemmas.Str.Parse.{digit_from_value}
use Rattle.herm_base.specs.Decimal.{IsDecimalText}
use Rattle.herm_lexer.specs.Bytes.{is_name_byte}
use Rattle.herm_lexer.specs.Runs.{Goes, Stops, run_length}
use Rattle.herm_lexer.specs.Spelling.{Ends}
use Rattle.herm_lexer.specs.Faults.{IsMisspelledNumber}
use Rattle.herm_lexer.specs.Reading.{value_after, integer, integer_of, number_at, piece_at}
use Rattle.herm_lexer.specs.declared.run.Run.TheVariants.{Digits}
use Rattle.herm_lexer.specs.declared.piece.Piece.{Piece}
use Rattle.herm_lexer.specs.declared.piece.Piece.TheVariants.{Token as Lexeme}
use Rattle.herm_lexer.specs.declared.piece.Stop.{Stop}
use Rattle.herm_lexer.specs.declared.piece.Stop.TheVariants as stops
use Rattle.herm_alphabet.specs.declared.token.TokenKind.TheVariants.{Int}
use Rattle.herm_lexer.proofs.Explained.{Explains}
use Rattle.herm_lexer.proofs.ByteFacts.{digit_no_blank, digit_no_letter, no_name_byte_no_digit}
use Rattle.herm_lexer.proofs.Choices.{by_test, and_true, or_true, or_false, or_right, is_n}
use Rattle.herm_lexer.proofs.RunFacts.{IsPlain, Goes-from_all, all_from_Goes, run_length-of}

abbrev pub AreDigits : List ℕ → Type 0
AreDigits text = AllByRecursion (λ b. IsTrue (is_ascii_digit b)) text

-- ---- what digits write

digit_range : (b : ℕ) → is_ascii_digit b ≡ true → IsInRange 48 57 b
digit_range b h = grind (arith, nat_tests)

range_digit : (b : ℕ) → IsInRange 48 57 b → is_ascii_digit b ≡ true
range_digit b h = grind (arith, nat_tests)

value_after-is : (n : ℕ) (ds : List ℕ) → AreDigits ds → value_after n ds ≡ digits_value_after 10 n ds
value_after-is n [] h = refl
value_after-is n (d ∷ ds) h =
    let e : d - 48 ≡ digit_value d = omega (arith, digit_value_digit d (digit_range d h.0)) in
    ap (λ (v : ℕ). value_after (n * 10 + v) ds) e ∙ value_after-is (n * 10 + digit_value d) ds h.1

digits_from : (ds : List ℕ) → AreDigits ds → AllDigits 10 ds
digits_from [] h = tt
digits_from (d ∷ ds) h =
    let r = digit_range d h.0 in
    (omega (arith, digit_value_digit d r, r.1), digits_from ds h.1)

pub digits_to : (ds : List ℕ) → AllDigits 10 ds → AreDigits ds
digits_to [] h = tt
digits_to (d ∷ ds) h = (range_digit d (digit_from_value d h.0), digits_to ds h.1)

-- ---- how a run of digits is read

plain_digits : IsPlain Digits is_ascii_digit
plain_digits = record { tests = λ e b. refl; never = λ e b. refl }

pub digits_Goes : (text : List ℕ) → AreDigits text → Goes Digits false text false
digits_Goes text h = Goes-from_all Digits is_ascii_digit plain_digits text h

pub Goes_digits : (text : List ℕ) (after : Bool) → Goes Digits false text after → AreDigits text × (after ≡ false)
Goes_digits text after h = all_from_Goes Digits is_ascii_digit plain_digits text after h

pub index_rest : (xs ys : List ℕ) → get_or (xs ++ ys) (length xs) 0 ≡ get_or ys 0 0
index_rest [] ys = refl
index_rest (x ∷ xs) ys = index_rest xs ys

-- the digits begin with 0 and go on, or run into what follows
abbrev pub runs_on : List ℕ → List ℕ → Bool
runs_on digits rest = (nat_eq (get_or digits 0 0) 48 && nat_lt 1 (length digits)) || is_name_byte (get_or rest 0 0)

abbrev pub number_read : List ℕ → List ℕ → Result (Piece × ℕ) Stop
number_read digits rest = cond (runs_on digits rest) (Err stops.Token) (integer_of (length digits) (integer (value_after 0 digits)))

number_at-digits : (digits rest : List ℕ) → AreDigits digits → 0 < length digits → Stops Digits false rest → number_at (digits ++ rest) ≡ number_read digits rest
unfolding number_at
number_at-digits [] rest h some end = absurd (omega arith)
number_at-digits (b ∷ bs) rest h some end =
    let len : run_length Digits false (b ∷ (bs ++ rest)) ≡ suc (length bs) = run_length-of Digits false (b ∷ bs) rest false (digits_Goes (b ∷ bs) h) end in
    let front : take (suc (length bs)) (b ∷ (bs ++ rest)) ≡ b ∷ bs = take_at (b ∷ bs) rest (suc (length bs)) refl in
    let at : get_or (b ∷ (bs ++ rest)) (suc (length bs)) 0 ≡ get_or rest 0 0 = index_rest (b ∷ bs) rest in
    rw (len, front, at) refl

pub piece_at-digits : (digits rest : List ℕ) → AreDigits digits → 0 < length digits → Stops Digits false rest → piece_at (digits ++ rest) ≡ number_read digits rest
unfolding piece_at
piece_at-digits [] rest h some end = absurd (omega arith)
piece_at-digits (b ∷ bs) rest h some end =
    rw (digit_no_blank b h.0, digit_no_letter b h.0, h.0) (number_at-digits (b ∷ bs) rest h some end)

-- ---- what the reading of digits says

misspelling : (digits rest : List ℕ) → runs_on digits rest ≡ true → ((get_or digits 0 0 ≡ 48) × (2 ≤ length digits)) ⊎ IsTrue (is_name_byte (get_or rest 0 0))
misspelling digits rest h =
    let zeros : Bool = nat_eq (get_or digits 0 0) 48 in
    let longer : Bool = nat_lt 1 (length digits) in
    elim (or_true (zeros && longer) (is_name_byte (get_or rest 0 0)) h) [
      | inl both ↦ let p = and_true zeros longer both in inl (is_n (get_or digits 0 0) 48 p.0, ltb-true 1 (length digits) p.1)
      | inr into ↦ inr into
    ]

no_zero : (digits rest : List ℕ) → runs_on digits rest ≡ false → 0 < length digits → get_or digits 0 0 ≡ 48 → length digits ≡ 1
no_zero digits rest h some e = grind (arith, nat_tests)

end_name : (digits rest : List ℕ) → runs_on digits rest ≡ false → is_name_byte (get_or rest 0 0) ≡ false
end_name digits rest h = (or_false _ _ h).1

ends_int : (z : ℤ) (rest : List ℕ) → is_name_byte (get_or rest 0 0) ≡ false → Ends (Lexeme (Int z)) rest
ends_int z [] h = tt
ends_int z (b ∷ bs) h = h

pub decimal_text : (digits rest : List ℕ) → AreDigits digits → 0 < length digits → runs_on digits rest ≡ false → IsDecimalText (value_after 0 digits) digits
decimal_text digits rest all some h = record {
  digits = (some, digits_from digits all);
  value = sym (value_after-is 0 digits all);
  no_leading_zero = no_zero digits rest h some;
}

pub number_explained : (digits rest : List ℕ) → AreDigits digits → 0 < length digits → Stops Digits false rest → Explains (digits ++ rest) (number_read digits rest)
number_explained digits rest all some end =
    let value : ℕ = value_after 0 digits in
    by_test (Explains (digits ++ rest)) (runs_on digits rest) (Err stops.Token) (integer_of (length digits) (integer value))
    (λ wrong. inr (inr (inl (record {
      digits = digits;
      after = rest;
      parts = refl;
      some = some;
      run = all;
      ended = end;
      misspelled = misspelling digits rest wrong;
    }))))
    (λ right. by_test (λ (o : Option ℤ). Explains (digits ++ rest) (integer_of (length digits) o)) (nat_lt value (2 ^ 63)) (Some (pos value)) None
    (λ short. record {
      text = digits;
      rest = rest;
      whole = refl;
      len = refl;
      some = some;
      part = record {
        spelled = decimal_text digits rest all some right;
        within = ltb-true value (2 ^ 63) short;
        ended = ends_int (pos value) rest (end_name digits rest right);
      };
    })
    (λ long. record {
      kind = Int (pos value);
      text = digits;
      after = rest;
      parts = refl;
      spelled = decimal_text digits rest all some right;
      ended = ends_int (pos value) rest (end_name digits rest right);
      beyond = λ (within : value < 2 ^ 63). let far : 2 ^ 63 ≤ value = ltb-false value (2 ^ 63) long in absurd (omega arith);
    }))

-- ---- an integer that is spelled is read

pub ended_rest : (z : ℤ) (rest : List ℕ) → Ends (Lexeme (Int z)) rest → is_name_byte (get_or rest 0 0) ≡ false
ended_rest z [] h = refl
ended_rest z (b ∷ bs) h = h

pub stops_digits : (rest : List ℕ) → is_name_byte (get_or rest 0 0) ≡ false → Stops Digits false rest
stops_digits [] h = tt
stops_digits (b ∷ bs) h = no_name_byte_no_digit b h

runs_on-false : (n : ℕ) (text rest : List ℕ) → IsDecimalText n text → is_name_byte (get_or rest 0 0) ≡ false → runs_on text rest ≡ false
runs_on-false n text rest d h =
    let zeros : Bool = nat_eq (get_or text 0 0) 48 in
    let one : nat_eq (get_or text 0 0) 48 ≡ true → length text ≡ 1 = λ z. d.no_leading_zero (is_n _ 48 z) in
    let choose : (v : Bool) → nat_eq (get_or text 0 0) 48 ≡ v → runs_on text rest ≡ false =
    λ v. elim v as (λ v. nat_eq (get_or text 0 0) 48 ≡ v → runs_on text rest ≡ false) [
      | true ↦ λ z. rw (z, one z, h) refl
      | false ↦ λ z. rw (z, h) refl
    ]
    in
    choose zeros refl

number_again : (n : ℕ) (text rest : List ℕ) → IsDecimalText n text → Ends (Lexeme (Int (pos n))) rest → piece_at (text ++ rest) ≡ integer_of (length text) (integer n)
number_again n text rest d ended =
    let end = ended_rest (pos n) rest ended in
    let all = digits_to text d.digits.1 in
    let value : value_after 0 text ≡ n = value_after-is 0 text all ∙ d.value in
    piece_at-digits text rest all d.digits.0 (stops_digits rest end) ∙ rw (runs_on-false n text rest d end, value) refl

pub int_again : (n : ℕ) (text rest : List ℕ) → IsDecimalText n text → n < 2 ^ 63 → Ends (Lexeme (Int (pos n))) rest → piece_at (text ++ rest) ≡ Ok (Lexeme (Int (pos n)), length text)
int_again n text rest d short ended = number_again n text rest d ended ∙ rw (lt-ltb n (2 ^ 63) short) refl

pub int_too_long : (n : ℕ) (text rest : List ℕ) → IsDecimalText n text → (n < 2 ^ 63 → ⊥) → Ends (Lexeme (Int (pos n))) rest → piece_at (text ++ rest) ≡ Err stops.TooLong
int_too_long n text rest d beyond ended =
    let far : 2 ^ 63 ≤ n = omega arith in
    number_again n text rest d ended ∙ rw (le-ltb n (2 ^ 63) far) refl

-- ---- a run of digits that is no number is found

runs_on-true : (digits rest : List ℕ) → ((get_or digits 0 0 ≡ 48) × (2 ≤ length digits)) ⊎ IsTrue (is_name_byte (get_or rest 0 0)) → runs_on digits rest ≡ true
runs_on-true digits rest (inl both) = rw (both.0, lt-ltb 1 (length digits) (omega (arith, both.1))) refl
runs_on-true digits rest (inr into) = rw into (or_right (nat_eq (get_or digits 0 0) 48 && nat_lt 1 (length digits)))

pub misspelled_again : (bytes : List ℕ) → IsMisspelledNumber bytes → piece_at bytes ≡ Err stops.Token
misspelled_again bytes m =
    ap piece_at m.parts ∙ piece_at-digits m.digits m.after m.run m.some m.ended ∙ rw (runs_on-true m.digits m.after m.misspelled) refl
