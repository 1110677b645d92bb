-- The piece at the front of the bytes: what its reading says, and that each piece and fault is read again.
use Rattle.std.proofs.Common.{◌≡◌, ℕ, ◌+◌, ◌<◌, Bool, true, false, ◌&&◌, nat_eq, List, [], ◌∷◌, ◌++◌, length, get_or, Ok, Result, refl, sym, ap, subst, ◌∙◌, arith}
use Rattle.std.specs.Prelude.{IsTrue}
use Rattle.std.specs.List.{AllByRecursion}
use Rattle.std.specs.Char.{is_ascii_alphabetic, is_ascii_digit}
use Rattle.herm_lexer.specs.Bytes.{is_blank, is_name_byte, is_line_byte}
use Rattle.herm_lexer.specs.Runs.{goes_on, Goes, Stops}
use Rattle.herm_lexer.specs.Spelling.{IsName, Ends}
use Rattle.herm_lexer.specs.Reading.{piece_at, name_of, sign_at}
use Rattle.herm_lexer.specs.declared.run.Run.{Run}
use Rattle.herm_lexer.specs.declared.run.Run.TheVariants.{Name, Digits, Line, Inside}
use Rattle.herm_lexer.specs.declared.piece.Piece.{Piece}
use Rattle.herm_lexer.specs.declared.piece.Piece.TheVariants.{Blank, Comment}
use Rattle.herm_lexer.specs.declared.piece.Stop.{Stop}
use Rattle.herm_lexer.proofs.Explained.{Explains}
use Rattle.herm_lexer.proofs.ByteFacts.{letter_name_byte}
use Rattle.herm_lexer.proofs.Choices.{and_true, decide, is_n}
use Rattle.herm_lexer.proofs.RunFacts.{run_split, IsPlain, Goes-from_all, all_from_Goes, run_length-of}
use Rattle.herm_lexer.proofs.Names.{plain_name, piece_at-name, name_explained}
use Rattle.herm_lexer.proofs.Integers.{Goes_digits, piece_at-digits, number_explained}
use Rattle.herm_lexer.proofs.Strings.{piece_at-string, string_explained}
use Rattle.herm_lexer.proofs.Signs.{MayBeSign, piece_at-sign, sign_explained}

-- the first byte of a run that goes on over it is in its text
first_in : (run : Run) (b : ℕ) (bs text rest : List ℕ) (after : Bool) → goes_on run false b ≡ true → b ∷ bs ≡ text ++ rest → Goes run false text after → Stops run after rest → (more : List ℕ) × (text ≡ b ∷ more)
first_in run b bs [] [] after h whole goes end = absurd cc
first_in run b bs [] (c ∷ cs) after h whole goes end =
    let same : b ≡ c = cc in
    let clash : goes_on run false b ≡ false = subst (λ (x : ℕ). goes_on run false x ≡ false) (sym same) (subst (λ (v : Bool). goes_on run v c ≡ false) (sym goes) end) in
    absurd cc
first_in run b bs (c ∷ cs) rest after h whole goes end = let same : c ≡ b = cc in (cs, ap (λ (x : ℕ). x ∷ cs) same)

-- what a reading says, moved along equations
moved : (bytes other : List ℕ) (read : Result (Piece × ℕ) Stop) → bytes ≡ other → piece_at other ≡ read → Explains other read → Explains bytes (piece_at bytes)
moved bytes other read e p h =
    subst (λ (t : List ℕ). Explains t (piece_at t)) (sym e) (subst (Explains other) (sym p) h)

-- ---- what each reading says

pub piece_at-blank : (b : ℕ) (bs : List ℕ) → is_blank b ≡ true → piece_at (b ∷ bs) ≡ Ok (Blank, 1)
unfolding piece_at
piece_at-blank b bs h = rw h refl

ends_blank : (rest : List ℕ) → Ends Blank rest
ends_blank [] = tt
ends_blank (b ∷ bs) = refl

blank_explained : (b : ℕ) (bs : List ℕ) → is_blank b ≡ true → Explains (b ∷ bs) (piece_at (b ∷ bs))
blank_explained b bs h = moved (b ∷ bs) (b ∷ bs) (Ok (Blank, 1)) refl (piece_at-blank b bs h) (record {
  text = b ∷ [];
  rest = bs;
  whole = refl;
  len = refl;
  some = omega arith;
  part = record { spelled = (b, refl, h); within = tt; ended = ends_blank bs };
})

name_at_front : (b : ℕ) (bs : List ℕ) → is_ascii_alphabetic b ≡ true → Explains (b ∷ bs) (piece_at (b ∷ bs))
name_at_front b bs h =
    let s = run_split Name false (b ∷ bs) in
    let all = all_from_Goes Name is_name_byte plain_name s.text s.after s.goes in
    let end : Stops Name false s.rest = subst (λ (v : Bool). Stops Name v s.rest) all.1 s.stops in
    let front = first_in Name b bs s.text s.rest s.after (letter_name_byte b h) s.whole s.goes s.stops in
    let each : AllByRecursion (λ c. IsTrue (is_name_byte c)) (b ∷ front.0) = subst (λ (t : List ℕ). AllByRecursion (λ c. IsTrue (is_name_byte c)) t) front.1 all.0 in
    let name : IsName s.text = subst IsName (sym front.1) (h, each.1) in
    moved (b ∷ bs) (s.text ++ s.rest) (name_of (length s.text) s.text) s.whole (piece_at-name s.text s.rest name end) (name_explained s.text s.rest name end)

digits_at_front : (b : ℕ) (bs : List ℕ) → is_ascii_digit b ≡ true → Explains (b ∷ bs) (piece_at (b ∷ bs))
digits_at_front b bs h =
    let s = run_split Digits false (b ∷ bs) in
    let all = Goes_digits s.text s.after s.goes in
    let end : Stops Digits false s.rest = subst (λ (v : Bool). Stops Digits v s.rest) all.1 s.stops in
    let front = first_in Digits b bs s.text s.rest s.after h s.whole s.goes s.stops in
    let some : 0 < length s.text = omega (arith, ap length front.1) in
    moved (b ∷ bs) (s.text ++ s.rest) _ s.whole (piece_at-digits s.text s.rest all.0 some end) (number_explained s.text s.rest all.0 some end)

string_at_front : (bs : List ℕ) → Explains (34 ∷ bs) (piece_at (34 ∷ bs))
string_at_front bs =
    let s = run_split Inside false bs in
    moved (34 ∷ bs) (34 ∷ (s.text ++ s.rest)) _ (ap (λ (t : List ℕ). 34 ∷ t) s.whole) (piece_at-string s.text s.rest s.after s.goes s.stops) (string_explained s.text s.rest s.after s.goes s.stops)

-- ---- comments

pub plain_line : IsPlain Line is_line_byte
plain_line = record { tests = λ e b. refl; never = λ e b. refl }

pub piece_at-comment : (line rest : List ℕ) → Goes Line false line false → Stops Line false rest → piece_at (45 ∷ 45 ∷ (line ++ rest)) ≡ Ok (Comment, length line + 2)
unfolding piece_at
piece_at-comment line rest goes end = rw (run_length-of Line false line rest false goes end) refl

ends_comment : (rest : List ℕ) → Stops Line false rest → Ends Comment rest
ends_comment [] h = tt
ends_comment (b ∷ bs) h = h

comment_at_front : (bs : List ℕ) → Explains (45 ∷ 45 ∷ bs) (piece_at (45 ∷ 45 ∷ bs))
comment_at_front bs =
    let s = run_split Line false bs in
    let all = all_from_Goes Line is_line_byte plain_line s.text s.after s.goes in
    let goes : Goes Line false s.text false = Goes-from_all Line is_line_byte plain_line s.text all.0 in
    let end : Stops Line false s.rest = subst (λ (v : Bool). Stops Line v s.rest) all.1 s.stops in
    moved (45 ∷ 45 ∷ bs) (45 ∷ 45 ∷ (s.text ++ s.rest)) (Ok (Comment, length s.text + 2)) (ap (λ (t : List ℕ). 45 ∷ 45 ∷ t) s.whole) (piece_at-comment s.text s.rest goes end) (record {
      text = 45 ∷ 45 ∷ s.text;
      rest = s.rest;
      whole = refl;
      len = omega arith;
      some = omega arith;
      part = record { spelled = (s.text, refl, all.0); within = tt; ended = ends_comment s.rest end };
    })

-- ---- all readings

two_dashes : (b : ℕ) (bs : List ℕ) → b ≡ 45 → get_or bs 0 0 ≡ 45 → Explains (b ∷ bs) (piece_at (b ∷ bs))
two_dashes b [] e d = absurd (omega arith)
two_dashes b (c ∷ cs) e d =
    subst (λ (t : List ℕ). Explains t (piece_at t)) (ap (λ (x : ℕ). 45 ∷ x ∷ cs) (sym d) ∙ ap (λ (x : ℕ). x ∷ c ∷ cs) (sym e)) (comment_at_front cs)

pub explained : (bytes : List ℕ) → 0 < length bytes → Explains bytes (piece_at bytes)
explained [] h = absurd (omega arith)
explained (b ∷ bs) h =
    decide (is_blank b) (blank_explained b bs) (λ no_blank.
    decide (is_ascii_alphabetic b) (name_at_front b bs) (λ no_letter.
    decide (is_ascii_digit b) (digits_at_front b bs) (λ no_digit.
    decide (nat_eq b 34) (λ quote. subst (λ (x : ℕ). Explains (x ∷ bs) (piece_at (x ∷ bs))) (sym (is_n b 34 quote)) (string_at_front bs)) (λ no_quote.
    decide (nat_eq b 45 && nat_eq (get_or bs 0 0) 45)
    (λ dashes. let p = and_true (nat_eq b 45) (nat_eq (get_or bs 0 0) 45) dashes in two_dashes b bs (is_n b 45 p.0) (is_n (get_or bs 0 0) 45 p.1))
    (λ no_comment.
    let m : MayBeSign b bs = record { no_blank = no_blank; no_letter = no_letter; no_digit = no_digit; no_quote = no_quote; no_comment = no_comment } in
    moved (b ∷ bs) (b ∷ bs) (sign_at b (get_or bs 0 0)) refl (piece_at-sign b bs m) (sign_explained b bs m))))))
