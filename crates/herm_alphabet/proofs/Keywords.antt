-- The keyword with given letters, and back. Tests for one keyword and for one sign.
use Rattle.std.proofs.Common.{◌≡◌, ◌≢◌, ℕ, Bool, true, false, List, [], ◌∷◌, length, Option, Some, None, refl, sym, ap, ◌∙◌}
use Rattle.std.specs.Prelude.{IfSome, IfNone, bytes_eq, filter, nat_eq, slice_index}
use Rattle.std.specs.List.{find}
use Rattle.std.proofs.lemmas.Slice.Eq.{bytes_eq-Decides}
use Rattle.std.proofs.lemmas.Bool.{eq-eqb}
use denote.Enum.Bare.{same_true, true_same}
use Rattle.std.proofs.Common.{rules}
use Rattle.herm_alphabet.specs.contracts.keyword.Keyword.{the_type as the_keyword}
use Rattle.herm_alphabet.specs.contracts.sign.Mark.{the_type as the_mark}
use Rattle.herm_alphabet.specs.KeywordLetters.{letters, keywords, keyword_of, found_among, starting_with, same_keyword, same_mark}
use Rattle.herm_alphabet.specs.declared.sign.Mark.{Mark}
use Rattle.herm_alphabet.specs.declared.keyword.Keyword.{Keyword}
use Rattle.herm_alphabet.specs.declared.keyword.Keyword.TheVariants.{KwAnd}

pub keyword_of-letters : (k : Keyword) → keyword_of (letters k) ≡ Some k
unfolding keyword_of
keyword_of-letters KwAnd = refl
keyword_of-letters _ = refl

-- what is found passes the test
found_passes : {X : Type 0} (test : X → Bool) (xs : List X) (x : X) → find test xs ≡ Some x → test x ≡ true
found_passes test [] x e = absurd cc
found_passes test (y ∷ ys) x e =
    let choose : (v : Bool) → test y ≡ v → test x ≡ true =
    λ v. elim v as (λ v. test y ≡ v → test x ≡ true) [
      | true ↦ λ h. let same : Some y ≡ Some x = rw h at e in let is : y ≡ x = cc in ap test (sym is) ∙ h
      | false ↦ λ h. found_passes test ys x (rw h at e)
    ]
    in
    choose (test y) refl

pub keyword_of-some : (text : List ℕ) (k : Keyword) → keyword_of text ≡ Some k → text ≡ letters k
unfolding keyword_of
keyword_of-some text k e = sym ((bytes_eq-Decides (letters k) text).0 (found_passes (λ k. bytes_eq (letters k) text) keywords k e))

pub keyword_of-none : (text : List ℕ) (k : Keyword) → keyword_of text ≡ None → text ≢ letters k
keyword_of-none text k e same = let found : keyword_of text ≡ Some k = ap keyword_of same ∙ keyword_of-letters k in cc

pub found_letters : (text : List ℕ) (found : Option Keyword) → found ≡ keyword_of text → IfSome found (λ k. text ≡ letters k)
found_letters text (Some k) e = keyword_of-some text k (sym e)
found_letters text None e = tt

pub no_letters : (text : List ℕ) (found : Option Keyword) → found ≡ keyword_of text → IfNone found ((k : Keyword) → text ≢ letters k)
no_letters text (Some k) e = tt
no_letters text None e = λ k. keyword_of-none text k (sym e)

pub one_keyword : (a b : Keyword) → same_keyword a b ≡ true → a ≡ b
one_keyword a b e = same_true the_keyword (search rules) a b e

pub own_keyword : (k : Keyword) → same_keyword k k ≡ true
own_keyword k = true_same the_keyword k k refl

pub one_mark : (a b : Mark) → same_mark a b ≡ true → a ≡ b
one_mark a b e = same_true the_mark (search rules) a b e

pub own_mark : (m : Mark) → same_mark m m ≡ true
own_mark m = true_same the_mark m m refl

-- ---- keywords by their first letter

-- what is found among those that pass a test is what is found among all, where what is looked for passes it
find-filter : {X : Type 0} (p q : X → Bool) → ((x : X) → p x ≡ true → q x ≡ true) → (xs : List X) → find p (filter q xs) ≡ find p xs
find-filter p q h [] = refl
find-filter p q h (x ∷ xs) =
    let choose : (v w : Bool) → p x ≡ v → q x ≡ w → find p (filter q (x ∷ xs)) ≡ find p (x ∷ xs) =
    λ v w. elim v as (λ v. p x ≡ v → q x ≡ w → find p (filter q (x ∷ xs)) ≡ find p (x ∷ xs)) [
      | true ↦ λ pv qw. rw (h x pv, pv) refl
      | false ↦ elim w as (λ w. p x ≡ false → q x ≡ w → find p (filter q (x ∷ xs)) ≡ find p (x ∷ xs)) [
        | true ↦ λ pv qw. rw (qw, pv, find-filter p q h xs) refl
        | false ↦ λ pv qw. rw (qw, pv, find-filter p q h xs) refl
      ]
    ]
    in
    choose (p x) (q x) refl refl

same_first : (text : List ℕ) (k : Keyword) → bytes_eq (letters k) text ≡ true → nat_eq (slice_index (letters k) 0) (slice_index text 0) ≡ true
same_first text k e =
    let same : letters k ≡ text = (bytes_eq-Decides (letters k) text).0 e in
    rw same (eq-eqb (slice_index text 0) (slice_index text 0) refl)

-- the keyword with given letters is found among those with its first letter
pub found-first : (text : List ℕ) → found_among (starting_with (slice_index text 0)) text ≡ keyword_of text
unfolding keyword_of starting_with
found-first text = find-filter (λ k. bytes_eq (letters k) text) (λ k. nat_eq (slice_index (letters k) 0) (slice_index text 0)) (same_first text) keywords

pub no_keyword : (text : List ℕ) → length text ≡ 0 → None ≡ keyword_of text
unfolding keyword_of
no_keyword [] e = refl
no_keyword (b ∷ bs) e = absurd cc

pub ruleset first_letters = (found-first, no_keyword)
