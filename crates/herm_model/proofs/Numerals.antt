-- A number's digits tell the number, also where more follows that does not begin with a digit; so does a string's
-- text.
use Rattle.std.proofs.Common.{◌≡◌, ◌<◌, ◌≤◌, ℕ, zero, suc, ◌+◌, ◌-◌, ◌*◌, ◌/◌, ◌%◌, ◌^◌, List, [], ◌∷◌, ◌++◌, flat_map, Bool, true, false, cond, ℤ, pos, negsuc, nat_eq, IsTrue, IsFalse, refl, sym, ap, ap₂, ◌∙◌, arith, append_assoc, true≢false, mod-lt, div-lt_iff_lt-mul, div-add-mod', pow-suc}
use Rattle.std.proofs.Math.Nat.{mul-le-mul_right, pow-zero}
use Rattle.std.proofs.lemmas.Nat.{pow-add}
use Rattle.std.proofs.lemmas.Bool.{eq-eqb, eqb-true, lt-ltb, le-leb, ltb-true}
use Rattle.std.specs.Fmt.{digit_glyph, digits_onto, digits, decimal, signed_decimal}
use Rattle.herm_model.specs.Typed.{is_integer}
use Rattle.herm_model.specs.ValueTexts.{digit_bound, numeral, signed_numeral, is_digit, begins_with_digit}
use Rattle.herm_model.specs.Escapes.{escaped}
use Rattle.herm_model.proofs.Lists.{both-and, cons-head, cons-tail}

glyph_is : (d : ℕ) → d < 10 → digit_glyph false d ≡ 48 + d
glyph_is d h = ap (λ (b : Bool). cond b (48 + d) (87 + d)) (lt-ltb d 10 h)

abbrev value_after : ℕ → List ℕ → ℕ
value_after a [] = a
value_after a (b ∷ bytes) = value_after (a * 10 + (b - 48)) bytes

rest_small : (n : ℕ) → n % 10 < 10
rest_small n = let z : 0 < 10 = omega arith in mod-lt n z

-- the glyph of the last digit adds to ten times the others
last_digit : (n : ℕ) → n / 10 * 10 + (digit_glyph false (n % 10) - 48) ≡ n
last_digit n = omega (arith, glyph_is (n % 10) (rest_small n), div-add-mod' n 10)

fewer : (k n : ℕ) → n < 10 ^ suc k → n / 10 < 10 ^ k
fewer k n h = let z : 0 < 10 = omega arith in (div-lt_iff_lt-mul z).1 (omega (arith, pow-suc 10 k))

value-digits_onto : (k n : ℕ) (acc : List ℕ) → n < 10 ^ k → value_after 0 (digits_onto k 10 false n acc) ≡ value_after n acc
value-digits_onto zero n acc h = let z : 0 ≡ n = omega arith in ap (λ m. value_after m acc) z
value-digits_onto (suc k) n acc h = by (nat_eq (n / 10) 0) refl (value-digits_onto k (n / 10) (digit_glyph false (n % 10) ∷ acc) (fewer k n h))
  where
    by : (b : Bool) → nat_eq (n / 10) 0 ≡ b → value_after 0 (digits_onto k 10 false (n / 10) (digit_glyph false (n % 10) ∷ acc)) ≡ value_after (n / 10 * 10 + (digit_glyph false (n % 10) - 48)) acc → value_after 0 (cond b (digit_glyph false (n % 10) ∷ acc) (digits_onto k 10 false (n / 10) (digit_glyph false (n % 10) ∷ acc))) ≡ value_after n acc
    by true e again = let q : n / 10 ≡ 0 = eqb-true (n / 10) 0 e in let p : 0 + (digit_glyph false (n % 10) - 48) ≡ n = omega (arith, q, last_digit n) in ap (λ m. value_after m acc) p
    by false e again = again ∙ ap (λ m. value_after m acc) (last_digit n)

above_self : (q : ℕ) → q < 10 ^ q
above_self zero = omega (arith, pow-zero 10)
above_self (suc q) = omega (arith, pow-suc 10 q, above_self q)

below_power : (n : ℕ) → n < 10 ^ digit_bound n
below_power n = omega (arith, div-add-mod' n (10 ^ 60), rest, above_self q, split, scaled)
  where
    q : ℕ
    q = n / 10 ^ 60

    rest : n % 10 ^ 60 < 10 ^ 60
    rest = let z : 0 < 10 ^ 60 = omega arith in mod-lt n z

    split : 10 ^ digit_bound n ≡ 10 ^ 64 * 10 ^ q
    split = let z : digit_bound n ≡ 64 + q = omega arith in ap (10 ^◌) z ∙ pow-add 10 64 q

    scaled : (q + 1) * 10 ^ 60 ≤ 10 ^ q * 10 ^ 60
    scaled = let z : q + 1 ≤ 10 ^ q = omega (arith, above_self q) in mul-le-mul_right (10 ^ 60) z

pub numeral-same : (m n : ℕ) → numeral m ≡ numeral n → m ≡ n
numeral-same m n e = sym (value-digits_onto (digit_bound m) m [] (below_power m)) ∙ ap (value_after 0) e ∙ value-digits_onto (digit_bound n) n [] (below_power n)

-- each of them is a digit
abbrev pub AreDigits : List ℕ → Type 0
AreDigits [] = Unit {0}
AreDigits (b ∷ bytes) = IsTrue (is_digit b) × AreDigits bytes

digit_is : (d : ℕ) → d < 10 → IsTrue (is_digit (digit_glyph false d))
digit_is d h = let e = glyph_is d h in both-and _ _ (le-leb 48 (digit_glyph false d) (omega (arith, e))) (le-leb (digit_glyph false d) 57 (omega (arith, e)))

digits-digits_onto : (k n : ℕ) (acc : List ℕ) → AreDigits acc → AreDigits (digits_onto k 10 false n acc)
digits-digits_onto zero n acc h = h
digits-digits_onto (suc k) n acc h = by (nat_eq (n / 10) 0) (digits-digits_onto k (n / 10) (digit_glyph false (n % 10) ∷ acc) (digit_is (n % 10) (rest_small n), h))
  where
    by : (b : Bool) → AreDigits (digits_onto k 10 false (n / 10) (digit_glyph false (n % 10) ∷ acc)) → AreDigits (cond b (digit_glyph false (n % 10) ∷ acc) (digits_onto k 10 false (n / 10) (digit_glyph false (n % 10) ∷ acc)))
    by true again = (digit_is (n % 10) (rest_small n), h)
    by false again = again

pub numeral-digits : (n : ℕ) → AreDigits (numeral n)
numeral-digits n = digits-digits_onto (digit_bound n) n [] tt

-- a numeral begins with a digit
abbrev IsNonempty : List ℕ → Type 0
IsNonempty [] = ⊥
IsNonempty (b ∷ bytes) = Unit {0}

nonempty-digits_onto : (k n b : ℕ) (acc : List ℕ) → IsNonempty (digits_onto k 10 false n (b ∷ acc))
nonempty-digits_onto zero n b acc = tt
nonempty-digits_onto (suc k) n b acc = by (nat_eq (n / 10) 0) (nonempty-digits_onto k (n / 10) (digit_glyph false (n % 10)) (b ∷ acc))
  where
    by : (t : Bool) → IsNonempty (digits_onto k 10 false (n / 10) (digit_glyph false (n % 10) ∷ b ∷ acc)) → IsNonempty (cond t (digit_glyph false (n % 10) ∷ b ∷ acc) (digits_onto k 10 false (n / 10) (digit_glyph false (n % 10) ∷ b ∷ acc)))
    by true again = tt
    by false again = again

numeral-nonempty : (n : ℕ) → IsNonempty (numeral n)
numeral-nonempty n = by (nat_eq (n / 10) 0) (nonempty-digits_onto (63 + n / 10 ^ 60) (n / 10) (digit_glyph false (n % 10)) [])
  where
    by : (t : Bool) → IsNonempty (digits_onto (63 + n / 10 ^ 60) 10 false (n / 10) (digit_glyph false (n % 10) ∷ [])) → IsNonempty (cond t (digit_glyph false (n % 10) ∷ []) (digits_onto (63 + n / 10 ^ 60) 10 false (n / 10) (digit_glyph false (n % 10) ∷ [])))
    by true again = tt
    by false again = again

pub numeral-starts : (n : ℕ) → (b : ℕ) × (bytes : List ℕ) × (numeral n ≡ b ∷ bytes) × IsTrue (is_digit b)
numeral-starts n = by (numeral n) refl (numeral-nonempty n) (numeral-digits n)
  where
    by : (bytes : List ℕ) → numeral n ≡ bytes → IsNonempty bytes → AreDigits bytes → (b : ℕ) × (rest : List ℕ) × (numeral n ≡ b ∷ rest) × IsTrue (is_digit b)
    by [] e s d = absurd s
    by (b ∷ rest) e s d = (b, rest, e, d.0)

-- digits end where something else begins
digits-split : (xs ys r s : List ℕ) → AreDigits xs → AreDigits ys → IsFalse (begins_with_digit r) → IsFalse (begins_with_digit s) → xs ++ r ≡ ys ++ s → (xs ≡ ys) × (r ≡ s)
digits-split [] [] r s d f h k e = (refl, e)
digits-split [] (y ∷ ys) r s d f h k e = absurd (true≢false (sym f.0 ∙ sym (ap begins_with_digit e) ∙ h))
digits-split (x ∷ xs) [] r s d f h k e = absurd (true≢false (sym d.0 ∙ ap begins_with_digit e ∙ k))
digits-split (x ∷ xs) (y ∷ ys) r s d f h k e = let t = digits-split xs ys r s d.1 f.1 h k (cons-tail e) in (ap₂ ◌∷◌ (cons-head e) t.0, t.1)

pub numeral-split : (m n : ℕ) (r s : List ℕ) → IsFalse (begins_with_digit r) → IsFalse (begins_with_digit s) → numeral m ++ r ≡ numeral n ++ s → (m ≡ n) × (r ≡ s)
numeral-split m n r s h k e = let t = digits-split (numeral m) (numeral n) r s (numeral-digits m) (numeral-digits n) h k e in (numeral-same m n t.0, t.1)

minus-not_numeral : {A : Type 0} (n : ℕ) (r s : List ℕ) → numeral n ++ r ≡ 45 ∷ s → A
minus-not_numeral n r s e = let b = numeral-starts n in absurd (true≢false (sym b.3 ∙ ap is_digit (cons-head (sym (ap (◌++ r) b.2) ∙ e))))

pub signed-split : (y z : ℤ) (r s : List ℕ) → IsFalse (begins_with_digit r) → IsFalse (begins_with_digit s) → signed_numeral y ++ r ≡ signed_numeral z ++ s → (y ≡ z) × (r ≡ s)
signed-split (pos m) (pos n) r s h k e = let t = numeral-split m n r s h k e in (ap pos t.0, t.1)
signed-split (pos m) (negsuc n) r s h k e = minus-not_numeral m r (numeral (suc n) ++ s) e
signed-split (negsuc m) (pos n) r s h k e = minus-not_numeral n s (numeral (suc m) ++ r) (sym e)
signed-split (negsuc m) (negsuc n) r s h k e = let t = numeral-split (suc m) (suc n) r s h k (cons-tail e) in (ap negsuc (suc-same m n t.0), t.1)
  where
    suc-same : (i j : ℕ) → suc i ≡ suc j → i ≡ j
    suc-same i j e = omega (arith, e)

-- reading a string's text again, up to its closing quote
abbrev with_front : ℕ → List ℕ × List ℕ → List ℕ × List ℕ
with_front b p = (b ∷ p.0, p.1)

abbrev read_string : List ℕ → Bool → List ℕ × List ℕ
read_string [] behind = ([], [])
read_string (b ∷ bytes) true = with_front (cond (nat_eq b 110) 10 b) (read_string bytes false)
read_string (b ∷ bytes) false = cond (nat_eq b 34) ([], bytes) (cond (nat_eq b 92) (read_string bytes true) (with_front b (read_string bytes false)))

read-escaped : (b : ℕ) (bytes : List ℕ) → read_string (escaped b ++ bytes) false ≡ with_front b (read_string bytes false)
read-escaped b bytes = by (nat_eq b 10) (nat_eq b 34) (nat_eq b 92) refl refl refl
  where
    by : (x y z : Bool) → nat_eq b 10 ≡ x → nat_eq b 34 ≡ y → nat_eq b 92 ≡ z → read_string (cond x (92 ∷ 110 ∷ []) (cond y (92 ∷ 34 ∷ []) (cond z (92 ∷ 92 ∷ []) (b ∷ []))) ++ bytes) false ≡ with_front b (read_string bytes false)
    by true y z e f g = ap (λ c. with_front c (read_string bytes false)) (sym (eqb-true b 10 e))
    by false true z e f g = ap (λ c. with_front c (read_string bytes false)) (sym (eqb-true b 34 f))
    by false false true e f g = ap (λ c. with_front c (read_string bytes false)) (sym (eqb-true b 92 g))
    by false false false e f g = ap₂ (λ y z. cond y ([], bytes) (cond z (read_string bytes true) (with_front b (read_string bytes false)))) f g

read-string : (s r : List ℕ) → read_string (flat_map escaped s ++ 34 ∷ r) false ≡ (s, r)
read-string [] r = refl
read-string (b ∷ s) r = ap (λ t. read_string t false) (append_assoc (escaped b) (flat_map escaped s) (34 ∷ r)) ∙ read-escaped b (flat_map escaped s ++ 34 ∷ r) ∙ ap (with_front b) (read-string s r)

pub string-split : (s t r u : List ℕ) → flat_map escaped s ++ 34 ∷ r ≡ flat_map escaped t ++ 34 ∷ u → (s ≡ t) × (r ≡ u)
string-split s t r u e = let p = sym (read-string s r) ∙ ap (λ x. read_string x false) e ∙ read-string t u in (ap (λ x. x.0) p, ap (λ x. x.1) p)

-- any bound on the number of digits that is great enough gives the same digits
one-digit : (k n : ℕ) (acc : List ℕ) → n < 10 ^ 1 → digits_onto (suc k) 10 false n acc ≡ digit_glyph false (n % 10) ∷ acc
one-digit k n acc h =
    let z : n / 10 < 1 = fewer 0 n h in
    let q : n / 10 ≡ 0 = omega (arith, z) in
    ap (λ b. cond b (digit_glyph false (n % 10) ∷ acc) (digits_onto k 10 false (n / 10) (digit_glyph false (n % 10) ∷ acc))) (eq-eqb (n / 10) 0 q)

same-digits_onto : (j k n : ℕ) (acc : List ℕ) → n < 10 ^ suc j → n < 10 ^ suc k → digits_onto (suc j) 10 false n acc ≡ digits_onto (suc k) 10 false n acc
same-digits_onto zero k n acc h g = one-digit zero n acc h ∙ sym (one-digit k n acc h)
same-digits_onto (suc j) zero n acc h g = one-digit (suc j) n acc g ∙ sym (one-digit zero n acc g)
same-digits_onto (suc j) (suc k) n acc h g = ap (cond (nat_eq (n / 10) 0) (digit_glyph false (n % 10) ∷ acc)) (same-digits_onto j k (n / 10) (digit_glyph false (n % 10) ∷ acc) (fewer (suc j) n h) (fewer (suc k) n g))

pub numeral-decimal : (n : ℕ) → n < 10 ^ 64 → numeral n ≡ decimal n
unfolding digits
numeral-decimal n h = same-digits_onto (63 + n / 10 ^ 60) 63 n [] (below_power n) h

pub signed-decimal : (z : ℤ) → IsTrue (is_integer z) → signed_numeral z ≡ signed_decimal z
signed-decimal (pos n) h = numeral-decimal n (omega (arith, ltb-true n (2 ^ 63) h))
signed-decimal (negsuc n) h = ap (45 ∷◌) (numeral-decimal (suc n) (omega (arith, ltb-true n (2 ^ 63) h)))
