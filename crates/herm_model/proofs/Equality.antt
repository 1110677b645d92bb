-- The tests of equality hold exactly where the two are equal.
use Rattle.std.proofs.Common.{◌≡◌, ℕ, List, [], ◌∷◌, Bool, true, false, nat_eq, IsTrue, ℤ, pos, negsuc, refl, sym, ap, ap₂, subst}
use Rattle.std.proofs.lemmas.Bool.{eq-eqb, eqb-true}
use Rattle.herm_model.specs.Lists.{same_numbers}
use Rattle.herm_model.specs.Paths.{Fact, init, case, same_path, same_fact}
use Rattle.herm_model.specs.Values.{Scalar, a_boolean, an_integer, a_text, a_tag}
use Rattle.herm_model.specs.Tables.{same_boolean, same_integer, same_scalar, same_key}
use Rattle.herm_model.proofs.Lists.{not_true, and-both, both-and}

pub same_numbers-is : (a b : List ℕ) → IsTrue (same_numbers a b) → a ≡ b
same_numbers-is [] [] h = refl
same_numbers-is [] (y ∷ b) h = not_true h
same_numbers-is (x ∷ a) [] h = not_true h
same_numbers-is (x ∷ a) (y ∷ b) h = let both = and-both (nat_eq x y) _ h in ap₂ ◌∷◌ (eqb-true x y both.0) (same_numbers-is a b both.1)

pub same_numbers_self : (a : List ℕ) → IsTrue (same_numbers a a)
same_numbers_self [] = refl
same_numbers_self (x ∷ a) = both-and (nat_eq x x) _ (eq-eqb x x refl) (same_numbers_self a)

pub same_fact-is : (f g : Fact) → IsTrue (same_fact f g) → f ≡ g
same_fact-is (init p) (init q) h = ap init (same_numbers-is p q h)
same_fact-is (init p) (case q d) h = not_true h
same_fact-is (case p c) (init q) h = not_true h
same_fact-is (case p c) (case q d) h = let both = and-both (same_path p q) _ h in ap₂ case (same_numbers-is p q both.0) (eqb-true c d both.1)

pub same_fact_self : (f : Fact) → IsTrue (same_fact f f)
same_fact_self (init p) = same_numbers_self p
same_fact_self (case p c) = both-and (same_path p p) _ (same_numbers_self p) (eq-eqb c c refl)

pub same_integer-is : (y z : ℤ) → IsTrue (same_integer y z) → y ≡ z
same_integer-is (pos m) (pos n) h = ap pos (eqb-true m n h)
same_integer-is (pos m) (negsuc n) h = not_true h
same_integer-is (negsuc m) (pos n) h = not_true h
same_integer-is (negsuc m) (negsuc n) h = ap negsuc (eqb-true m n h)

same_boolean-is : (a b : Bool) → IsTrue (same_boolean a b) → a ≡ b
same_boolean-is true b h = sym h
same_boolean-is false true h = not_true h
same_boolean-is false false h = refl

pub same_scalar-is : (a b : Scalar) → IsTrue (same_scalar a b) → a ≡ b
same_scalar-is (a_boolean a) (a_boolean b) h = ap a_boolean (same_boolean-is a b h)
same_scalar-is (an_integer y) (an_integer z) h = ap an_integer (same_integer-is y z h)
same_scalar-is (a_text s) (a_text t) h = ap a_text (same_numbers-is s t h)
same_scalar-is (a_tag i) (a_tag j) h = ap a_tag (eqb-true i j h)
same_scalar-is a b h = not_true h

pub same_scalar_self : (a : Scalar) → IsTrue (same_scalar a a)
same_scalar_self (a_boolean true) = refl
same_scalar_self (a_boolean false) = refl
same_scalar_self (an_integer (pos n)) = eq-eqb n n refl
same_scalar_self (an_integer (negsuc n)) = eq-eqb n n refl
same_scalar_self (a_text s) = same_numbers_self s
same_scalar_self (a_tag i) = eq-eqb i i refl

pub same_key-is : (a b : List Scalar) → IsTrue (same_key a b) → a ≡ b
same_key-is [] [] h = refl
same_key-is [] (y ∷ b) h = not_true h
same_key-is (x ∷ a) [] h = not_true h
same_key-is (x ∷ a) (y ∷ b) h = let both = and-both (same_scalar x y) _ h in ap₂ ◌∷◌ (same_scalar-is x y both.0) (same_key-is a b both.1)

pub same_key_self : (a : List Scalar) → IsTrue (same_key a a)
same_key_self [] = refl
same_key_self (x ∷ a) = both-and (same_scalar x x) _ (same_scalar_self x) (same_key_self a)

-- a test holds exactly where the two are equal
pub decides : {X : Type 0} (test : X → X → Bool) → ((a b : X) → IsTrue (test a b) → a ≡ b) → ((a : X) → IsTrue (test a a)) → (a b : X) → (IsTrue (test a b) → a ≡ b) × (a ≡ b → IsTrue (test a b))
decides test is self a b = (is a b, λ e. subst (λ x. IsTrue (test a x)) e (self a))
