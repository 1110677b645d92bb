-- The place of a literal among constants is where it is.
use Rattle.std.proofs.Common.{◌≡◌, suc, List, [], ◌∷◌, Bool, true, false, cond, nat_eq, Some, slice_get, pos, negsuc, inl, inr, IsTrue, refl, sym, ap, ap₂, subst, ◌∙◌, true≢false}
use Rattle.std.proofs.lemmas.Bool.{eq-eqb, eqb-true}
use Rattle.herm_model.specs.Lists.{IsIn}
use Rattle.herm_model.specs.Tables.{same_boolean}
use Rattle.herm_model.specs.Expressions.{Literal, boolean, integer, text, tag}
use Rattle.herm_model.proofs.Lists.{not_true, and-both, both-and}
use Rattle.herm_model.proofs.Equality.{same_numbers-is, same_numbers_self, same_integer-is}
use Rattle.herm_translated.specs.Constants.{same_literal, place_of}

same_boolean-is : (a b : Bool) → IsTrue (same_boolean a b) → a ≡ b
same_boolean-is true b h = sym h
same_boolean-is false true h = not_true h
same_boolean-is false false h = refl

pub same_literal-is : (l k : Literal) → IsTrue (same_literal l k) → l ≡ k
same_literal-is (boolean a) (boolean b) h = ap boolean (same_boolean-is a b h)
same_literal-is (integer y) (integer z) h = ap integer (same_integer-is y z h)
same_literal-is (text s) (text t) h = ap text (same_numbers-is s t h)
same_literal-is (tag t i) (tag u j) h = let both = and-both (nat_eq t u) _ h in ap₂ tag (eqb-true t u both.0) (eqb-true i j both.1)
same_literal-is l k h = not_true h

pub same_literal_self : (l : Literal) → IsTrue (same_literal l l)
same_literal_self (boolean true) = refl
same_literal_self (boolean false) = refl
same_literal_self (integer (pos n)) = eq-eqb n n refl
same_literal_self (integer (negsuc n)) = eq-eqb n n refl
same_literal_self (text s) = same_numbers_self s
same_literal_self (tag t i) = both-and (nat_eq t t) _ (eq-eqb t t refl) (eq-eqb i i refl)

pub constant-found : (constants : List Literal) (l : Literal) → IsIn l constants → slice_get constants (place_of constants l) ≡ Some l
constant-found [] l m = absurd m
constant-found (k ∷ constants) l m = by (same_literal k l) refl m (constant-found constants l)
  where
    by : (b : Bool) → same_literal k l ≡ b → IsIn l (k ∷ constants) → (IsIn l constants → slice_get constants (place_of constants l) ≡ Some l) → slice_get (k ∷ constants) (cond b 0 (suc (place_of constants l))) ≡ Some l
    by true e m again = ap Some (same_literal-is k l e)
    by false e (inl same) again = absurd (true≢false (sym (subst (λ x. same_literal x l ≡ true) same (same_literal_self l)) ∙ e))
    by false e (inr m) again = again m
