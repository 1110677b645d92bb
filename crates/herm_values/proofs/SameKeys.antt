-- Keys that are ordered alike are the same key.
use Rattle.std.proofs.Common.{◌≡◌, ℕ, ℤ, List, Bool, true, false, ◌&&◌, IsTrue, refl, sym, ap, subst, ◌∙◌, arith}
use Rattle.std.proofs.lemmas.Bool.Decides.{nat_tests}
use Rattle.std.specs.Ordering.{is_eq, nat_cmp, int_cmp, bool_cmp, MatchOrdering}
use Rattle.std.specs.Cmp.{int_ranked, int_cmp_total, unsigned_tied, tied_itself}
use Rattle.std.proofs.lemmas.Cmp.{same_from_slice_cmp}
use Rattle.herm_model.proofs.Equality.{same_integer-is, same_scalar_self}
use Rattle.std.specs.Cmp.Lexicographic.{slice_cmp}
use Rattle.std.specs.declared.cmp.Ordering.{Ordering}
use Rattle.std.specs.declared.cmp.Ordering.TheVariants.{Less, Equal, Greater}
use Rattle.herm_model.specs.Values as model
use Rattle.herm_model.specs.Tables.{same_scalar, same_key, same_integer, same_boolean}
use Rattle.herm_model.specs.Lists.{same_numbers}
use Rattle.herm_values.specs.View.{scalar_view, key_view}
use Rattle.herm_values.specs.declared.scalar.Scalar.{Scalar}
use Rattle.herm_values.specs.declared.scalar.Scalar.TheVariants.{Bool as a_bool, Int, Text, Tag}
use Rattle.herm_values.specs.contracts.scalar.ScalarOrd.TheImpl.{ghosts}

abbrev pub scalar_cmp : Scalar → Scalar → Ordering
scalar_cmp = ghosts.cmp

agree : (o : Ordering) (b : Bool) → (o ≡ Equal → IsTrue b) → (IsTrue b → o ≡ Equal) → is_eq o ≡ b
agree Less true f g = absurd (cc (g refl))
agree Less false f g = refl
agree Equal b f g = sym (f refl)
agree Greater true f g = absurd (cc (g refl))
agree Greater false f g = refl

booleans_same : (x y : Bool) → is_eq (bool_cmp x y) ≡ same_boolean x y
booleans_same true true = refl
booleans_same true false = refl
booleans_same false true = refl
booleans_same false false = refl

integers_same : (x y : ℤ) → is_eq (int_cmp x y) ≡ same_integer x y
integers_same x y =
    agree (int_cmp x y) (same_integer x y)
    (λ e. subst (λ z. IsTrue (same_integer x z)) (int_ranked x y Equal (sym e)) (same_scalar_self (model.an_integer x)))
    (λ h. subst (λ z. int_cmp x z ≡ Equal) (same_integer-is x y h) (tied_itself int_cmp_total x))

pub texts_same : (xs ys : List ℕ) → is_eq (slice_cmp nat_cmp xs ys) ≡ same_numbers xs ys
texts_same xs ys = same_from_slice_cmp nat_cmp is_eq same_numbers refl (λ _ _. refl) (λ _ _. refl) (λ x y xs ys o h. grind (arith, nat_tests)) xs ys (slice_cmp nat_cmp xs ys) refl

scalar_same : (a b : Scalar) → is_eq (scalar_cmp a b) ≡ same_scalar (scalar_view a) (scalar_view b)
scalar_same (a_bool x) (a_bool y) = booleans_same x y
scalar_same (a_bool x) (Int n) = refl
scalar_same (a_bool x) (Text n) = refl
scalar_same (a_bool x) (Tag n) = refl
scalar_same (Int x) (a_bool y) = refl
scalar_same (Int x) (Int y) = integers_same x y
scalar_same (Int x) (Text y) = refl
scalar_same (Int x) (Tag y) = refl
scalar_same (Text x) (a_bool y) = refl
scalar_same (Text x) (Int y) = refl
scalar_same (Text x) (Text y) = texts_same x y
scalar_same (Text x) (Tag y) = refl
scalar_same (Tag x) (a_bool y) = refl
scalar_same (Tag x) (Int y) = refl
scalar_same (Tag x) (Text y) = refl
scalar_same (Tag x) (Tag y) = unsigned_tied x y

head_same : (o : Ordering) (b rest : Bool) → is_eq o ≡ b → MatchOrdering o ((b && rest) ≡ false) ((b && rest) ≡ rest) ((b && rest) ≡ false)
head_same Less b rest e = ap (λ x. x && rest) (sym e)
head_same Equal b rest e = ap (λ x. x && rest) (sym e)
head_same Greater b rest e = ap (λ x. x && rest) (sym e)

-- keys that are equal in their order are the same key
pub keys_same : (as' bs : List Scalar) → is_eq (slice_cmp scalar_cmp as' bs) ≡ same_key (key_view as') (key_view bs)
keys_same as' bs = same_from_slice_cmp scalar_cmp is_eq (λ xs ys. same_key (key_view xs) (key_view ys)) refl (λ _ _. refl) (λ _ _. refl) (λ x y xs ys o h. head_same o (same_scalar (scalar_view x) (scalar_view y)) (same_key (key_view xs) (key_view ys)) (ap is_eq h ∙ scalar_same x y)) as' bs (slice_cmp scalar_cmp as' bs) refl
