-- Operators by the scalars that their operands are.
use Rattle.std.proofs.Common.{◌≡◌, ℕ, ℤ, pos, negsuc, List, [], ◌∷◌, Bool, not, ◌&&◌, ◌||◌, Option, Some, None, refl, sym, ap, ap₂, ◌∙◌, arith}
use Rattle.std.proofs.lemmas.Bool.Decides.{nat_tests}
use Rattle.std.proofs.lemmas.Cmp.{same_from_slice_cmp}
use Rattle.std.specs.Prelude.{int_lt, int_le, int_div, int_rem, ◌+ℤ◌, ◌-ℤ◌, ◌*ℤ◌, neg_ℤ, ◌++◌, length, option_map, nat_eq, bytes_eq}
use Rattle.std.specs.Ordering.{is_lt, is_gt, is_le, is_ge, nat_cmp, int_cmp}
use Rattle.std.specs.Cmp.Lexicographic.{slice_cmp}
use Rattle.std.specs.declared.cmp.Ordering.{Ordering}
use Rattle.std.specs.declared.cmp.Ordering.TheVariants.{Less, Equal, Greater}
use Rattle.herm_model.specs.Values.{Scalar, a_boolean, an_integer, a_text, a_tag, a_scalar, a_record, a_variant, a_table, a_polymorph, a_callmessage, an_inport, an_outport, cell, Value}
use Rattle.herm_model.specs.Lists.{same_numbers}
use Rattle.herm_model.specs.Tables.{same_scalar}
use Rattle.herm_forms.specs.Evaluate.{Evaluated, gives, no_value, scalar_then, one_then, two_then, boolean_then, integer_then, text_then, gives_boolean, gives_scalar, on_booleans, on_integers, on_texts, compared, is_before, within_bits, within_length, by_divisor, operate}
use Rattle.herm_model.specs.Expressions.{logical_or, logical_and, equal, unequal, less, at_most, greater, at_least, plus, minus, times, divided, modulo, concatenated}
use Rattle.herm_model.specs.ValueTexts.{signed_numeral}
use Rattle.herm_instructions.specs.Instructions.{negative, complement, as_text, text_length}
use Rattle.herm_code_machine.specs.Effects.{applied}
use Rattle.herm_stack.specs.Operands.{scalar_in, boolean_in, integer_in, text_in, both_of, given_both, given_one, tested, sameness, ordering}

-- on with a scalar, and no value without it
abbrev on_scalar : (Scalar → Evaluated) → Option Scalar → Evaluated
on_scalar f None = no_value
on_scalar f (Some s) = f s

abbrev on_two : (Scalar → Scalar → Evaluated) → Option Scalar → Option Scalar → Evaluated
on_two f None y = no_value
on_two f (Some x) y = on_scalar (f x) y

on_scalar_is : (f : Scalar → Evaluated) (v : Value) → scalar_then f v ≡ on_scalar f (scalar_in v)
on_scalar_is f (cell n (a_scalar s) ps) = refl
on_scalar_is f (cell n a_record ps) = refl
on_scalar_is f (cell n (a_variant c) ps) = refl
on_scalar_is f (cell n a_table ps) = refl
on_scalar_is f (cell n (a_polymorph t) ps) = refl
on_scalar_is f (cell n (a_callmessage caller call) ps) = refl
on_scalar_is f (cell n (an_inport port) ps) = refl
on_scalar_is f (cell n (an_outport port) ps) = refl

one_is : (f : Scalar → Scalar → Evaluated) (o : Option Scalar) (r : Value) → on_scalar (λ s. one_then (f s) (gives r)) o ≡ on_two f o (scalar_in r)
one_is f None r = refl
one_is f (Some s) r = on_scalar_is (f s) r

-- an operator looks at the scalars of its operands alone
two_is : (f : Scalar → Scalar → Evaluated) (l r : Value) → two_then f (gives l) (gives r) ≡ on_two f (scalar_in l) (scalar_in r)
two_is f l r = on_scalar_is (λ s. one_then (f s) (gives r)) l ∙ one_is f (scalar_in l) r

booleans_is : (f : Bool → Bool → Bool) (x y : Option Scalar) → on_two (on_booleans f) x y ≡ given_both (λ a b. gives_boolean (f a b)) (both_of (boolean_in x) (boolean_in y))
booleans_is f None y = refl
booleans_is f (Some (a_boolean b)) None = refl
booleans_is f (Some (a_boolean b)) (Some (a_boolean c)) = refl
booleans_is f (Some (a_boolean b)) (Some (an_integer z)) = refl
booleans_is f (Some (a_boolean b)) (Some (a_text t)) = refl
booleans_is f (Some (a_boolean b)) (Some (a_tag i)) = refl
booleans_is f (Some (an_integer z)) None = refl
booleans_is f (Some (an_integer z)) (Some s) = refl
booleans_is f (Some (a_text t)) None = refl
booleans_is f (Some (a_text t)) (Some s) = refl
booleans_is f (Some (a_tag i)) None = refl
booleans_is f (Some (a_tag i)) (Some s) = refl

integers_is : (f : ℤ → ℤ → Evaluated) (x y : Option Scalar) → on_two (on_integers f) x y ≡ given_both f (both_of (integer_in x) (integer_in y))
integers_is f None y = refl
integers_is f (Some (an_integer z)) None = refl
integers_is f (Some (an_integer z)) (Some (a_boolean c)) = refl
integers_is f (Some (an_integer z)) (Some (an_integer w)) = refl
integers_is f (Some (an_integer z)) (Some (a_text t)) = refl
integers_is f (Some (an_integer z)) (Some (a_tag i)) = refl
integers_is f (Some (a_boolean z)) None = refl
integers_is f (Some (a_boolean z)) (Some s) = refl
integers_is f (Some (a_text t)) None = refl
integers_is f (Some (a_text t)) (Some s) = refl
integers_is f (Some (a_tag i)) None = refl
integers_is f (Some (a_tag i)) (Some s) = refl

texts_is : (f : List ℕ → List ℕ → Evaluated) (x y : Option Scalar) → on_two (on_texts f) x y ≡ given_both f (both_of (text_in x) (text_in y))
texts_is f None y = refl
texts_is f (Some (a_text z)) None = refl
texts_is f (Some (a_text z)) (Some (a_boolean c)) = refl
texts_is f (Some (a_text z)) (Some (an_integer w)) = refl
texts_is f (Some (a_text z)) (Some (a_text t)) = refl
texts_is f (Some (a_text z)) (Some (a_tag i)) = refl
texts_is f (Some (a_boolean z)) None = refl
texts_is f (Some (a_boolean z)) (Some s) = refl
texts_is f (Some (an_integer t)) None = refl
texts_is f (Some (an_integer t)) (Some s) = refl
texts_is f (Some (a_tag i)) None = refl
texts_is f (Some (a_tag i)) (Some s) = refl

-- operators on booleans, on integers and on strings
on_booleans_is : (f : Bool → Bool → Bool) (l r : Value) → two_then (on_booleans f) (gives l) (gives r) ≡ given_both (λ a b. gives_boolean (f a b)) (both_of (boolean_in (scalar_in l)) (boolean_in (scalar_in r)))
on_booleans_is f l r = two_is (on_booleans f) l r ∙ booleans_is f (scalar_in l) (scalar_in r)

on_integers_is : (f : ℤ → ℤ → Evaluated) (l r : Value) → two_then (on_integers f) (gives l) (gives r) ≡ given_both f (both_of (integer_in (scalar_in l)) (integer_in (scalar_in r)))
on_integers_is f l r = two_is (on_integers f) l r ∙ integers_is f (scalar_in l) (scalar_in r)

pub on_texts_is : (f : List ℕ → List ℕ → Evaluated) (l r : Value) → two_then (on_texts f) (gives l) (gives r) ≡ given_both f (both_of (text_in (scalar_in l)) (text_in (scalar_in r)))
on_texts_is f l r = two_is (on_texts f) l r ∙ texts_is f (scalar_in l) (scalar_in r)

-- equality
same_is : (test : Bool → Bool) (x y : Option Scalar) → on_two (λ a b. gives_boolean (test (same_scalar a b))) x y ≡ tested (option_map test (sameness x y))
same_is test None y = refl
same_is test (Some x) None = refl
same_is test (Some x) (Some y) = refl

same_given : (test : Bool → Bool) (l r : Value) → two_then (λ a b. gives_boolean (test (same_scalar a b))) (gives l) (gives r) ≡ tested (option_map test (sameness (scalar_in l) (scalar_in r)))
same_given test l r = two_is (λ a b. gives_boolean (test (same_scalar a b))) l r ∙ same_is test (scalar_in l) (scalar_in r)

-- an order of integers and one of strings that a test of their ordering tells
ordered_is : (f : ℤ → ℤ → Bool) (g : List ℕ → List ℕ → Bool) (test : Ordering → Bool) → ((y z : ℤ) → f y z ≡ test (int_cmp y z)) → ((s t : List ℕ) → g s t ≡ test (slice_cmp nat_cmp s t)) → (x y : Option Scalar) → on_two (compared f g) x y ≡ tested (option_map test (ordering x y))
ordered_is f g test i t None y = refl
ordered_is f g test i t (Some (a_boolean b)) None = refl
ordered_is f g test i t (Some (a_boolean b)) (Some s) = refl
ordered_is f g test i t (Some (an_integer z)) None = refl
ordered_is f g test i t (Some (an_integer z)) (Some (a_boolean b)) = refl
ordered_is f g test i t (Some (an_integer z)) (Some (an_integer w)) = ap gives_boolean (i z w)
ordered_is f g test i t (Some (an_integer z)) (Some (a_text u)) = refl
ordered_is f g test i t (Some (an_integer z)) (Some (a_tag j)) = refl
ordered_is f g test i t (Some (a_text s)) None = refl
ordered_is f g test i t (Some (a_text s)) (Some (a_boolean b)) = refl
ordered_is f g test i t (Some (a_text s)) (Some (an_integer w)) = refl
ordered_is f g test i t (Some (a_text s)) (Some (a_text u)) = ap gives_boolean (t s u)
ordered_is f g test i t (Some (a_text s)) (Some (a_tag j)) = refl
ordered_is f g test i t (Some (a_tag j)) None = refl
ordered_is f g test i t (Some (a_tag j)) (Some s) = refl

before_is : (s t : List ℕ) → is_lt (slice_cmp nat_cmp s t) ≡ is_before s t
before_is s t = same_from_slice_cmp nat_cmp is_lt is_before refl (λ _ _. refl) (λ _ _. refl) (λ x y xs ys o h. grind (arith, nat_tests)) s t (slice_cmp nat_cmp s t) refl

behind_is : (s t : List ℕ) → is_gt (slice_cmp nat_cmp s t) ≡ is_before t s
behind_is s t = same_from_slice_cmp nat_cmp is_gt (λ s t. is_before t s) refl (λ _ _. refl) (λ _ _. refl) (λ x y xs ys o h. grind (arith, nat_tests)) s t (slice_cmp nat_cmp s t) refl

integers_lt : (y z : ℤ) → int_lt y z ≡ is_lt (int_cmp y z)
integers_lt (pos a) (pos b) = grind (arith, nat_tests)
integers_lt (pos a) (negsuc b) = refl
integers_lt (negsuc a) (pos b) = refl
integers_lt (negsuc a) (negsuc b) = grind (arith, nat_tests)

integers_le : (y z : ℤ) → int_le y z ≡ is_le (int_cmp y z)
integers_le (pos a) (pos b) = grind (arith, nat_tests)
integers_le (pos a) (negsuc b) = refl
integers_le (negsuc a) (pos b) = refl
integers_le (negsuc a) (negsuc b) = grind (arith, nat_tests)

integers_gt : (y z : ℤ) → int_lt z y ≡ is_gt (int_cmp y z)
integers_gt (pos a) (pos b) = grind (arith, nat_tests)
integers_gt (pos a) (negsuc b) = refl
integers_gt (negsuc a) (pos b) = refl
integers_gt (negsuc a) (negsuc b) = grind (arith, nat_tests)

integers_ge : (y z : ℤ) → int_le z y ≡ is_ge (int_cmp y z)
integers_ge (pos a) (pos b) = grind (arith, nat_tests)
integers_ge (pos a) (negsuc b) = refl
integers_ge (negsuc a) (pos b) = refl
integers_ge (negsuc a) (negsuc b) = grind (arith, nat_tests)

lt_or_not : (o : Ordering) → is_ge o ≡ not (is_lt o)
lt_or_not Less = refl
lt_or_not Equal = refl
lt_or_not Greater = refl

gt_or_not : (o : Ordering) → is_le o ≡ not (is_gt o)
gt_or_not Less = refl
gt_or_not Equal = refl
gt_or_not Greater = refl

pub less_given : (l r : Value) → two_then (operate less) (gives l) (gives r) ≡ tested (option_map is_lt (ordering (scalar_in l) (scalar_in r)))
less_given l r = two_is (operate less) l r ∙ ordered_is int_lt is_before is_lt integers_lt (λ s t. sym (before_is s t)) (scalar_in l) (scalar_in r)

pub at_most_given : (l r : Value) → two_then (operate at_most) (gives l) (gives r) ≡ tested (option_map is_le (ordering (scalar_in l) (scalar_in r)))
at_most_given l r =
    two_is (operate at_most) l r
    ∙ ordered_is int_le (λ s t. not (is_before t s)) is_le integers_le (λ s t. ap not (sym (behind_is s t)) ∙ sym (gt_or_not (slice_cmp nat_cmp s t))) (scalar_in l) (scalar_in r)

pub greater_given : (l r : Value) → two_then (operate greater) (gives l) (gives r) ≡ tested (option_map is_gt (ordering (scalar_in l) (scalar_in r)))
greater_given l r = two_is (operate greater) l r ∙ ordered_is (λ y z. int_lt z y) (λ s t. is_before t s) is_gt integers_gt (λ s t. sym (behind_is s t)) (scalar_in l) (scalar_in r)

pub at_least_given : (l r : Value) → two_then (operate at_least) (gives l) (gives r) ≡ tested (option_map is_ge (ordering (scalar_in l) (scalar_in r)))
at_least_given l r =
    two_is (operate at_least) l r
    ∙ ordered_is (λ y z. int_le z y) (λ s t. not (is_before s t)) is_ge integers_ge (λ s t. ap not (sym (before_is s t)) ∙ sym (lt_or_not (slice_cmp nat_cmp s t))) (scalar_in l) (scalar_in r)

pub or_given : (l r : Value) → two_then (operate logical_or) (gives l) (gives r) ≡ given_both (λ a b. gives_boolean (a || b)) (both_of (boolean_in (scalar_in l)) (boolean_in (scalar_in r)))
or_given l r = on_booleans_is (λ a b. a || b) l r

pub and_given : (l r : Value) → two_then (operate logical_and) (gives l) (gives r) ≡ given_both (λ a b. gives_boolean (a && b)) (both_of (boolean_in (scalar_in l)) (boolean_in (scalar_in r)))
and_given l r = on_booleans_is (λ a b. a && b) l r

pub equal_given : (l r : Value) → two_then (operate equal) (gives l) (gives r) ≡ tested (sameness (scalar_in l) (scalar_in r))
equal_given l r = same_given (λ b. b) l r ∙ ap tested (mapped_self (sameness (scalar_in l) (scalar_in r)))
  where
    mapped_self : (o : Option Bool) → option_map (λ b. b) o ≡ o
    mapped_self None = refl
    mapped_self (Some b) = refl

pub unequal_given : (l r : Value) → two_then (operate unequal) (gives l) (gives r) ≡ tested (option_map not (sameness (scalar_in l) (scalar_in r)))
unequal_given l r = same_given not l r

pub plus_given : (l r : Value) → two_then (operate plus) (gives l) (gives r) ≡ given_both (λ y z. within_bits (y +ℤ z)) (both_of (integer_in (scalar_in l)) (integer_in (scalar_in r)))
plus_given l r = on_integers_is (λ y z. within_bits (y +ℤ z)) l r

pub minus_given : (l r : Value) → two_then (operate minus) (gives l) (gives r) ≡ given_both (λ y z. within_bits (y -ℤ z)) (both_of (integer_in (scalar_in l)) (integer_in (scalar_in r)))
minus_given l r = on_integers_is (λ y z. within_bits (y -ℤ z)) l r

pub times_given : (l r : Value) → two_then (operate times) (gives l) (gives r) ≡ given_both (λ y z. within_bits (y *ℤ z)) (both_of (integer_in (scalar_in l)) (integer_in (scalar_in r)))
times_given l r = on_integers_is (λ y z. within_bits (y *ℤ z)) l r

pub divided_given : (l r : Value) → two_then (operate divided) (gives l) (gives r) ≡ given_both (by_divisor int_div) (both_of (integer_in (scalar_in l)) (integer_in (scalar_in r)))
divided_given l r = on_integers_is (by_divisor int_div) l r

pub modulo_given : (l r : Value) → two_then (operate modulo) (gives l) (gives r) ≡ given_both (by_divisor int_rem) (both_of (integer_in (scalar_in l)) (integer_in (scalar_in r)))
modulo_given l r = on_integers_is (by_divisor int_rem) l r

one_integer : (f : ℤ → Evaluated) (o : Option Scalar) → on_scalar (integer_then f) o ≡ given_one f (integer_in o)
one_integer f None = refl
one_integer f (Some (a_boolean b)) = refl
one_integer f (Some (an_integer z)) = refl
one_integer f (Some (a_text t)) = refl
one_integer f (Some (a_tag i)) = refl

one_boolean : (f : Bool → Evaluated) (o : Option Scalar) → on_scalar (boolean_then f) o ≡ given_one f (boolean_in o)
one_boolean f None = refl
one_boolean f (Some (a_boolean b)) = refl
one_boolean f (Some (an_integer z)) = refl
one_boolean f (Some (a_text t)) = refl
one_boolean f (Some (a_tag i)) = refl

one_text : (f : List ℕ → Evaluated) (o : Option Scalar) → on_scalar (text_then f) o ≡ given_one f (text_in o)
one_text f None = refl
one_text f (Some (a_boolean b)) = refl
one_text f (Some (an_integer z)) = refl
one_text f (Some (a_text t)) = refl
one_text f (Some (a_tag i)) = refl

pub negative_given : (v : Value) → scalar_then (applied negative) v ≡ given_one (λ z. within_bits (neg_ℤ z)) (integer_in (scalar_in v))
negative_given v = on_scalar_is (applied negative) v ∙ one_integer (λ z. within_bits (neg_ℤ z)) (scalar_in v)

pub complement_given : (v : Value) → scalar_then (applied complement) v ≡ given_one (λ b. gives_boolean (not b)) (boolean_in (scalar_in v))
complement_given v = on_scalar_is (applied complement) v ∙ one_boolean (λ b. gives_boolean (not b)) (scalar_in v)

pub as_text_given : (v : Value) → scalar_then (applied as_text) v ≡ given_one (λ z. gives_scalar (a_text (signed_numeral z))) (integer_in (scalar_in v))
as_text_given v = on_scalar_is (applied as_text) v ∙ one_integer (λ z. gives_scalar (a_text (signed_numeral z))) (scalar_in v)

pub text_length_given : (v : Value) → scalar_then (applied text_length) v ≡ given_one (λ bytes. gives_scalar (an_integer (pos (length bytes)))) (text_in (scalar_in v))
text_length_given v = on_scalar_is (applied text_length) v ∙ one_text (λ bytes. gives_scalar (an_integer (pos (length bytes)))) (scalar_in v)

pub concatenated_given : (l r : Value) → two_then (operate concatenated) (gives l) (gives r) ≡ given_both (λ s t. within_length (s ++ t)) (both_of (text_in (scalar_in l)) (text_in (scalar_in r)))
concatenated_given l r = on_texts_is (λ s t. within_length (s ++ t)) l r

bytes_same : (xs ys : List ℕ) → bytes_eq xs ys ≡ same_numbers xs ys
bytes_same [] [] = refl
bytes_same [] (y ∷ ys) = refl
bytes_same (x ∷ xs) [] = refl
bytes_same (x ∷ xs) (y ∷ ys) = ap (λ b. nat_eq x y && b) (bytes_same xs ys)

text_only : (o : Option Scalar) (t : List ℕ) → Some t ≡ text_in o → o ≡ Some (a_text t)
text_only None t h = absurd (cc)
text_only (Some (a_boolean b)) t h = absurd (cc)
text_only (Some (an_integer z)) t h = absurd (cc)
text_only (Some (a_text s)) t h = ap (λ o. some_text o) (sym h)
  where
    some_text : Option (List ℕ) → Option Scalar
    some_text None = None
    some_text (Some s) = Some (a_text s)
text_only (Some (a_tag i)) t h = absurd (cc)

-- strings are equal where their bytes are
pub text_sameness : (l r : Value) (s t a b : List ℕ) (same : Bool) → scalar_in l ≡ Some (a_text s) → Some t ≡ text_in (scalar_in r) → a ≡ s → b ≡ t → same ≡ bytes_eq a b → Some same ≡ sameness (scalar_in l) (scalar_in r)
text_sameness l r s t a b same left right first second is =
    ap Some (is ∙ ap₂ bytes_eq first second ∙ bytes_same s t) ∙ sym (ap₂ sameness left (text_only (scalar_in r) t right))
