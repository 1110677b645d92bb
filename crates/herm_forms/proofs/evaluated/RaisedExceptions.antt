-- An evaluation raises only exceptions that the expression can raise.
use Rattle.std.proofs.Common.{◌≡◌, inl, inr, ◌⊎◌, ℕ, ℤ, pos, List, [], ◌∷◌, ◌++◌, length, Bool, true, false, cond, ◌||◌, nat_le, Option, Some, None, refl, sym, subst}
use Rattle.std.specs.Prelude.{IsTrue, ⊤, not, ◌+ℤ◌, ◌-ℤ◌, ◌*ℤ◌, neg_ℤ, int_div, int_rem}
use Rattle.herm_model.specs.Lists.{IsIn}
use Rattle.herm_model.specs.Expressions.{Operator, logical_or, logical_and, equal, unequal, less, at_most, greater, at_least, plus, minus, times, divided, modulo, concatenated, Expression, literal, copy, negation, logical_not, operation, size_of, decimal, length_of, is_arithmetic, is_joining, can_overflow, can_deplete}
use Rattle.herm_model.specs.Outcomes.{overflow, depletion, raised_by}
use Rattle.herm_model.specs.ValueTexts.{signed_numeral}
use Rattle.herm_model.specs.Tables.{same_integer}
use Rattle.herm_model.specs.Typed.{is_integer, greatest_text}
use Rattle.herm_model.specs.Values.{Scalar, a_boolean, an_integer, a_text, a_tag, a_scalar, a_record, a_variant, a_table, a_polymorph, a_callmessage, an_inport, an_outport, Cell, cell, Parts, read_at, Value}
use Rattle.herm_model.proofs.Lists.{not_true, in-append_left, in-append_right, or-left, or-right}
use Rattle.herm_forms.specs.Frames.{Name}
use Rattle.herm_forms.specs.Evaluate.{Evaluated, gives, raises, no_value, gives_scalar, gives_boolean, scalar_then, one_then, two_then, boolean_then, integer_then, text_then, within_bits, by_divisor, within_length, compared, on_booleans, on_integers, on_texts, operate, value_there, rows_there, evaluate}
use Rattle.herm_forms.specs.laws.ExpressionLaws.{RaisesItsExceptions}

-- it raises Overflow where the first test holds, Depletion where the second does, and nothing else
abbrev Raises : Bool → Bool → Evaluated → Type 0
Raises o d (gives value) = ⊤
Raises o d (raises exception) = ((exception ≡ overflow) × IsTrue o) ⊎ ((exception ≡ depletion) × IsTrue d)
Raises o d no_value = ⊤

raises-more : (o o' d d' : Bool) (x : Evaluated) → (IsTrue o → IsTrue o') → (IsTrue d → IsTrue d') → Raises o d x → Raises o' d' x
raises-more o o' d d' (gives value) f g h = tt
raises-more o o' d d' (raises exception) f g (inl h) = inl (h.0, f h.1)
raises-more o o' d d' (raises exception) f g (inr h) = inr (h.0, g h.1)
raises-more o o' d d' no_value f g h = tt

module _ (o d : Bool) where
  on-scalar : (f : Scalar → Evaluated) (v : Value) → ((y : Scalar) → Raises o d (f y)) → Raises o d (scalar_then f v)
  on-scalar f (cell n (a_scalar s) ps) h = h s
  on-scalar f (cell n a_record ps) h = tt
  on-scalar f (cell n (a_variant x) ps) h = tt
  on-scalar f (cell n a_table ps) h = tt
  on-scalar f (cell n (a_polymorph x) ps) h = tt
  on-scalar f (cell n (a_callmessage x y) ps) h = tt
  on-scalar f (cell n (an_inport x) ps) h = tt
  on-scalar f (cell n (an_outport x) ps) h = tt

  on-one : (f : Scalar → Evaluated) (x : Evaluated) → ((y : Scalar) → Raises o d (f y)) → Raises o d x → Raises o d (one_then f x)
  on-one f (gives v) h k = on-scalar f v h
  on-one f (raises exception) h k = k
  on-one f no_value h k = tt

  on-two : (f : Scalar → Scalar → Evaluated) (x y : Evaluated) → ((a b : Scalar) → Raises o d (f a b)) → Raises o d x → Raises o d y → Raises o d (two_then f x y)
  on-two f (gives v) y h k l = on-scalar (λ s. one_then (f s) y) v (λ a. on-one (f a) y (h a) l)
  on-two f (raises exception) y h k l = k
  on-two f no_value y h k l = tt

  on-boolean : (f : Bool → Evaluated) (s : Scalar) → ((b : Bool) → Raises o d (f b)) → Raises o d (boolean_then f s)
  on-boolean f (a_boolean b) h = h b
  on-boolean f (an_integer z) h = tt
  on-boolean f (a_text bytes) h = tt
  on-boolean f (a_tag i) h = tt

  on-integer : (f : ℤ → Evaluated) (s : Scalar) → ((z : ℤ) → Raises o d (f z)) → Raises o d (integer_then f s)
  on-integer f (a_boolean b) h = tt
  on-integer f (an_integer z) h = h z
  on-integer f (a_text bytes) h = tt
  on-integer f (a_tag i) h = tt

  on-text : (f : List ℕ → Evaluated) (s : Scalar) → ((bytes : List ℕ) → Raises o d (f bytes)) → Raises o d (text_then f s)
  on-text f (a_boolean b) h = tt
  on-text f (an_integer z) h = tt
  on-text f (a_text bytes) h = h bytes
  on-text f (a_tag i) h = tt

  two-booleans : (f : Bool → Bool → Bool) (x y : Scalar) → Raises o d (on_booleans f x y)
  two-booleans f x y = on-boolean (λ a. boolean_then (λ b. gives_boolean (f a b)) y) x (λ a. on-boolean (λ b. gives_boolean (f a b)) y (λ b. tt))

  two-integers : (f : ℤ → ℤ → Evaluated) (x y : Scalar) → ((a b : ℤ) → Raises o d (f a b)) → Raises o d (on_integers f x y)
  two-integers f x y h = on-integer (λ a. integer_then (f a) y) x (λ a. on-integer (f a) y (h a))

  two-texts : (f : List ℕ → List ℕ → Evaluated) (x y : Scalar) → ((a b : List ℕ) → Raises o d (f a b)) → Raises o d (on_texts f x y)
  two-texts f x y h = on-text (λ a. text_then (f a) y) x (λ a. on-text (f a) y (h a))

  two-ordered : (f : ℤ → ℤ → Bool) (g : List ℕ → List ℕ → Bool) (x y : Scalar) → Raises o d (compared f g x y)
  two-ordered f g (an_integer a) y = on-integer (λ b. gives_boolean (f a b)) y (λ b. tt)
  two-ordered f g (a_text s) y = on-text (λ t. gives_boolean (g s t)) y (λ b. tt)
  two-ordered f g (a_boolean a) y = tt
  two-ordered f g (a_tag i) y = tt

bits-raise : (d : Bool) (z : ℤ) → Raises true d (within_bits z)
bits-raise d z = by (is_integer z)
  where
    by : (b : Bool) → Raises true d (cond b (gives_scalar (an_integer z)) (raises overflow))
    by true = tt
    by false = inl (refl, refl)

quotient-raises : (d : Bool) (f : ℤ → ℤ → ℤ) (y z : ℤ) → Raises true d (by_divisor f y z)
quotient-raises d f y z = by (same_integer z (pos 0))
  where
    by : (b : Bool) → Raises true d (cond b (raises overflow) (within_bits (f y z)))
    by true = inl (refl, refl)
    by false = bits-raise d (f y z)

length-raises : (o : Bool) (bytes : List ℕ) → Raises o true (within_length bytes)
length-raises o bytes = by (nat_le (length bytes) greatest_text)
  where
    by : (b : Bool) → Raises o true (cond b (gives_scalar (a_text bytes)) (raises depletion))
    by true = tt
    by false = inr (refl, refl)

operator-raises : (o : Operator) (x y : Scalar) → Raises (is_arithmetic o) (is_joining o) (operate o x y)
operator-raises logical_or x y = two-booleans false false ◌||◌ x y
operator-raises logical_and x y = two-booleans false false _ x y
operator-raises equal x y = tt
operator-raises unequal x y = tt
operator-raises less x y = two-ordered false false _ _ x y
operator-raises at_most x y = two-ordered false false _ _ x y
operator-raises greater x y = two-ordered false false _ _ x y
operator-raises at_least x y = two-ordered false false _ _ x y
operator-raises plus x y = two-integers true false (λ a b. within_bits (a +ℤ b)) x y (λ a b. bits-raise false (a +ℤ b))
operator-raises minus x y = two-integers true false (λ a b. within_bits (a -ℤ b)) x y (λ a b. bits-raise false (a -ℤ b))
operator-raises times x y = two-integers true false (λ a b. within_bits (a *ℤ b)) x y (λ a b. bits-raise false (a *ℤ b))
operator-raises divided x y = two-integers true false (by_divisor int_div) x y (quotient-raises false int_div)
operator-raises modulo x y = two-integers true false (by_divisor int_rem) x y (quotient-raises false int_rem)
operator-raises concatenated x y = two-texts false true (λ s t. within_length (s ++ t)) x y (λ s t. length-raises false (s ++ t))

module _ (ps : Parts Name) where
  there-raises : (x : Option (Cell Name)) → Raises false false (value_there x)
  there-raises None = tt
  there-raises (Some c) = tt

  rows-raise : (x : Option (Cell Name)) → Raises false false (rows_there x)
  rows-raise None = tt
  rows-raise (Some (cell n a_table rs)) = tt
  rows-raise (Some (cell n (a_scalar x) rs)) = tt
  rows-raise (Some (cell n a_record rs)) = tt
  rows-raise (Some (cell n (a_variant x) rs)) = tt
  rows-raise (Some (cell n (a_polymorph x) rs)) = tt
  rows-raise (Some (cell n (a_callmessage x y) rs)) = tt
  rows-raise (Some (cell n (an_inport x) rs)) = tt
  rows-raise (Some (cell n (an_outport x) rs)) = tt

  evaluation-raises : (e : Expression) → Raises (can_overflow e) (can_deplete e) (evaluate ps e)
  evaluation-raises (literal l) = tt
  evaluation-raises (copy p) = there-raises (read_at p ps)
  evaluation-raises (negation e) = on-one true (can_deplete e) (integer_then (λ z. within_bits (neg_ℤ z))) (evaluate ps e) (λ y. on-integer true (can_deplete e) (λ z. within_bits (neg_ℤ z)) y (λ z. bits-raise (can_deplete e) (neg_ℤ z)))
      (raises-more (can_overflow e) true (can_deplete e) (can_deplete e) (evaluate ps e) (λ h. refl) (λ h. h) (evaluation-raises e))
  evaluation-raises (logical_not e) = on-one (can_overflow e) (can_deplete e) (boolean_then (λ b. gives_boolean (not b))) (evaluate ps e) (λ y. on-boolean (can_overflow e) (can_deplete e) (λ b. gives_boolean (not b)) y (λ b. tt)) (evaluation-raises e)
  evaluation-raises (operation o left right) =
      let a = is_arithmetic o in let j = is_joining o in
      let ol = can_overflow left in let or = can_overflow right in
      let dl = can_deplete left in let dr = can_deplete right in
      on-two (a || (ol || or)) (j || (dl || dr)) (operate o) (evaluate ps left) (evaluate ps right)
      (λ x y. raises-more a (a || (ol || or)) j (j || (dl || dr)) (operate o x y) (or-left a (ol || or)) (or-left j (dl || dr)) (operator-raises o x y))
      (raises-more ol (a || (ol || or)) dl (j || (dl || dr)) (evaluate ps left) (λ h. or-right a (ol || or) (or-left ol or h)) (λ h. or-right j (dl || dr) (or-left dl dr h)) (evaluation-raises left))
      (raises-more or (a || (ol || or)) dr (j || (dl || dr)) (evaluate ps right) (λ h. or-right a (ol || or) (or-right ol or h)) (λ h. or-right j (dl || dr) (or-right dl dr h)) (evaluation-raises right))
  evaluation-raises (size_of p) = rows-raise (read_at p ps)
  evaluation-raises (decimal e) = on-one (can_overflow e) (can_deplete e) (integer_then (λ z. gives_scalar (a_text (signed_numeral z)))) (evaluate ps e) (λ y. on-integer (can_overflow e) (can_deplete e) (λ z. gives_scalar (a_text (signed_numeral z))) y (λ z. tt)) (evaluation-raises e)
  evaluation-raises (length_of e) = on-one (can_overflow e) (can_deplete e) (text_then (λ bytes. gives_scalar (an_integer (pos (length bytes))))) (evaluate ps e) (λ y. on-text (can_overflow e) (can_deplete e) (λ bytes. gives_scalar (an_integer (pos (length bytes)))) y (λ bytes. tt)) (evaluation-raises e)

listed : (b : Bool) (x : ℕ) → IsTrue b → IsIn x (cond b (x ∷ []) [])
listed true x h = inl refl
listed false x h = not_true h

pub raises-its : RaisesItsExceptions
raises-its ps e exception is = by (subst (Raises (can_overflow e) (can_deplete e)) is (evaluation-raises ps e))
  where
    by : ((exception ≡ overflow) × IsTrue (can_overflow e)) ⊎ ((exception ≡ depletion) × IsTrue (can_deplete e)) → IsIn exception (raised_by e)
    by (inl h) = subst (λ x. IsIn x (raised_by e)) (sym h.0) (in-append_left overflow (cond (can_overflow e) (overflow ∷ []) []) (cond (can_deplete e) (depletion ∷ []) []) (listed (can_overflow e) overflow h.1))
    by (inr h) = subst (λ x. IsIn x (raised_by e)) (sym h.0) (in-append_right depletion (cond (can_overflow e) (overflow ∷ []) []) (cond (can_deplete e) (depletion ∷ []) []) (listed (can_deplete e) depletion h.1))
