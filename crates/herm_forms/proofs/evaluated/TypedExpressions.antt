-- Typed expressions come to full values of their types.
use Rattle.std.proofs.Common.{◌≡◌, ◌≤◌, ℕ, ◌^◌, arith, ℤ, pos, List, [], ◌∷◌, ◌++◌, length, Bool, true, false, cond, not, nat_lt, nat_le, Option, Some, refl, sym, ap, subst}
use Rattle.std.proofs.lemmas.Bool.{lt-ltb, leb-true}
use Rattle.std.specs.Prelude.{slice_get, IsTrue, ⊤, ◌+ℤ◌, ◌-ℤ◌, ◌*ℤ◌, neg_ℤ, int_div, int_rem}
use Rattle.herm_model.specs.Lists.{all_pass, map_or}
use Rattle.herm_model.specs.Types.{TypeTable, Shape, boolean, integer, text, names, rows}
use Rattle.herm_model.specs.Expressions.{Literal, Operator, logical_or, logical_and, equal, unequal, less, at_most, greater, at_least, plus, minus, times, divided, modulo, concatenated}
use Rattle.herm_model.specs.TypedExpressions.{is_boolean_shape, is_integer_shape, is_text_shape, is_scalar_shape, is_ordered_shape, takes, shape_given, HasShape, IsLiteralOf}
use Rattle.herm_model.specs.Values.{Scalar, a_boolean, an_integer, a_text, a_tag, a_scalar, a_table, Cell, cell, Parts, no_parts, gap, part, size, Value}
use Rattle.herm_model.specs.Tables.{same_integer, has_distinct_keys}
use Rattle.herm_model.specs.Typed.{is_integer, is_text, is_text_byte, greatest_text, greatest_rows, whole, unfit, leaf_if, layout, is_bounded, Fits, HasType, IsFull}
use Rattle.herm_model.specs.Outcomes.{overflow, depletion}
use Rattle.herm_model.proofs.Lists.{not_true, and-both, both-and}
use Rattle.herm_model.specs.ValueTexts.{signed_numeral}
use Rattle.herm_forms.specs.Frames.{Name}
use Rattle.herm_forms.specs.Modules.{Module}
use Rattle.herm_forms.specs.Evaluate.{Evaluated, gives, raises, no_value, scalar_value, gives_scalar, gives_boolean, scalar_then, one_then, two_then, boolean_then, integer_then, text_then, within_bits, by_divisor, within_length, compared, on_booleans, on_integers, on_texts, operate, scalar_of, rows_there}
use Rattle.herm_forms.specs.laws.ExpressionLaws.{ComesTo, Decides}
use Rattle.herm_forms.proofs.forms.ReadTypes.{is-table}
use Rattle.herm_forms.proofs.evaluated.NumberTexts.{signed-text}

-- the scalar is a value of a type of this shape
abbrev pub FitsShape : Shape → Scalar → Type 0
FitsShape boolean (a_boolean b) = ⊤
FitsShape integer (an_integer z) = IsTrue (is_integer z)
FitsShape text (a_text bytes) = IsTrue (is_text bytes)
FitsShape (names count) (a_tag i) = IsTrue (nat_lt i count)
FitsShape s x = ⊥

module _ (table : TypeTable) where
  leaf-fits : (b : Bool) → IsTrue b → Fits {N = ⊤} table (leaf_if b) no_parts
  leaf-fits true h = tt
  leaf-fits false h = not_true h

  -- a full value of this shape, where the type has it
  abbrev FullBy : Option Shape → Value → Type 0
  FullBy o (cell n k ps) = Fits table (map_or unfit (λ s. layout whole s k) o) ps × IsTrue (map_or false (λ s. is_bounded s ps) o)

  shape-full : (s : Shape) (x : Scalar) → FitsShape s x → FullBy (Some s) (scalar_value x)
  shape-full boolean (a_boolean b) h = (tt, refl)
  shape-full integer (an_integer z) h = (leaf-fits (is_integer z) h, refl)
  shape-full text (a_text bytes) h = (leaf-fits (is_text bytes) h, refl)
  shape-full (names count) (a_tag i) h = (leaf-fits (nat_lt i count) h, refl)
  shape-full s x h = absurd h

  pub scalar-full : (t : ℕ) (s : Shape) (x : Scalar) → slice_get table t ≡ Some s → FitsShape s x → IsFull table t (scalar_value x)
  scalar-full t s x e h = subst (λ o. FullBy o (scalar_value x)) (sym e) (shape-full s x h)

  -- a full value of a scalar's type is such a scalar
  pub record ScalarOf (s : Shape) (v : Value) : Type 0 where
    pub scalar : Scalar
    pub is : v ≡ scalar_value scalar
    pub fits : FitsShape s scalar

  no-parts : (v : Parts ⊤) (b : Bool) → Fits table (leaf_if b) v → (v ≡ no_parts) × IsTrue b
  no-parts no_parts true h = (refl, refl)
  no-parts (gap ps) true h = absurd h
  no-parts (part c ps) true h = absurd h
  no-parts ps false h = absurd h

  scalar-by : (s : Shape) (x : Scalar) (ps : Parts ⊤) (b : Bool) → (IsTrue b → FitsShape s x) → Fits table (leaf_if b) ps → ScalarOf s (cell tt (a_scalar x) ps)
  scalar-by s x ps b f h = let r = no-parts ps b h in record { scalar = x; is = ap (cell tt (a_scalar x)) r.0; fits = f r.1 }

  scalar-of : (s : Shape) (v : Value) → IsTrue (is_scalar_shape s) → FullBy (Some s) v → ScalarOf s v
  scalar-of boolean (cell n (a_scalar (a_boolean b)) ps) h f = scalar-by boolean (a_boolean b) ps true (λ h. tt) f.0
  scalar-of integer (cell n (a_scalar (an_integer z)) ps) h f = scalar-by integer (an_integer z) ps (is_integer z) (λ h. h) f.0
  scalar-of text (cell n (a_scalar (a_text bytes)) ps) h f = scalar-by text (a_text bytes) ps (is_text bytes) (λ h. h) f.0
  scalar-of (names count) (cell n (a_scalar (a_tag i)) ps) h f = scalar-by (names count) (a_tag i) ps (nat_lt i count) (λ h. h) f.0
  scalar-of boolean (cell n k ps) h f = absurd f.0
  scalar-of integer (cell n k ps) h f = absurd f.0
  scalar-of text (cell n k ps) h f = absurd f.0
  scalar-of (names count) (cell n k ps) h f = absurd f.0
  scalar-of s v h f = not_true h

  full-by : (t : ℕ) (s : Shape) (v : Value) → slice_get table t ≡ Some s → IsFull table t v → FullBy (Some s) v
  full-by t s (cell n k ps) e h = subst (λ o. FullBy o (cell n k ps)) e h

  pub full-scalar : (t : ℕ) (s : Shape) (v : Value) → slice_get table t ≡ Some s → IsTrue (is_scalar_shape s) → IsFull table t v → ScalarOf s v
  full-scalar t s v e h f = scalar-of s v h (full-by t s v e f)

-- operands come to scalars, and what is made of these comes to a value
module _ (c : Module) (t : ℕ) where
  one-comes : (u : ℕ) (s : Shape) (f : Scalar → Evaluated) (x : Evaluated) → HasShape c.types u s → IsTrue (is_scalar_shape s) → ((y : Scalar) → FitsShape s y → ComesTo c t (f y)) → ComesTo c u x → ComesTo c t (one_then f x)
  one-comes u s f (gives v) e h on full' = let r = full-scalar c.types u s v e h full' in subst (λ v. ComesTo c t (scalar_then f v)) (sym r.is) (on r.scalar r.fits)
  one-comes u s f (raises exception) e h on full' = tt
  one-comes u s f no_value e h on full' = absurd full'

  two-come : (u : ℕ) (s : Shape) (f : Scalar → Scalar → Evaluated) (x y : Evaluated) → HasShape c.types u s → IsTrue (is_scalar_shape s) → ((a b : Scalar) → FitsShape s a → FitsShape s b → ComesTo c t (f a b)) → ComesTo c u x → ComesTo c u y → ComesTo c t (two_then f x y)
  two-come u s f (gives v) y e h on left right =
      let r = full-scalar c.types u s v e h left in
      subst (λ v. ComesTo c t (scalar_then (λ s. one_then (f s) y) v)) (sym r.is) (one-comes u s (f r.scalar) y e h (λ b fits. on r.scalar b r.fits fits) right)
  two-come u s f (raises exception) y e h on left right = tt
  two-come u s f no_value y e h on left right = absurd left

  boolean-comes : HasShape c.types t boolean → (b : Bool) → ComesTo c t (gives_boolean b)
  boolean-comes e b = scalar-full c.types t boolean (a_boolean b) e tt

  bits-come : HasShape c.types t integer → (z : ℤ) → ComesTo c t (within_bits z)
  bits-come e z = by (is_integer z) refl
    where
      by : (b : Bool) → is_integer z ≡ b → ComesTo c t (cond b (gives_scalar (an_integer z)) (raises overflow))
      by true h = scalar-full c.types t integer (an_integer z) e h
      by false h = tt

  quotient-comes : HasShape c.types t integer → (f : ℤ → ℤ → ℤ) (y z : ℤ) → ComesTo c t (by_divisor f y z)
  quotient-comes e f y z = by (same_integer z (pos 0))
    where
      by : (b : Bool) → ComesTo c t (cond b (raises overflow) (within_bits (f y z)))
      by true = tt
      by false = bits-come e (f y z)

  bytes-joined : (s r : List ℕ) → IsTrue (all_pass is_text_byte s) → IsTrue (all_pass is_text_byte r) → IsTrue (all_pass is_text_byte (s ++ r))
  bytes-joined [] r h k = k
  bytes-joined (b ∷ s) r h k = let x = and-both (is_text_byte b) (all_pass is_text_byte s) h in both-and (is_text_byte b) (all_pass is_text_byte (s ++ r)) x.0 (bytes-joined s r x.1 k)

  joined-comes : HasShape c.types t text → (s r : List ℕ) → IsTrue (is_text s) → IsTrue (is_text r) → ComesTo c t (within_length (s ++ r))
  joined-comes e s r h k = by (nat_le (length (s ++ r)) greatest_text) refl
    where
      by : (b : Bool) → nat_le (length (s ++ r)) greatest_text ≡ b → ComesTo c t (cond b (gives_scalar (a_text (s ++ r))) (raises depletion))
      by true short = scalar-full c.types t text (a_text (s ++ r)) e (both-and (nat_le (length (s ++ r)) greatest_text) (all_pass is_text_byte (s ++ r)) short (bytes-joined s r (and-both (nat_le (length s) greatest_text) (all_pass is_text_byte s) h).1 (and-both (nat_le (length r) greatest_text) (all_pass is_text_byte r) k).1))
      by false short = tt

  booleans-come : (f : Bool → Bool → Bool) (s : Shape) (x y : Scalar) → HasShape c.types t boolean → IsTrue (is_boolean_shape s) → FitsShape s x → FitsShape s y → ComesTo c t (on_booleans f x y)
  booleans-come f boolean (a_boolean a) (a_boolean b) e h p q = boolean-comes e (f a b)
  booleans-come f boolean (a_boolean a) y e h p q = absurd q
  booleans-come f boolean x y e h p q = absurd p
  booleans-come f s x y e h p q = not_true h

  integers-come : (f : ℤ → ℤ → Evaluated) (s : Shape) (x y : Scalar) → ((a b : ℤ) → ComesTo c t (f a b)) → IsTrue (is_integer_shape s) → FitsShape s x → FitsShape s y → ComesTo c t (on_integers f x y)
  integers-come f integer (an_integer a) (an_integer b) e h p q = e a b
  integers-come f integer (an_integer a) y e h p q = absurd q
  integers-come f integer x y e h p q = absurd p
  integers-come f s x y e h p q = not_true h

  texts-come : (f : List ℕ → List ℕ → Evaluated) (s : Shape) (x y : Scalar) → ((a b : List ℕ) → IsTrue (is_text a) → IsTrue (is_text b) → ComesTo c t (f a b)) → IsTrue (is_text_shape s) → FitsShape s x → FitsShape s y → ComesTo c t (on_texts f x y)
  texts-come f text (a_text a) (a_text b) e h p q = e a b p q
  texts-come f text (a_text a) y e h p q = absurd q
  texts-come f text x y e h p q = absurd p
  texts-come f s x y e h p q = not_true h

  ordered-come : (f : ℤ → ℤ → Bool) (g : List ℕ → List ℕ → Bool) (s : Shape) (x y : Scalar) → HasShape c.types t boolean → IsTrue (is_ordered_shape s) → FitsShape s x → FitsShape s y → ComesTo c t (compared f g x y)
  ordered-come f g integer (an_integer a) (an_integer b) e h p q = boolean-comes e (f a b)
  ordered-come f g text (a_text a) (a_text b) e h p q = boolean-comes e (g a b)
  ordered-come f g integer (an_integer a) y e h p q = absurd q
  ordered-come f g text (a_text a) y e h p q = absurd q
  ordered-come f g integer x y e h p q = absurd p
  ordered-come f g text x y e h p q = absurd p
  ordered-come f g s x y e h p q = not_true h

  operator-comes : (o : Operator) (s : Shape) (x y : Scalar) → HasShape c.types t (shape_given o) → IsTrue (takes o s) → FitsShape s x → FitsShape s y → ComesTo c t (operate o x y)
  operator-comes logical_or s x y e h p q = booleans-come _ s x y e h p q
  operator-comes logical_and s x y e h p q = booleans-come _ s x y e h p q
  operator-comes equal s x y e h p q = boolean-comes e _
  operator-comes unequal s x y e h p q = boolean-comes e _
  operator-comes less s x y e h p q = ordered-come _ _ s x y e h p q
  operator-comes at_most s x y e h p q = ordered-come _ _ s x y e h p q
  operator-comes greater s x y e h p q = ordered-come _ _ s x y e h p q
  operator-comes at_least s x y e h p q = ordered-come _ _ s x y e h p q
  operator-comes plus s x y e h p q = integers-come (λ a b. within_bits (a +ℤ b)) s x y (λ a b. bits-come e (a +ℤ b)) h p q
  operator-comes minus s x y e h p q = integers-come (λ a b. within_bits (a -ℤ b)) s x y (λ a b. bits-come e (a -ℤ b)) h p q
  operator-comes times s x y e h p q = integers-come (λ a b. within_bits (a *ℤ b)) s x y (λ a b. bits-come e (a *ℤ b)) h p q
  operator-comes divided s x y e h p q = integers-come (by_divisor int_div) s x y (quotient-comes e int_div) h p q
  operator-comes modulo s x y e h p q = integers-come (by_divisor int_rem) s x y (quotient-comes e int_rem) h p q
  operator-comes concatenated s x y e h p q = texts-come _ s x y (λ a b. joined-comes e a b) h p q

  -- so all that an operator takes are scalars
  taken-scalar : (o : Operator) (s : Shape) → IsTrue (takes o s) → IsTrue (is_scalar_shape s)
  taken-scalar o boolean h = refl
  taken-scalar o integer h = refl
  taken-scalar o text h = refl
  taken-scalar o (names count) h = refl
  taken-scalar logical_or s h = not_true h
  taken-scalar logical_and s h = not_true h
  taken-scalar equal s h = h
  taken-scalar unequal s h = h
  taken-scalar less s h = not_true h
  taken-scalar at_most s h = not_true h
  taken-scalar greater s h = not_true h
  taken-scalar at_least s h = not_true h
  taken-scalar plus s h = not_true h
  taken-scalar minus s h = not_true h
  taken-scalar times s h = not_true h
  taken-scalar divided s h = not_true h
  taken-scalar modulo s h = not_true h
  taken-scalar concatenated s h = not_true h

  pub operation-comes : (u : ℕ) (s : Shape) (o : Operator) (x y : Evaluated) → HasShape c.types t (shape_given o) → HasShape c.types u s → IsTrue (takes o s) → ComesTo c u x → ComesTo c u y → ComesTo c t (two_then (operate o) x y)
  operation-comes u s o x y gives' e h left right = two-come u s (operate o) x y e (taken-scalar o s h) (λ a b p q. operator-comes o s a b gives' h p q) left right

  -- the operators on one operand, and the text and the length of one
  minus-comes : HasShape c.types t integer → (x : Scalar) → FitsShape integer x → ComesTo c t (integer_then (λ z. within_bits (neg_ℤ z)) x)
  minus-comes e (an_integer z) h = bits-come e (neg_ℤ z)
  minus-comes e x h = absurd h

  pub negated-comes : (u : ℕ) (x : Evaluated) → HasShape c.types t integer → HasShape c.types u integer → ComesTo c u x → ComesTo c t (one_then (integer_then (λ z. within_bits (neg_ℤ z))) x)
  negated-comes u x e f h = one-comes u integer (integer_then (λ z. within_bits (neg_ℤ z))) x f refl (minus-comes e) h

  not-comes : HasShape c.types t boolean → (x : Scalar) → FitsShape boolean x → ComesTo c t (boolean_then (λ b. gives_boolean (not b)) x)
  not-comes e (a_boolean b) h = boolean-comes e (not b)
  not-comes e x h = absurd h

  pub inverted-comes : (u : ℕ) (x : Evaluated) → HasShape c.types t boolean → HasShape c.types u boolean → ComesTo c u x → ComesTo c t (one_then (boolean_then (λ b. gives_boolean (not b))) x)
  inverted-comes u x e f h = one-comes u boolean (boolean_then (λ b. gives_boolean (not b))) x f refl (not-comes e) h

  text-comes : HasShape c.types t text → (x : Scalar) → FitsShape integer x → ComesTo c t (integer_then (λ z. gives_scalar (a_text (signed_numeral z))) x)
  text-comes e (an_integer z) h = scalar-full c.types t text (a_text (signed_numeral z)) e (signed-text z h)
  text-comes e x h = absurd h

  pub decimal-comes : (u : ℕ) (x : Evaluated) → HasShape c.types t text → HasShape c.types u integer → ComesTo c u x → ComesTo c t (one_then (integer_then (λ z. gives_scalar (a_text (signed_numeral z)))) x)
  decimal-comes u x e f h = one-comes u integer (integer_then (λ z. gives_scalar (a_text (signed_numeral z)))) x f refl (text-comes e) h

  -- a number up to the greatest length or size has 64 bits
  small-comes : HasShape c.types t integer → (n : ℕ) → IsTrue (nat_le n 4096) → ComesTo c t (gives_scalar (an_integer (pos n)))
  small-comes e n h = let z : n ≤ 4096 = leb-true n 4096 h in scalar-full c.types t integer (an_integer (pos n)) e (lt-ltb n (2 ^ 63) (omega (arith, z)))

  bytes-come : HasShape c.types t integer → (x : Scalar) → FitsShape text x → ComesTo c t (text_then (λ bytes. gives_scalar (an_integer (pos (length bytes)))) x)
  bytes-come e (a_text bytes) h = small-comes e (length bytes) (and-both (nat_le (length bytes) greatest_text) (all_pass is_text_byte bytes) h).0
  bytes-come e x h = absurd h

  pub length-comes : (u : ℕ) (x : Evaluated) → HasShape c.types t integer → HasShape c.types u text → ComesTo c u x → ComesTo c t (one_then (text_then (λ bytes. gives_scalar (an_integer (pos (length bytes))))) x)
  length-comes u x e f h = one-comes u text (text_then (λ bytes. gives_scalar (an_integer (pos (length bytes))))) x f refl (bytes-come e) h

  rows-bounded : (u row : ℕ) (key : List ℕ) (n : Name) (rs : Parts Name) → HasShape c.types u (rows row key) → HasType c.types u (cell n a_table rs) → IsTrue (nat_le (size rs) greatest_rows)
  rows-bounded u row key n rs e h = (and-both (nat_le (size rs) greatest_rows) (has_distinct_keys key rs) (subst (λ o. IsTrue (map_or false (λ s. is_bounded s rs) o)) e h.1)).0

  pub size-comes : (u row : ℕ) (key : List ℕ) (d : Cell Name) → HasShape c.types t integer → HasShape c.types u (rows row key) → HasType c.types u d → ComesTo c t (rows_there (Some d))
  size-comes u row key d e f typed =
      let x = is-table Name c.types u row key d f typed in
      subst (λ d. ComesTo c t (rows_there (Some d))) (sym x.is) (small-comes e (size x.rows') (rows-bounded u row key x.name x.rows' f (subst (HasType c.types u) x.is typed)))

  -- a literal of the type
  pub literal-comes : (l : Literal) → IsLiteralOf c.types l t → ComesTo c t (gives_scalar (scalar_of l))
  literal-comes (Literal.boolean b) h = boolean-comes h b
  literal-comes (Literal.integer z) h = scalar-full c.types t integer (an_integer z) h.0 h.1
  literal-comes (Literal.text bytes) h = scalar-full c.types t text (a_text bytes) h.0 h.1
  literal-comes (Literal.tag type place) h = scalar-full c.types t (names h.1) (a_tag place) h.2 h.3

  -- what comes to a value of a boolean's type decides
  boolean-decides : (x : Scalar) → FitsShape boolean x → Decides (gives_scalar x)
  boolean-decides (a_boolean b) h = tt
  boolean-decides x h = absurd h

  pub comes-decides : (x : Evaluated) → HasShape c.types t boolean → ComesTo c t x → Decides x
  comes-decides (gives v) e h = let r = full-scalar c.types t boolean v e refl h in subst (λ v. Decides (gives v)) (sym r.is) (boolean-decides r.scalar r.fits)
  comes-decides (raises exception) e h = tt
  comes-decides no_value e h = absurd h
