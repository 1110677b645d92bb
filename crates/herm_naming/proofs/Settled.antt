-- In a well-formed table, with variables of known types: what the tests say of paths and expressions that are there.
use Rattle.std.proofs.Common.{◌≡◌, ℕ, List, [], ◌∷◌, map, length, Bool, true, false, not, ◌&&◌, ◌||◌, ◌⊎◌, inl, inr, nat_eq, nat_lt, Option, Some, None, is_some, slice_get, IsTrue, IsFalse, refl, sym, ap, subst, ◌∙◌, true≢false}
use Rattle.herm_model.specs.Lists.{IsIn, map_or}
use Rattle.herm_model.specs.Paths.{Path}
use Rattle.herm_model.specs.Types.{Parameter, TypeTable, Shape, boolean, integer, text, names, fields, cases, rows, callmessage, named_types, part_type, part_of, type_below, type_at, greatest_depth}
use Rattle.herm_model.specs.Copyable.{IsCopyable, is_copyable_within}
use Rattle.herm_model.specs.Expressions.{Literal, tag, Expression, literal, copy, negation, logical_not, operation, size_of, decimal, length_of, Operator, logical_or, logical_and, equal, unequal, less, at_most, greater, at_least, plus, minus, times, divided, modulo, concatenated, paths_read}
use Rattle.herm_model.specs.TypedExpressions.{is_boolean_shape, is_integer_shape, is_text_shape, takes, shape_given, HasShape, IsLiteralOf, IsPathOf, IsTyped}
use Rattle.herm_model.specs.tests.TypingTests.{number_of_shape}
use Rattle.herm_model.specs.WellFormedTables.{IsType, IsWellFormedTable}
use Rattle.herm_model.proofs.Lists.{not_true, and-both, or-either, in-append_left, in-append_right}
use Rattle.herm_model.proofs.Options.{none-not_some, map-some}
use Rattle.herm_model.proofs.FactTests.{got-IsIn}
use Rattle.herm_model.proofs.Deciding.{numbers-decide, below-decides}
use Rattle.herm_model.proofs.DecidedTables.{copyable-decides, below-type}
use Rattle.herm_model.proofs.DecidedForms.{IsRegular, well_formed-regular}
use Rattle.herm_naming.specs.UnknownNames.{may_have_value, is_known, is_literal_there, are_parts_there, is_there, literals_in}
use Rattle.herm_naming.specs.Fits.{is_names_shape, is_rows_shape, may_be, when_known, may_equal, fits_literal, literal_gives, type_of, is_seen, gives, is_fit}
use Rattle.herm_naming.specs.Copies.{copied, may_copy}

pub has-some : {X : Type 0} (o : Option X) → IsTrue (is_some o) → (x : X) × (o ≡ Some x)
has-some None h = not_true h
has-some (Some x) h = (x, refl)

pub not-false : (b : Bool) → IsTrue (not b) → IsFalse b
not-false true h = not_true h
not-false false h = refl

-- a part's type is one that the shape names
part-named : (s : Shape) (i u : ℕ) → part_type s i ≡ Some u → IsIn u (named_types s)
part-named (fields ts) i u e = got-IsIn ts i u e
part-named (cases ts) i u e = got-IsIn ts i u e
part-named (callmessage ps raises) i u e =
    let h = map-some (λ (p : Parameter). p.content) (slice_get ps i) u e in
    subst (λ v. IsIn v (map (λ (p : Parameter). p.content) ps)) h.2 (in-map-content ps h.0 (got-IsIn ps i h.0 h.1))
  where
    in-map-content : (ps : List Parameter) (p : Parameter) → IsIn p ps → IsIn p.content (map (λ (p : Parameter). p.content) ps)
    in-map-content [] p h = absurd h
    in-map-content (q ∷ ps) p (inl e) = inl (ap (λ (p : Parameter). p.content) e)
    in-map-content (q ∷ ps) p (inr h) = inr (in-map-content ps p h)
part-named s i u e = none-not_some e

-- the shapes that pass a test
pub is-rows : (s : Shape) → IsTrue (is_rows_shape s) → (row : ℕ) × (key : List ℕ) × (s ≡ rows row key)
is-rows (rows row key) h = (row, key, refl)
is-rows s h = not_true h

is-names : (s : Shape) → IsTrue (is_names_shape s) → (count : ℕ) × (s ≡ names count)
is-names (names count) h = (count, refl)
is-names s h = not_true h

is-integer : (s : Shape) → IsTrue (is_integer_shape s) → s ≡ integer
is-integer integer h = refl
is-integer s h = not_true h

is-boolean : (s : Shape) → IsTrue (is_boolean_shape s) → s ≡ boolean
is-boolean boolean h = refl
is-boolean s h = not_true h

is-text : (s : Shape) → IsTrue (is_text_shape s) → s ≡ text
is-text text h = refl
is-text s h = not_true h

module _ (exceptions : ℕ) (table : TypeTable) (well : IsWellFormedTable exceptions table) where
  regular : IsRegular table
  regular = well_formed-regular exceptions table well

  pub shape-type : (t : ℕ) (s : Shape) → HasShape table t s → IsType table t
  shape-type t s h = subst (λ o. IsTrue (is_some o)) (sym h) refl

  pub type-shape : (t : ℕ) → IsType table t → (s : Shape) × HasShape table t s
  type-shape t k = has-some (slice_get table t) k

  -- a type that a shape names is a type
  pub named-type : (t : ℕ) (s : Shape) (u : ℕ) → HasShape table t s → IsIn u (named_types s) → IsType table u
  named-type t s u h i = well.types_known t s h u i

  pub may-shape : (test : Shape → Bool) (t : ℕ) → IsType table t → IsTrue (may_be table test (Some t)) → (s : Shape) × HasShape table t s × IsTrue (test s)
  may-shape test t k m =
      let h = type-shape t k in
      (h.0, h.1, subst (λ o. IsTrue (map_or true test o)) h.1 m)

  known-is : (t : ℕ) → IsType table t → when_known table (Some t) ≡ Some t
  known-is t k = let h = type-shape t k in by (slice_get table t) h.0 h.1
    where
      by : (o : Option Shape) (s : Shape) → o ≡ Some s → map_or None (λ x. Some t) o ≡ Some t
      by None s e = none-not_some e
      by (Some x) s e = refl

  pub equal-types : (t u : ℕ) → IsType table t → IsType table u → IsTrue (may_equal table (Some t) (Some u)) → t ≡ u
  equal-types t u k l m =
      let a : IsTrue (map_or true (λ x. map_or true (nat_eq x) (Some u)) (Some t)) =
      subst (λ o. IsTrue (map_or true (λ x. map_or true (nat_eq x) o) (Some t))) (known-is u l)
      (subst (λ o. IsTrue (map_or true (λ x. map_or true (nat_eq x) (when_known table (Some u))) o)) (known-is t k) m) in
      (numbers-decide t u).0 a

  pub copy-type : (t : ℕ) → IsType table t → IsTrue (may_copy table (Some t)) → IsCopyable table t
  copy-type t k m =
      (copyable-decides table regular.deep t).0 (subst (λ o. IsTrue (map_or true (is_copyable_within greatest_depth table) o)) (known-is t k) m)

  pub boolean-type : IsType table 0
  boolean-type = shape-type 0 boolean regular.has_boolean

  pub integer-type : IsType table 1
  integer-type = shape-type 1 integer regular.has_integer

  pub text-type : IsType table 2
  text-type = shape-type 2 text regular.has_text

  pub has-boolean : HasShape table 0 boolean
  has-boolean = regular.has_boolean

  pub part-leads : (t i : ℕ) → IsType table t → IsTrue (is_some (part_of table (Some t) i)) → (v : ℕ) × (part_of table (Some t) i ≡ Some v) × IsType table v
  part-leads t i k c =
      let v = has-some (part_of table (Some t) i) c in
      let s = type-shape t k in
      let e : part_type s.0 i ≡ Some v.0 = subst (λ o. map_or None (λ s. part_type s i) o ≡ Some v.0) s.1 v.1 in
      (v.0, v.1, named-type t s.0 v.0 s.1 (part-named s.0 i v.0 e))

  pub when-type : (t : ℕ) (b : Bool) → IsType table t → IsTrue (not (is_known table (Some t)) || b) → IsTrue b
  when-type t b k h = by (or-either (not (is_known table (Some t))) b h)
    where
      by : IsTrue (not (is_known table (Some t))) ⊎ IsTrue b → IsTrue b
      by (inl n) = absurd (true≢false (sym k ∙ not-false _ n))
      by (inr g) = g

  -- parts that are there lead to a type that is known
  pub parts-lead : (t : ℕ) (p : List ℕ) → IsType table t → IsTrue (are_parts_there table (Some t) p) → (u : ℕ) × (type_below table (Some t) p ≡ Some u) × IsType table u
  parts-lead t [] k h = (t, refl, k)
  parts-lead t (i ∷ p) k h =
      let c = and-both (is_some (part_of table (Some t) i)) (are_parts_there table (part_of table (Some t) i) p) (when-type t _ k h) in
      let v = part-leads t i k c.0 in
      let r = parts-lead v.0 p v.2 (subst (λ o. IsTrue (are_parts_there table o p)) v.1 c.1) in
      (r.0, subst (λ o. type_below table o p ≡ Some r.0) (sym v.1) r.1, r.2)

  module _ (types : List ℕ) (known : (t : ℕ) → IsIn t types → IsType table t) where
    -- a path that is there has a type that is known
    pub path-type : (p : Path) → IsTrue (is_there table types p) → (u : ℕ) × (type_at table types p ≡ Some u) × IsType table u
    path-type [] h = not_true h
    path-type (v ∷ p) h =
        let c = and-both (nat_lt v (length types)) _ h in
        let t = has-some (slice_get types v) (below-type types v ((below-decides v (length types)).0 c.0)) in
        let r = parts-lead t.0 p (known t.0 (got-IsIn types v t.0 t.1)) (subst (λ o. IsTrue (are_parts_there table o p)) t.1 c.1) in
        (r.0, subst (λ o. type_below table o p ≡ Some r.0) (sym t.1) r.1, r.2)

    pub seen-path : (p : Path) (u : ℕ) → type_at table types p ≡ Some u → IsTrue (is_seen table types p) → IsPathOf table types p u
    seen-path p u e s = (e, not-false _ s)

    -- a literal has the type that it gives
    pub literal-type : (l : Literal) → IsTrue (is_literal_there table l) → IsTrue (fits_literal table l) → (t : ℕ) × (literal_gives table l ≡ Some t) × IsType table t × IsLiteralOf table l t
    literal-type (Literal.boolean b) h f = (0, refl, boolean-type, regular.has_boolean)
    literal-type (Literal.integer z) h f = (1, refl, integer-type, (regular.has_integer, f))
    literal-type (Literal.text bytes) h f = (2, refl, text-type, (regular.has_text, f))
    literal-type (tag t i) h f = by (slice_get table t) refl h f
      where
        by : (o : Option Shape) → slice_get table t ≡ o → IsTrue (map_or false (may_have_value i) o) → IsTrue (map_or true is_names_shape o) → (u : ℕ) × (literal_gives table (tag t i) ≡ Some u) × IsType table u × IsLiteralOf table (tag t i) u
        by None e h f = not_true h
        by (Some (names count)) e h f = (t, refl, shape-type t (names count) e, (refl, count, e, h))
        by (Some s) e h f = not_true f

    -- the operand's type has the shape
    operand : (test : Shape → Bool) (wanted : Shape) → ((s : Shape) → IsTrue (test s) → s ≡ wanted) → (e : Expression) (t : ℕ) → gives table types e ≡ Some t → IsType table t
        → IsTrue (may_be table test (gives table types e)) → HasShape table t wanted
    operand test wanted only e t g k m =
        let h = may-shape test t k (subst (λ o. IsTrue (may_be table test o)) g m) in
        subst (λ s. HasShape table t s) (only h.0 h.2) h.1

    given-shape : (o : Operator) → HasShape table (number_of_shape (shape_given o)) (shape_given o)
    given-shape logical_or = regular.has_boolean
    given-shape logical_and = regular.has_boolean
    given-shape equal = regular.has_boolean
    given-shape unequal = regular.has_boolean
    given-shape less = regular.has_boolean
    given-shape at_most = regular.has_boolean
    given-shape greater = regular.has_boolean
    given-shape at_least = regular.has_boolean
    given-shape plus = regular.has_integer
    given-shape minus = regular.has_integer
    given-shape times = regular.has_integer
    given-shape divided = regular.has_integer
    given-shape modulo = regular.has_integer
    given-shape concatenated = regular.has_text

    -- what the tests of an expression say
    pub record Passes (e : Expression) : Type 0 where
      pub paths : (p : Path) → IsIn p (paths_read e) → IsTrue (is_there table types p)
      pub literals : (l : Literal) → IsIn l (literals_in e) → IsTrue (is_literal_there table l)
      pub fits : IsTrue (is_fit table types e)
      pub copies : (p : Path) → IsIn p (copied e) → IsTrue (may_copy table (type_of table types p))

    left-passes : (o : Operator) (left right : Expression) → Passes (operation o left right) → IsTrue (is_fit table types left) → Passes left
    left-passes o left right h f = record {
      paths = λ p i. h.paths p (in-append_left p (paths_read left) (paths_read right) i);
      literals = λ l i. h.literals l (in-append_left l (literals_in left) (literals_in right) i);
      fits = f;
      copies = λ p i. h.copies p (in-append_left p (copied left) (copied right) i);
    }

    right-passes : (o : Operator) (left right : Expression) → Passes (operation o left right) → IsTrue (is_fit table types right) → Passes right
    right-passes o left right h f = record {
      paths = λ p i. h.paths p (in-append_right p (paths_read left) (paths_read right) i);
      literals = λ l i. h.literals l (in-append_right l (literals_in left) (literals_in right) i);
      fits = f;
      copies = λ p i. h.copies p (in-append_right p (copied left) (copied right) i);
    }

    -- an expression that passes has the type that it gives
    pub expression-type : (e : Expression) → Passes e → (t : ℕ) × (gives table types e ≡ Some t) × IsType table t × IsTyped table types e t
    expression-type (literal l) h = literal-type l (h.literals l (inl refl)) h.fits
    expression-type (copy p) h =
        let r = path-type p (h.paths p (inl refl)) in
        (r.0, r.1, r.2, (seen-path p r.0 r.1 h.fits, copy-type r.0 r.2 (subst (λ o. IsTrue (may_copy table o)) r.1 (h.copies p (inl refl)))))
    expression-type (negation e) h =
        let c = and-both (may_be table is_integer_shape (gives table types e)) (is_fit table types e) h.fits in
        let r = expression-type e (record { paths = h.paths; literals = h.literals; fits = c.1; copies = h.copies }) in
        (1, refl, integer-type, (regular.has_integer, r.0, operand is_integer_shape integer is-integer e r.0 r.1 r.2 c.0, r.3))
    expression-type (logical_not e) h =
        let c = and-both (may_be table is_boolean_shape (gives table types e)) (is_fit table types e) h.fits in
        let r = expression-type e (record { paths = h.paths; literals = h.literals; fits = c.1; copies = h.copies }) in
        (0, refl, boolean-type, (regular.has_boolean, r.0, operand is_boolean_shape boolean is-boolean e r.0 r.1 r.2 c.0, r.3))
    expression-type (operation o left right) h =
        let c = and-both (may_be table (takes o) (gives table types left) && may_be table (takes o) (gives table types right)) _ h.fits in
        let d = and-both (may_be table (takes o) (gives table types left)) _ c.0 in
        let f = and-both (may_equal table (gives table types left) (gives table types right)) _ c.1 in
        let g = and-both (is_fit table types left) _ f.1 in
        let l = expression-type left (left-passes o left right h g.0) in
        let r = expression-type right (right-passes o left right h g.1) in
        let s = may-shape (takes o) l.0 l.2 (subst (λ x. IsTrue (may_be table (takes o) x)) l.1 d.0) in
        let q = equal-types l.0 r.0 l.2 r.2 (subst (λ x. IsTrue (may_equal table (Some l.0) x)) r.1 (subst (λ x. IsTrue (may_equal table x (gives table types right))) l.1 f.0)) in
        (number_of_shape (shape_given o), refl, shape-type _ (shape_given o) (given-shape o), (given-shape o, l.0, s.0, s.1, s.2, l.3, subst (λ u. IsTyped table types right u) (sym q) r.3))
    expression-type (size_of p) h =
        let c = and-both (is_seen table types p) _ h.fits in
        let r = path-type p (h.paths p (inl refl)) in
        let s = may-shape is_rows_shape r.0 r.2 (subst (λ o. IsTrue (may_be table is_rows_shape o)) r.1 c.1) in
        let k = is-rows s.0 s.2 in
        (1, refl, integer-type, (regular.has_integer, r.0, k.0, k.1, seen-path p r.0 r.1 c.0, subst (λ x. HasShape table r.0 x) k.2 s.1))
    expression-type (decimal e) h =
        let c = and-both (may_be table is_integer_shape (gives table types e)) (is_fit table types e) h.fits in
        let r = expression-type e (record { paths = h.paths; literals = h.literals; fits = c.1; copies = h.copies }) in
        (2, refl, text-type, (regular.has_text, r.0, operand is_integer_shape integer is-integer e r.0 r.1 r.2 c.0, r.3))
    expression-type (length_of e) h =
        let c = and-both (may_be table is_text_shape (gives table types e)) (is_fit table types e) h.fits in
        let r = expression-type e (record { paths = h.paths; literals = h.literals; fits = c.1; copies = h.copies }) in
        (1, refl, integer-type, (regular.has_integer, r.0, operand is_text_shape text is-text e r.0 r.1 r.2 c.0, r.3))
