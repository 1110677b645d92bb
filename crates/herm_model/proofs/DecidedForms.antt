-- The tests of expressions and forms decide which are typed.
use Rattle.std.proofs.Common.{◌≡◌, ◌↔◌, ℕ, zero, suc, ◌<◌, List, [], ◌∷◌, ◌++◌, map, length, Bool, true, false, cond, ◌&&◌, nat_eq, nat_lt, Option, Some, None, is_some, slice_get, option_and_then, IsTrue, IsFalse, refl, sym, ap, subst, ◌∙◌, true≢false}
use Rattle.herm_model.specs.Lists.{IsIn, all_pass, any_pass, map_or, range}
use Rattle.herm_model.specs.Paths.{Path, Fact, are_apart, same_path}
use Rattle.herm_model.specs.Types.{Mode, by_in, by_inout, by_out, Parameter, Raised, Shape, boolean, integer, text, polymorph, names, fields, cases, rows, inport, outport, callmessage, TypeTable, predefined, greatest_depth, type_at, passes_component}
use Rattle.herm_model.specs.Copyable.{IsCopyable, is_copyable_within}
use Rattle.herm_model.specs.Expressions.{Literal, Operator, logical_or, logical_and, equal, unequal, less, at_most, greater, at_least, plus, minus, times, divided, modulo, concatenated, Expression, literal, copy, negation, logical_not, operation, size_of, decimal, length_of, Atom, path}
use Rattle.herm_model.specs.Typed.{is_integer, is_text}
use Rattle.herm_model.specs.Statements.{Form, Assign, Move, New, Discard, Unite, Dissolve, Reveal, Case, Wrap, Unwrap, Insert, Remove, Get, For, Connect, Send, Receive, Select, Call, Return, ReturnBy, Create, If, While, Raise, Leave, Arm, Process, Differ}
use Rattle.herm_model.specs.FactsOfStatements.{set_by_call}
use Rattle.herm_model.specs.TypedExpressions.{takes, shape_given, passes_out, HasShape, IsLiteralOf, IsPathOf, IsTyped}
use Rattle.herm_model.specs.WellFormedTables.{is_definable, BeginsPredefined, IsWellFormedTable}
use Rattle.herm_model.specs.TypedStatements.{can_be_new, AreApart, port_type, IsComponent, IsLookedAt, IsTarget, IsTypedAtom, IsArgument, AreArguments, AreKeysOf, IsTableOf, IsFound, GoesTo, ComesFrom, IsReceived, IsReturned, IsTypedForm}
use Rattle.herm_model.specs.tests.TableTests.{are_different, on_fields, on_cases, on_rows, on_inport, on_outport, on_callmessage}
use Rattle.herm_model.specs.tests.TypingTests.{number_of_shape, given_if, is_number, on_names, is_polymorph, are_all_apart, literal_type, seen_type, own_type, copied_type, is_table, expression_type, atom_type, is_argument, are_arguments, are_keys, at_table, at_outport, at_inport, at_component_type, is_found, is_received, at_returned, is_test, is_typed_form}
use Rattle.herm_model.proofs.Lists.{not_true, every-in}
use Rattle.herm_model.proofs.Options.{some-injective, none-not_some}
use Rattle.herm_model.proofs.FactTests.{got-IsIn}
use Rattle.herm_model.proofs.Deciding.{Decides, through, both-decide, true-decides, false-decides, numbers-decide, below-decides, paths-decide, there-decides, all-decide, chosen-decides, member-decides, different-decides, range-decides, itself}
use Rattle.herm_model.proofs.DecidedTables.{AreShallow, copyable-decides, fields-decide, cases-decide, outport-decides, rows-decide, inport-decides, callmessage-decides}

-- the number of a shape that no definition gives
abbrev number_of : Shape → ℕ
number_of boolean = 0
number_of integer = 1
number_of text = 2
number_of polymorph = 3
number_of s = 4

only-predefined : (defined : TypeTable) → IsTrue (all_pass is_definable defined) → (s : Shape) → is_definable s ≡ false → (t : ℕ) → slice_get (predefined ++ defined) t ≡ Some s → t ≡ number_of s
only-predefined defined d s n zero e = ap number_of (some-injective e)
only-predefined defined d s n (suc zero) e = ap number_of (some-injective e)
only-predefined defined d s n (suc (suc zero)) e = ap number_of (some-injective e)
only-predefined defined d s n (suc (suc (suc zero))) e = ap number_of (some-injective e)
only-predefined defined d s n (suc (suc (suc (suc zero)))) e = absurd (true≢false (ap is_definable (some-injective e) ∙ n))
only-predefined defined d s n (suc (suc (suc (suc (suc zero))))) e = absurd (true≢false (ap is_definable (some-injective e) ∙ n))
only-predefined defined d s n (suc (suc (suc (suc (suc (suc zero)))))) e = absurd (true≢false (ap is_definable (some-injective e) ∙ n))
only-predefined defined d s n (suc (suc (suc (suc (suc (suc (suc zero))))))) e = absurd (true≢false (ap is_definable (some-injective e) ∙ n))
only-predefined defined d s n (suc (suc (suc (suc (suc (suc (suc (suc t)))))))) e = not_true (subst IsTrue n (every-in is_definable s defined d (got-IsIn defined t s e)))

-- what is used of a well-formed table here
pub record IsRegular (table : TypeTable) : Type 0 where
  pub has_boolean : HasShape table 0 boolean
  pub has_integer : HasShape table 1 integer
  pub has_text : HasShape table 2 text
  pub one_boolean : (t : ℕ) → HasShape table t boolean → t ≡ 0
  pub one_integer : (t : ℕ) → HasShape table t integer → t ≡ 1
  pub one_text : (t : ℕ) → HasShape table t text → t ≡ 2
  pub deep : AreShallow table

begins-regular : (defined : TypeTable) → IsTrue (all_pass is_definable defined) → AreShallow (predefined ++ defined) → IsRegular (predefined ++ defined)
begins-regular defined d deep = record {
  has_boolean = refl;
  has_integer = refl;
  has_text = refl;
  one_boolean = λ t e. only-predefined defined d boolean refl t e;
  one_integer = λ t e. only-predefined defined d integer refl t e;
  one_text = λ t e. only-predefined defined d text refl t e;
  deep = deep;
}

pub well_formed-regular : (exceptions : ℕ) (table : TypeTable) → IsWellFormedTable exceptions table → IsRegular table
well_formed-regular exceptions table w =
    let begins : BeginsPredefined table = w.predefined_types in
    subst IsRegular (sym begins.1) (begins-regular begins.0 begins.2 (subst AreShallow begins.1 w.shallow))

pub number-is : (o : Option ℕ) (t : ℕ) → Decides (is_number o t) (o ≡ Some t)
number-is None t = false-decides (λ e. none-not_some e)
number-is (Some u) t = through _ (λ e. ap Some e) (λ e. some-injective e) (numbers-decide u t)

-- a choice that a test makes
chosen-if : {P : Type 0} (b : Bool) (t u : ℕ) → Decides b P → (cond b (Some t) None ≡ Some u) ↔ ((u ≡ t) × P)
chosen-if true t u d = (λ e. (sym (some-injective e), d.0 refl), λ h. ap Some (sym h.0))
chosen-if false t u d = (λ e. none-not_some e, λ h. not_true (d.1 h.1))

given-if : (wanted type : ℕ) (o : Option ℕ) (u : ℕ) → (given_if wanted type o ≡ Some u) ↔ ((u ≡ type) × (o ≡ Some wanted))
given-if wanted type None u = (λ e. none-not_some e, λ h. none-not_some h.1)
given-if wanted type (Some t) u =
    let k = chosen-if (nat_eq t wanted) type u (numbers-decide t wanted) in
    (λ e. let r = k.0 e in (r.0, ap Some r.1), λ h. k.1 (h.0, some-injective h.1))

names-decide : (test : ℕ → Bool) (P : ℕ → Type 0) → ((n : ℕ) → Decides (test n) (P n)) → (o : Option Shape) → Decides (on_names test o) ((n : ℕ) × (o ≡ Some (names n)) × P n)
names-decide test P each (Some (names n)) = ((λ h. (n, refl, (each n).0 h)), λ h. (each n).1 (subst P (let e : h.0 ≡ n = cc h.1 in e) h.2))
names-decide test P each o = false-decides (λ h. let k : ⊥ = cc h.1 in k)

polymorph-decides : (o : Option Shape) → Decides (is_polymorph o) (o ≡ Some polymorph)
polymorph-decides (Some polymorph) = true-decides refl
polymorph-decides o = false-decides (λ e. let k : ⊥ = cc e in k)

apart-decide : (xs : List Path) → Decides (are_all_apart xs) (AreApart xs)
apart-decide [] = true-decides tt
apart-decide (x ∷ xs) = both-decide (all_pass (are_apart x) xs) _ (all-decide (are_apart x) (λ y. IsTrue (are_apart x y)) (λ y. ((λ h. h), λ h. h)) xs) (apart-decide xs)

module _ (table : TypeTable) (regular : IsRegular table) where
  shape-number : (o : Operator) (t : ℕ) → HasShape table t (shape_given o) ↔ (t ≡ number_of_shape (shape_given o))
  shape-number o t = by o
    where
      booleans : HasShape table t boolean ↔ (t ≡ 0)
      booleans = (regular.one_boolean t, λ e. subst (λ u. HasShape table u boolean) (sym e) regular.has_boolean)

      integers : HasShape table t integer ↔ (t ≡ 1)
      integers = (regular.one_integer t, λ e. subst (λ u. HasShape table u integer) (sym e) regular.has_integer)

      by : (o : Operator) → HasShape table t (shape_given o) ↔ (t ≡ number_of_shape (shape_given o))
      by logical_or = booleans
      by logical_and = booleans
      by equal = booleans
      by unequal = booleans
      by less = booleans
      by at_most = booleans
      by greater = booleans
      by at_least = booleans
      by plus = integers
      by minus = integers
      by times = integers
      by divided = integers
      by modulo = integers
      by concatenated = (regular.one_text t, λ e. subst (λ u. HasShape table u text) (sym e) regular.has_text)

  literal-is : (l : Literal) (t : ℕ) → (literal_type table l ≡ Some t) ↔ IsLiteralOf table l t
  literal-is (Literal.boolean b) t = (λ e. subst (λ u. HasShape table u boolean) (some-injective e) regular.has_boolean, λ h. ap Some (sym (regular.one_boolean t h)))
  literal-is (Literal.integer z) t =
      let k = chosen-if (is_integer z) 1 t ((λ h. h), λ h. h) in
      (λ e. let r = k.0 e in (subst (λ u. HasShape table u integer) (sym r.0) regular.has_integer, r.1), λ h. k.1 (regular.one_integer t h.0, h.1))
  literal-is (Literal.text bytes) t =
      let k = chosen-if (is_text bytes) 2 t ((λ h. h), λ h. h) in
      (λ e. let r = k.0 e in (subst (λ u. HasShape table u text) (sym r.0) regular.has_text, r.1), λ h. k.1 (regular.one_text t h.0, h.1))
  literal-is (Literal.tag type place) t =
      let k = chosen-if (on_names (nat_lt place) (slice_get table type)) type t (names-decide (nat_lt place) (λ n. IsTrue (nat_lt place n)) (λ n. ((λ h. h), λ h. h)) (slice_get table type)) in (
        λ e. let r = k.0 e in (r.0, r.1.0, subst (λ u. HasShape table u (names r.1.0)) (sym r.0) r.1.1, r.1.2),
        λ h. k.1 (h.0, (h.1, subst (λ u. HasShape table u (names h.1)) h.0 h.2, h.3)),
      )

  module _ (variables : List ℕ) where
    unless : (b : Bool) (o : Option ℕ) (t : ℕ) → (cond b None o ≡ Some t) ↔ ((o ≡ Some t) × IsFalse b)
    unless true o t = (λ e. none-not_some e, λ h. absurd (true≢false h.1))
    unless false o t = (λ e. (e, refl), λ h. h.0)

    seen : (p : Path) (t : ℕ) → (seen_type table variables p ≡ Some t) ↔ IsLookedAt table variables p t
    seen p t = unless (passes_out table variables p) (type_at table variables p) t

    own : (p : Path) (t : ℕ) → (own_type table variables p ≡ Some t) ↔ IsTarget table variables p t
    own p t =
        let k = unless (passes_component table variables p) (seen_type table variables p) t in
        (λ e. let r = k.0 e in ((seen p t).0 r.0, r.1), λ h. k.1 ((seen p t).1 h.0, h.1))

    number-own : (p : Path) (t : ℕ) → Decides (is_number (own_type table variables p) t) (IsTarget table variables p t)
    number-own p t = through _ (own p t).0 (own p t).1 (number-is (own_type table variables p) t)

    number-seen : (p : Path) (t : ℕ) → Decides (is_number (seen_type table variables p) t) (IsLookedAt table variables p t)
    number-seen p t = through _ (seen p t).0 (seen p t).1 (number-is (seen_type table variables p) t)

    copyable : (t : ℕ) → Decides (is_copyable_within greatest_depth table t) (IsCopyable table t)
    copyable = copyable-decides table regular.deep

    copied : (p : Path) (t : ℕ) → (copied_type table variables p ≡ Some t) ↔ (IsLookedAt table variables p t × IsCopyable table t)
    copied p t = (λ e. by (seen_type table variables p) refl e, λ h. ap (option_and_then (λ u. cond (is_copyable_within greatest_depth table u) (Some u) None)) ((seen p t).1 h.0) ∙ (chosen-if _ t t (copyable t)).1 (refl, h.1))
      where
        by : (o : Option ℕ) → seen_type table variables p ≡ o → option_and_then (λ u. cond (is_copyable_within greatest_depth table u) (Some u) None) o ≡ Some t → IsLookedAt table variables p t × IsCopyable table t
        by None s e = none-not_some e
        by (Some u) s e = let r = (chosen-if _ u t (copyable u)).0 e in ((seen p t).0 (s ∙ ap Some (sym r.0)), subst (IsCopyable table) (sym r.0) r.1)

    module _ (test : ℕ → Bool) (P : ℕ → Type 0) (each : (t : ℕ) → Decides (test t) (P t)) where
      at-own : (p : Path) → Decides (map_or false test (own_type table variables p)) ((t : ℕ) × IsTarget table variables p t × P t)
      at-own p = through _ (λ h. (h.0, (own p h.0).0 h.1, h.2)) (λ h. (h.0, (own p h.0).1 h.1, h.2)) (chosen-decides test P each (own_type table variables p))

      at-seen : (p : Path) → Decides (map_or false test (seen_type table variables p)) ((t : ℕ) × IsLookedAt table variables p t × P t)
      at-seen p = through _ (λ h. (h.0, (seen p h.0).0 h.1, h.2)) (λ h. (h.0, (seen p h.0).1 h.1, h.2)) (chosen-decides test P each (seen_type table variables p))

    table-decides : (p : Path) → Decides (is_table table variables p) ((u row : ℕ) × (key : List ℕ) × IsPathOf table variables p u × HasShape table u (rows row key))
    table-decides p =
        through _ (λ h. (h.0, h.2.0, h.2.1, h.1, h.2.2)) (λ h. (h.0, h.3, (h.1, h.2, h.4, tt)))
        (at-seen (λ t. on_rows (λ row key. true) (slice_get table t)) (λ t. (row : ℕ) × (key : List ℕ) × HasShape table t (rows row key) × Unit {0}) (λ t. rows-decide (λ row key. true) (λ row key. Unit {0}) (λ row key. true-decides tt) (slice_get table t)) p)

    operated : (o : Operator) (left right : Expression) (t : ℕ) → ((u : ℕ) → (expression_type table variables left ≡ Some u) ↔ IsTyped table variables left u) → ((u : ℕ) → (expression_type table variables right ≡ Some u) ↔ IsTyped table variables right u)
        → (expression_type table variables (operation o left right) ≡ Some t) ↔ IsTyped table variables (operation o left right) t
    operated o left right t l r = (λ e. to (expression_type table variables left) refl e, from)
      where
        given : Option ℕ → Option ℕ
        given = option_and_then (λ u. cond (map_or false (takes o) (slice_get table u) && is_number (expression_type table variables right) u) (Some (number_of_shape (shape_given o))) None)

        operands : (u : ℕ) → Decides (map_or false (takes o) (slice_get table u) && is_number (expression_type table variables right) u) (((s : Shape) × HasShape table u s × IsTrue (takes o s)) × (expression_type table variables right ≡ Some u))
        operands u = both-decide _ _ (chosen-decides (takes o) (λ s. IsTrue (takes o s)) (λ s. ((λ h. h), λ h. h)) (slice_get table u)) (number-is (expression_type table variables right) u)

        to : (x : Option ℕ) → expression_type table variables left ≡ x → given x ≡ Some t → IsTyped table variables (operation o left right) t
        to None i e = none-not_some e
        to (Some u) i e =
            let k = (chosen-if _ (number_of_shape (shape_given o)) t (operands u)).0 e in
            ((shape-number o t).1 k.0, u, k.1.0.0, k.1.0.1, k.1.0.2, (l u).0 i, (r u).0 k.1.1)

        from : IsTyped table variables (operation o left right) t → given (expression_type table variables left) ≡ Some t
        from h = ap given ((l h.1).1 h.5) ∙ (chosen-if _ (number_of_shape (shape_given o)) t (operands h.1)).1 ((shape-number o t).0 h.0, ((h.2, h.3, h.4), (r h.1).1 h.6))

    expression-is : (e : Expression) (t : ℕ) → (expression_type table variables e ≡ Some t) ↔ IsTyped table variables e t
    expression-is (literal l) t = literal-is l t
    expression-is (copy p) t = copied p t
    expression-is (negation e) t =
        let k = given-if 1 1 (expression_type table variables e) t in (
          λ h. let r = k.0 h in (subst (λ u. HasShape table u integer) (sym r.0) regular.has_integer, 1, regular.has_integer, (expression-is e 1).0 r.1),
          λ h. k.1 (regular.one_integer t h.0, (expression-is e 1).1 (subst (IsTyped table variables e) (regular.one_integer h.1 h.2) h.3)),
        )
    expression-is (logical_not e) t =
        let k = given-if 0 0 (expression_type table variables e) t in (
          λ h. let r = k.0 h in (subst (λ u. HasShape table u boolean) (sym r.0) regular.has_boolean, 0, regular.has_boolean, (expression-is e 0).0 r.1),
          λ h. k.1 (regular.one_boolean t h.0, (expression-is e 0).1 (subst (IsTyped table variables e) (regular.one_boolean h.1 h.2) h.3)),
        )
    expression-is (operation o left right) t = operated o left right t (expression-is left) (expression-is right)
    expression-is (size_of p) t =
        let k = chosen-if (is_table table variables p) 1 t (table-decides p) in (
          λ h. let r = k.0 h in (subst (λ u. HasShape table u integer) (sym r.0) regular.has_integer, r.1.0, r.1.1, r.1.2, r.1.3, r.1.4),
          λ h. k.1 (regular.one_integer t h.0, (h.1, h.2, h.3, h.4, h.5)),
        )
    expression-is (decimal e) t =
        let k = given-if 1 2 (expression_type table variables e) t in (
          λ h. let r = k.0 h in (subst (λ u. HasShape table u text) (sym r.0) regular.has_text, 1, regular.has_integer, (expression-is e 1).0 r.1),
          λ h. k.1 (regular.one_text t h.0, (expression-is e 1).1 (subst (IsTyped table variables e) (regular.one_integer h.1 h.2) h.3)),
        )
    expression-is (length_of e) t =
        let k = given-if 2 1 (expression_type table variables e) t in (
          λ h. let r = k.0 h in (subst (λ u. HasShape table u integer) (sym r.0) regular.has_integer, 2, regular.has_text, (expression-is e 2).0 r.1),
          λ h. k.1 (regular.one_integer t h.0, (expression-is e 2).1 (subst (IsTyped table variables e) (regular.one_text h.1 h.2) h.3)),
        )

    atom-is : (a : Atom) (t : ℕ) → (atom_type table variables a ≡ Some t) ↔ IsTypedAtom table variables a t
    atom-is (Atom.literal l) t = literal-is l t
    atom-is (path p) t = copied p t

    argument-decides : (m : Mode) (a : Atom) (t : ℕ) → Decides (is_argument table variables m a t) (IsArgument table variables m a t)
    argument-decides by_in a t = through _ (atom-is a t).0 (atom-is a t).1 (number-is (atom_type table variables a) t)
    argument-decides by_inout (Atom.literal l) t = false-decides (λ h. h)
    argument-decides by_inout (path p) t = number-own p t
    argument-decides by_out (Atom.literal l) t = false-decides (λ h. h)
    argument-decides by_out (path p) t = number-own p t

    arguments-decide : (ps : List Parameter) (atoms : List Atom) → Decides (are_arguments table variables ps atoms) (AreArguments table variables ps atoms)
    arguments-decide [] [] = true-decides tt
    arguments-decide [] (a ∷ atoms) = false-decides (λ h. h)
    arguments-decide (p ∷ ps) [] = false-decides (λ h. h)
    arguments-decide (p ∷ ps) (a ∷ atoms) = both-decide (is_argument table variables p.mode a p.content) _ (argument-decides p.mode a p.content) (arguments-decide ps atoms)

    keys-decide : (ts key : List ℕ) (atoms : List Atom) → Decides (are_keys table variables ts key atoms) (AreKeysOf table variables ts key atoms)
    keys-decide ts [] [] = true-decides tt
    keys-decide ts [] (a ∷ atoms) = false-decides (λ h. h)
    keys-decide ts (i ∷ key) [] = false-decides (λ h. h)
    keys-decide ts (i ∷ key) (a ∷ atoms) =
        both-decide (map_or false (is_number (atom_type table variables a)) (slice_get ts i)) _
        (chosen-decides (is_number (atom_type table variables a)) (IsTypedAtom table variables a) (λ t. through _ (atom-is a t).0 (atom-is a t).1 (number-is (atom_type table variables a) t)) (slice_get ts i))
        (keys-decide ts key atoms)

    module _ (test : ℕ → List ℕ → Bool) (P : ℕ → List ℕ → Type 0) (each : (row : ℕ) (key : List ℕ) → Decides (test row key) (P row key)) where
      at_table-decides : (p : Path) → Decides (at_table table variables p test) ((row : ℕ) × (key : List ℕ) × IsTableOf table variables p row key × P row key)
      at_table-decides p =
          through _ (λ h. (h.2.0, h.2.1, (h.0, h.1, h.2.2), h.2.3)) (λ h. ((h.2).0, (h.2).1, (h.0, h.1, (h.2).2, h.3)))
          (at-seen (λ t. on_rows test (slice_get table t)) (λ t. (row : ℕ) × (key : List ℕ) × HasShape table t (rows row key) × P row key) (λ t. rows-decide test P each (slice_get table t)) p)

    module _ (test : ℕ → Bool) (P : ℕ → Type 0) (each : (t : ℕ) → Decides (test t) (P t)) where
      inport_at-decides : (t : ℕ) → Decides (on_inport (λ message declared. test message) (slice_get table t)) ((message : ℕ) × (declared : List Fact) × HasShape table t (inport message declared) × P message)
      inport_at-decides t = inport-decides (λ message declared. test message) (λ message declared. P message) (λ message declared. each message) (slice_get table t)

      at_outport-decides : (o : Path) → Decides (at_outport table variables o test) ((message : ℕ) × GoesTo table variables o message × P message)
      at_outport-decides o =
          through _ (λ h. (h.2.2.0, (h.0, h.2.0, h.2.2.1, h.1, h.2.1, h.2.2.2), h.2.2.3)) (λ h. ((h.1).0, (h.1).3, ((h.1).1, (h.1).4, (h.0, (h.1).2, (h.1).5, h.2))))
          (at-seen (λ t. on_outport (λ port. on_inport (λ message declared. test message) (slice_get table port)) (slice_get table t)) (λ t. (port : ℕ) × HasShape table t (outport port) × ((message : ℕ) × (declared : List Fact) × HasShape table port (inport message declared) × P message))
          (λ t. outport-decides (λ port. on_inport (λ message declared. test message) (slice_get table port)) (λ port. (message : ℕ) × (declared : List Fact) × HasShape table port (inport message declared) × P message) inport_at-decides (slice_get table t)) o)

      at_inport-decides : (i : Path) → Decides (at_inport table variables i test) ((message : ℕ) × ComesFrom table variables i message × P message)
      at_inport-decides i =
          through _ (λ h. (h.2.0, (h.0, h.2.1, h.1, h.2.2), h.2.3)) (λ h. ((h.1).0, (h.1).2, (h.0, (h.1).1, (h.1).3, h.2)))
          (at-seen (λ t. on_inport (λ message declared. test message) (slice_get table t)) (λ t. (message : ℕ) × (declared : List Fact) × HasShape table t (inport message declared) × P message) inport_at-decides i)

      component-decides : (t c : ℕ) → Decides (at_component_type table variables t c test) ((u : ℕ) × IsComponent table t c u × P u)
      component-decides t c =
          through _ (λ h. (h.2.0, (h.0, h.1, h.2.1), h.2.2)) (λ h. ((h.1).0, (h.1).1, (h.0, (h.1).2, h.2)))
          (cases-decide (λ ts. map_or false test (slice_get ts c)) (λ ts. (u : ℕ) × (slice_get ts c ≡ Some u) × P u) (λ ts. chosen-decides test P each (slice_get ts c)) (slice_get table t))

    found-decides : (r t : Path) (keys : List Atom) (test : ℕ → Bool) (P : ℕ → Type 0) → ((row : ℕ) → Decides (test row) (P row)) → Decides (is_found table variables r t keys test) ((row : ℕ) × IsFound table variables r t keys row × P row)
    found-decides r t keys test P each =
        through _ (λ h. (h.0, (h.1, h.3.1.1.0, h.2, h.3.0, h.3.1.1.1, h.3.1.1.2), h.3.1.0)) (λ h. (h.0, (h.1).0, (h.1).2, ((h.1).3, (h.2, ((h.1).1, (h.1).4, (h.1).5)))))
        (at_table-decides (λ row key. is_number (own_type table variables r) row && test row && on_fields (λ ts. are_keys table variables ts key keys) (slice_get table row))
        (λ row key. IsTarget table variables r row × (P row × ((ts : List ℕ) × HasShape table row (fields ts) × AreKeysOf table variables ts key keys)))
        (λ row key. through _ (λ h. (h.0.0, (h.0.1, h.1))) (λ h. ((h.0, h.1.0), h.1.1)) (both-decide (is_number (own_type table variables r) row && test row) _ (both-decide (is_number (own_type table variables r) row) _ (number-own r row) (each row))
        (fields-decide (λ ts. are_keys table variables ts key keys) (λ ts. AreKeysOf table variables ts key keys) (λ ts. keys-decide ts key keys) (slice_get table row)))) t)

    received-decides : (x i : Path) → Decides (is_received table variables x i) (IsReceived table variables x i)
    received-decides x i = at_inport-decides (is_number (own_type table variables x)) (IsTarget table variables x) (number-own x) i

    returned-decides : (m : Path) (test : List Raised → Bool) (P : List Raised → Type 0) → ((rs : List Raised) → Decides (test rs) (P rs)) → Decides (at_returned table variables m test) ((rs : List Raised) × IsReturned table variables m rs × P rs)
    returned-decides m test P each =
        through _ (λ h. (h.2.1, (h.0, h.2.0, h.1, h.2.2), h.2.3)) (λ h. ((h.1).0, (h.1).2, ((h.1).1, h.0, (h.1).3, h.2)))
        (at-own (λ t. on_callmessage (λ ps rs. test rs) (slice_get table t)) (λ t. (ps : List Parameter) × (rs : List Raised) × HasShape table t (callmessage ps rs) × P rs)
        (λ t. callmessage-decides (λ ps rs. test rs) (λ ps rs. P rs) (λ ps rs. each rs) (slice_get table t)) m)

    test-decides : (e : Expression) → Decides (is_test table variables e) ((t : ℕ) × HasShape table t boolean × IsTyped table variables e t)
    test-decides e =
        through _ (λ h. (0, regular.has_boolean, (expression-is e 0).0 h)) (λ h. (expression-is e 0).1 (subst (IsTyped table variables e) (regular.one_boolean h.0 h.1) h.2))
        (number-is (expression_type table variables e) 0)

    -- the arms of a `case`
    covers-decide : (cs : List ℕ) (n : ℕ) → Decides (are_different nat_eq cs && (all_pass (λ c. nat_lt c n) cs && all_pass (λ c. any_pass (nat_eq c) cs) (range 0 n))) (Differ cs × ((c : ℕ) → IsIn c cs ↔ (c < n)))
    covers-decide cs n =
        through _ (λ h. (h.0, λ c. (h.1.0 c, h.1.1 c))) (λ h. (h.0, (λ c i. (h.1 c).0 i, λ c l. (h.1 c).1 l)))
        (both-decide (are_different nat_eq cs) _ (different-decides nat_eq numbers-decide cs)
        (both-decide (all_pass (λ c. nat_lt c n) cs) _ (all-decide (λ c. nat_lt c n) (λ c. c < n) (λ c. below-decides c n) cs)
        (range-decides (λ c. any_pass (nat_eq c) cs) (λ c. IsIn c cs) (λ c. member-decides nat_eq numbers-decide c cs) n)))

    module _ (exceptions : ℕ) (processes : List Process) where
      pub form-decides : (form : Form) → Decides (is_typed_form table variables exceptions processes form) (IsTypedForm table variables exceptions processes form)
      form-decides (Assign x e) = at-own (is_number (expression_type table variables e)) (IsTyped table variables e) (λ t. through _ (expression-is e t).0 (expression-is e t).1 (number-is (expression_type table variables e) t)) x
      form-decides (Move y x) =
          through _ (λ h. (h.0.0, h.0.1, h.0.2, h.1)) (λ h. ((h.0, h.1, h.2), h.3))
          (both-decide _ (are_apart y x) (at-own (is_number (own_type table variables x)) (IsTarget table variables x) (number-own x) y) (itself (are_apart y x)))
      form-decides (New x) =
          through _ (λ h. (h.0, h.2.0, h.1, h.2.1, h.2.2)) (λ h. (h.0, h.2, (h.1, h.3, h.4)))
          (at-own (λ t. map_or false can_be_new (slice_get table t)) (λ t. (s : Shape) × HasShape table t s × IsTrue (can_be_new s)) (λ t. chosen-decides can_be_new (λ s. IsTrue (can_be_new s)) (λ s. itself (can_be_new s)) (slice_get table t)) x)
      form-decides (Discard x) = through _ (λ h. (h.0, (own x h.0).0 h.1)) (λ h. (h.0, (own x h.0).1 h.1)) (there-decides (own_type table variables x))
      form-decides (Unite v c y) =
          through _ (λ h. (h.0.0, h.0.2.0, h.0.1, h.0.2.1, h.0.2.2, h.1)) (λ h. ((h.0, h.2, (h.1, h.3, h.4)), h.5))
          (both-decide _ (are_apart y v) (at-own (λ t. at_component_type table variables t c (is_number (own_type table variables y))) (λ t. (u : ℕ) × IsComponent table t c u × IsTarget table variables y u) (λ t. component-decides (is_number (own_type table variables y)) (IsTarget table variables y) (number-own y) t c) v) (itself (are_apart y v)))
      form-decides (Dissolve v c y) =
          through _ (λ h. (h.0.0, h.0.2.0, h.0.1, h.0.2.1, h.0.2.2, h.1)) (λ h. ((h.0, h.2, (h.1, h.3, h.4)), h.5))
          (both-decide _ (are_apart v y) (at-own (λ t. at_component_type table variables t c (is_number (own_type table variables y))) (λ t. (u : ℕ) × IsComponent table t c u × IsTarget table variables y u) (λ t. component-decides (is_number (own_type table variables y)) (IsTarget table variables y) (number-own y) t c) v) (itself (are_apart v y)))
      form-decides (Reveal v c) =
          through _ (λ h. (h.0, h.2.0, h.1, h.2.1)) (λ h. (h.0, h.2, (h.1, h.3, tt)))
          (at-seen (λ t. at_component_type table variables t c (λ u. true)) (λ t. (u : ℕ) × IsComponent table t c u × Unit {0}) (λ t. component-decides (λ u. true) (λ u. Unit {0}) (λ u. true-decides tt) t c) v)
      form-decides (Case v cs) =
          through _ (λ h. (h.0, h.2.0, h.1, h.2.1, h.2.2.0, h.2.2.1)) (λ h. (h.0, h.2, (h.1, h.3, (h.4, h.5))))
          (at-seen (λ t. on_cases (λ ts. are_different nat_eq cs && (all_pass (λ c. nat_lt c (length ts)) cs && all_pass (λ c. any_pass (nat_eq c) cs) (range 0 (length ts)))) (slice_get table t)) (λ t. (ts : List ℕ) × HasShape table t (cases ts) × (Differ cs × ((c : ℕ) → IsIn c cs ↔ (c < length ts))))
          (λ t. cases-decide (λ ts. are_different nat_eq cs && (all_pass (λ c. nat_lt c (length ts)) cs && all_pass (λ c. any_pass (nat_eq c) cs) (range 0 (length ts)))) (λ ts. Differ cs × ((c : ℕ) → IsIn c cs ↔ (c < length ts))) (λ ts. covers-decide cs (length ts)) (slice_get table t)) v)
      form-decides (Wrap y p) =
          through _ (λ h. (h.0.0.0, h.0.1.0, h.0.0.1, h.0.1.1, h.0.1.2, h.1)) (λ h. (((h.0, h.2), (h.1, h.3, h.4)), h.5))
          (both-decide _ (are_apart y p) (both-decide (is_some (own_type table variables y)) _ (form-decides_own y) (polymorph_at-decides p)) (itself (are_apart y p)))
        where
          form-decides_own : (y : Path) → Decides (is_some (own_type table variables y)) ((t : ℕ) × IsTarget table variables y t)
          form-decides_own y = through _ (λ h. (h.0, (own y h.0).0 h.1)) (λ h. (h.0, (own y h.0).1 h.1)) (there-decides (own_type table variables y))

          polymorph_at-decides : (p : Path) → Decides (map_or false (λ t. is_polymorph (slice_get table t)) (own_type table variables p)) ((t : ℕ) × IsTarget table variables p t × HasShape table t polymorph)
          polymorph_at-decides p = at-own (λ t. is_polymorph (slice_get table t)) (λ t. HasShape table t polymorph) (λ t. polymorph-decides (slice_get table t)) p
      form-decides (Unwrap p t y) =
          through _ (λ h. (h.0.1.0, h.0.1.1, h.0.1.2, h.0.0, h.1)) (λ h. ((h.3, (h.0, h.1, h.2)), h.4))
          (both-decide _ (are_apart p y) (both-decide (is_number (own_type table variables y) t) _ (number-own y t) (at-own (λ u. is_polymorph (slice_get table u)) (λ u. HasShape table u polymorph) (λ u. polymorph-decides (slice_get table u)) p)) (itself (are_apart p y)))
      form-decides (Insert r t) = at_table-decides (λ row key. is_number (own_type table variables r) row) (λ row key. IsTarget table variables r row) (λ row key. number-own r row) t
      form-decides (Remove r t keys) = through _ (λ h. (h.0, h.1)) (λ h. (h.0, h.1, tt)) (found-decides r t keys (λ row. true) (λ row. Unit {0}) (λ row. true-decides tt))
      form-decides (Get r t keys) = found-decides r t keys (is_copyable_within greatest_depth table) (IsCopyable table) copyable
      form-decides (For r t) =
          through _ (λ h. (h.0, h.1, h.2, h.3.0, h.3.1)) (λ h. (h.0, h.1, h.2, (h.3, h.4)))
          (at_table-decides (λ row key. is_number (own_type table variables r) row && is_copyable_within greatest_depth table row) (λ row key. IsTarget table variables r row × IsCopyable table row) (λ row key. both-decide (is_number (own_type table variables r) row) _ (number-own r row) (copyable row)) t)
      form-decides (Connect o i) =
          through _ (λ h. (h.0, h.2.0, h.1, h.2.1, h.2.2)) (λ h. (h.0, h.2, (h.1, h.3, h.4)))
          (at-own (λ t. on_outport (is_number (seen_type table variables i)) (slice_get table t)) (λ t. (port : ℕ) × HasShape table t (outport port) × IsLookedAt table variables i port) (λ t. outport-decides (is_number (seen_type table variables i)) (IsLookedAt table variables i) (number-seen i) (slice_get table t)) o)
      form-decides (Send x o) = at_outport-decides (is_number (own_type table variables x)) (IsTarget table variables x) (number-own x) o
      form-decides (Receive x i) = received-decides x i
      form-decides (Select arms) = both-decide (are_different same_path (map (λ (a : Arm). a.port) arms)) _ (different-decides same_path paths-decide (map (λ (a : Arm). a.port) arms)) (all-decide (λ (a : Arm). is_received table variables a.target a.port) (λ (a : Arm). IsReceived table variables a.target a.port) (λ (a : Arm). received-decides a.target a.port) arms)
      form-decides (Call o arguments) =
          through _ (λ h. (h.0.0, h.0.2.0, h.0.2.1, h.0.1, h.0.2.2, h.0.2.3, h.1)) (λ h. ((h.0, h.3, (h.1, h.2, h.4, h.5)), h.6))
          (both-decide _ (are_all_apart (set_by_call table variables o arguments)) (at_outport-decides (λ message. on_callmessage (λ ps rs. are_arguments table variables ps arguments) (slice_get table message)) (λ message. (ps : List Parameter) × (rs : List Raised) × HasShape table message (callmessage ps rs) × AreArguments table variables ps arguments)
          (λ message. callmessage-decides (λ ps rs. are_arguments table variables ps arguments) (λ ps rs. AreArguments table variables ps arguments) (λ ps rs. arguments-decide ps arguments) (slice_get table message)) o) (apart-decide (set_by_call table variables o arguments)))
      form-decides (Return m) = through _ (λ h. (h.0, h.1)) (λ h. (h.0, h.1, tt)) (returned-decides m (λ rs. true) (λ rs. Unit {0}) (λ rs. true-decides tt))
      form-decides (ReturnBy m e) = returned-decides m (λ rs. any_pass (nat_eq e) (map (λ (r : Raised). r.exception) rs)) (λ rs. IsIn e (map (λ (r : Raised). r.exception) rs)) (λ rs. member-decides nat_eq numbers-decide e (map (λ (r : Raised). r.exception) rs))
      form-decides (Create o n) =
          through _ (λ h. (h.0, h.2.0, h.1, h.2.1, h.2.2)) (λ h. (h.0, h.2, (h.1, h.3, h.4)))
          (at-own (λ t. on_outport (is_number (port_type processes n)) (slice_get table t)) (λ t. (port : ℕ) × HasShape table t (outport port) × (port_type processes n ≡ Some port)) (λ t. outport-decides (is_number (port_type processes n)) (λ port. port_type processes n ≡ Some port) (number-is (port_type processes n)) (slice_get table t)) o)
      form-decides (If e) = test-decides e
      form-decides (While e) = test-decides e
      form-decides (Raise e) = below-decides e exceptions
      form-decides Leave = true-decides tt
