-- The tests of tables decide which are well formed.
use Rattle.std.proofs.Common.{◌≡◌, ℕ, zero, suc, ◌+◌, ◌<◌, ◌≤◌, List, [], ◌∷◌, ◌++◌, map, filter, flat_map, length, Bool, true, false, not, cond, ◌&&◌, ◌||◌, ◌⊎◌, inl, inr, nat_eq, nat_lt, nat_le, Option, Some, None, is_some, slice_get, option_and_then, IsTrue, refl, sym, ap, subst, ◌∙◌, arith, append-nil, true≢false}
use Rattle.herm_model.specs.Lists.{IsIn, all_pass, any_pass, map_or, list_of}
use Rattle.herm_model.specs.Paths.{Path, Fact, init, case, path_of, same_path, same_fact}
use Rattle.herm_model.specs.Types.{Mode, by_in, by_inout, by_out, Parameter, Raised, Shape, fields, cases, rows, inport, outport, callmessage, TypeTable, predefined, named_types, is_within_depth, greatest_depth, all_parts, full_parts, part_paths_within, part_paths}
use Rattle.herm_model.specs.Copyable.{IsCopyable, plain, composed, is_copyable_within}
use Rattle.herm_model.specs.Facts.{full_facts}
use Rattle.herm_model.specs.Calls.{is_returned}
use Rattle.herm_model.specs.Outcomes.{disconnected}
use Rattle.herm_model.specs.Statements.{Differ}
use Rattle.herm_model.specs.laws.FlowLaws.{Rise}
use Rattle.herm_model.specs.TypedExpressions.{is_scalar_shape}
use Rattle.herm_model.specs.WellFormedTables.{predefined_exceptions, greatest_paths, is_definable, BeginsPredefined, Reaches, at_once, further, field_below, IsType, NamesTypes, IsScalarField, HasKey, LeadsToInport, CopiesInputs, IsFieldPath, IsOfField, IsOfFullField, DeclaresFields, DeclaresOneCase, RaisesKnown, RaisesDifferent, KeepsReturned, KeepsRising, KeepsNoneDisconnected, IsWellFormedTable}
use Rattle.herm_model.specs.tests.TableTests.{are_different, do_rise, on_fields, on_cases, on_rows, on_inport, on_outport, on_callmessage, if_input, names_types, is_scalar_field, has_keys, leads_to_inport, copies_inputs, field_path_type, is_of_field, is_of_full_at, is_of_full_field, declares_fields, agree, declares_one_case, raises_known, raises_different, keeps_returned, keeps_rising, is_none_kept, keeps_none_disconnected, TableRule, predefined_types, enough_exceptions, types_known, exceptions_known, exceptions_differ, shallow, few_paths, keys, outports, inputs_copyable, facts_of_fields, one_case, kept_returned, kept_rising, kept_disconnected, table_rules, of_each_type, keeps_table_rule, broken_table_rules}
use Rattle.herm_model.specs.laws.TypedLaws.{TableKeeps, TestsDecideTables, NoneBrokenIsWellFormed}
use Rattle.herm_model.proofs.Lists.{not_true, every-in, or-either, cons-not_nil, cons-tail}
use Rattle.herm_model.proofs.Options.{none-not_some}
use Rattle.herm_model.proofs.Copyable.{copyable-is, is-copyable, within-more}
use Rattle.herm_model.proofs.Deciding.{Decides, through, both-decide, either-decides, true-decides, false-decides, not-decides, numbers-decide, below-decides, at_most-decides, paths-decide, facts-decide, there-decides, all-decide, some-decides, chosen-decides, got-decides, member-decides, different-decides, rise-decides, range-decides}

-- tests of what a shape has
pub fields-decide : (test : List ℕ → Bool) (P : List ℕ → Type 0) → ((ts : List ℕ) → Decides (test ts) (P ts)) → (o : Option Shape) → Decides (on_fields test o) ((ts : List ℕ) × (o ≡ Some (fields ts)) × P ts)
fields-decide test P each (Some (fields ts)) = ((λ h. (ts, refl, (each ts).0 h)), λ h. (each ts).1 (subst P (let e : h.0 ≡ ts = cc h.1 in e) h.2))
fields-decide test P each o = false-decides (λ h. let k : ⊥ = cc h.1 in k)

pub cases-decide : (test : List ℕ → Bool) (P : List ℕ → Type 0) → ((ts : List ℕ) → Decides (test ts) (P ts)) → (o : Option Shape) → Decides (on_cases test o) ((ts : List ℕ) × (o ≡ Some (cases ts)) × P ts)
cases-decide test P each (Some (cases ts)) = ((λ h. (ts, refl, (each ts).0 h)), λ h. (each ts).1 (subst P (let e : h.0 ≡ ts = cc h.1 in e) h.2))
cases-decide test P each o = false-decides (λ h. let k : ⊥ = cc h.1 in k)

pub outport-decides : (test : ℕ → Bool) (P : ℕ → Type 0) → ((t : ℕ) → Decides (test t) (P t)) → (o : Option Shape) → Decides (on_outport test o) ((t : ℕ) × (o ≡ Some (outport t)) × P t)
outport-decides test P each (Some (outport t)) = ((λ h. (t, refl, (each t).0 h)), λ h. (each t).1 (subst P (let e : h.0 ≡ t = cc h.1 in e) h.2))
outport-decides test P each o = false-decides (λ h. let k : ⊥ = cc h.1 in k)

pub rows-decide : (test : ℕ → List ℕ → Bool) (P : ℕ → List ℕ → Type 0) → ((t : ℕ) (key : List ℕ) → Decides (test t key) (P t key)) → (o : Option Shape) → Decides (on_rows test o) ((t : ℕ) × (key : List ℕ) × (o ≡ Some (rows t key)) × P t key)
rows-decide test P each (Some (rows t key)) = ((λ h. (t, key, refl, (each t key).0 h)), λ h. (each t key).1 (subst (P t) (let e : h.1 ≡ key = cc h.2 in e) (subst (λ u. P u h.1) (let e : h.0 ≡ t = cc h.2 in e) h.3)))
rows-decide test P each o = false-decides (λ h. let k : ⊥ = cc h.2 in k)

pub inport-decides : (test : ℕ → List Fact → Bool) (P : ℕ → List Fact → Type 0) → ((t : ℕ) (fs : List Fact) → Decides (test t fs) (P t fs)) → (o : Option Shape) → Decides (on_inport test o) ((t : ℕ) × (fs : List Fact) × (o ≡ Some (inport t fs)) × P t fs)
inport-decides test P each (Some (inport t fs)) = ((λ h. (t, fs, refl, (each t fs).0 h)), λ h. (each t fs).1 (subst (P t) (let e : h.1 ≡ fs = cc h.2 in e) (subst (λ u. P u h.1) (let e : h.0 ≡ t = cc h.2 in e) h.3)))
inport-decides test P each o = false-decides (λ h. let k : ⊥ = cc h.2 in k)

pub callmessage-decides : (test : List Parameter → List Raised → Bool) (P : List Parameter → List Raised → Type 0) → ((ps : List Parameter) (rs : List Raised) → Decides (test ps rs) (P ps rs)) → (o : Option Shape) → Decides (on_callmessage test o) ((ps : List Parameter) × (rs : List Raised) × (o ≡ Some (callmessage ps rs)) × P ps rs)
callmessage-decides test P each (Some (callmessage ps rs)) = ((λ h. (ps, rs, refl, (each ps rs).0 h)), λ h. (each ps rs).1 (subst (P ps) (let e : h.1 ≡ rs = cc h.2 in e) (subst (λ u. P u h.1) (let e : h.0 ≡ ps = cc h.2 in e) h.3)))
callmessage-decides test P each o = false-decides (λ h. let k : ⊥ = cc h.2 in k)

-- where all types are within the depth, the test of copyable types decides
abbrev pub AreShallow : TypeTable → Type 0
AreShallow table = (t : ℕ) → IsType table t → IsTrue (is_within_depth greatest_depth table t)

copyable-type : (table : TypeTable) (t : ℕ) → IsCopyable table t → IsType table t
copyable-type table t (plain u s e p) = ap is_some e
copyable-type table t (composed u s e p each) = ap is_some e

pub copyable-decides : (table : TypeTable) → AreShallow table → (t : ℕ) → Decides (is_copyable_within greatest_depth table t) (IsCopyable table t)
copyable-decides table deep t = (copyable-is table greatest_depth t, λ c. is-copyable table greatest_depth t (deep t (copyable-type table t c)) c)

-- the facts of a full value begin with that there is one
full-root : (table : TypeTable) (t : ℕ) (p : Path) (f : Fact) → IsIn f (full_facts table t p) → IsIn (init (p ++ [])) (full_facts table t p)
full-root table t p f h = by (λ s. flat_map (λ (part : ℕ × ℕ). map (part.0 ∷◌) (part_paths_within full_parts 31 table part.1)) (full_parts s)) (slice_get table t) h
  where
    by : (below : Shape → List (List ℕ)) (o : Option Shape) → IsIn f (map (λ q. init (p ++ q)) (map_or [] (λ s. [] ∷ below s) o)) → IsIn (init (p ++ [])) (map (λ q. init (p ++ q)) (map_or [] (λ s. [] ∷ below s) o))
    by below None h = absurd h
    by below (Some s) h = inl refl

module _ (table : TypeTable) where
  names-decide : (s : Shape) → Decides (names_types table s) (NamesTypes table s)
  names-decide s = all-decide (λ t. is_some (slice_get table t)) (IsType table) (λ t. ((λ h. h), λ h. h)) (named_types s)

  field-decides : (ts : List ℕ) (i : ℕ) → Decides (is_scalar_field table ts i) (IsScalarField table ts i)
  field-decides ts i =
      through _ (λ h. (h.0, h.2.0, h.1, h.2.1, h.2.2)) (λ h. (h.0, h.2, (h.1, h.3, h.4)))
      (chosen-decides (λ t. map_or false is_scalar_shape (slice_get table t)) (λ t. (s : Shape) × (slice_get table t ≡ Some s) × IsTrue (is_scalar_shape s))
      (λ t. chosen-decides is_scalar_shape (λ s. IsTrue (is_scalar_shape s)) (λ s. ((λ h. h), λ h. h)) (slice_get table t)) (slice_get ts i))

  keys-decide : (s : Shape) → Decides (has_keys table s) (HasKey table s)
  keys-decide (rows row key) =
      through _ (λ h. (h.0, h.1, h.2.0, h.2.1)) (λ h. (h.0, h.1, (h.2, h.3)))
      (fields-decide (λ ts. are_different nat_eq key && all_pass (is_scalar_field table ts) key) (λ ts. Differ key × ((i : ℕ) → IsIn i key → IsScalarField table ts i))
      (λ ts. both-decide (are_different nat_eq key) _ (different-decides nat_eq numbers-decide key) (all-decide (is_scalar_field table ts) (IsScalarField table ts) (field-decides ts) key)) (slice_get table row))
  keys-decide s = true-decides tt

  outports-decide : (s : Shape) → Decides (leads_to_inport table s) (LeadsToInport table s)
  outports-decide (outport port) =
      through _ (λ h. (h.0, h.1, h.2)) (λ h. (h.0, h.1, h.2, tt))
      (inport-decides (λ message declared. true) (λ message declared. Unit {0}) (λ message declared. true-decides tt) (slice_get table port))
  outports-decide s = true-decides tt

  input-decides : AreShallow table → (m : Mode) (t : ℕ) → Decides (if_input m (is_copyable_within greatest_depth table t)) (m ≡ by_in → IsCopyable table t)
  input-decides deep by_in t = through _ (λ h e. h) (λ h. h refl) (copyable-decides table deep t)
  input-decides deep by_inout t = true-decides (λ e. let k : ⊥ = cc e in absurd k)
  input-decides deep by_out t = true-decides (λ e. let k : ⊥ = cc e in absurd k)

  inputs-decide : AreShallow table → (s : Shape) → Decides (copies_inputs table s) (CopiesInputs table s)
  inputs-decide deep (callmessage ps rs) = all-decide (λ (p : Parameter). if_input p.mode (is_copyable_within greatest_depth table p.content)) (λ (p : Parameter). p.mode ≡ by_in → IsCopyable table p.content) (λ (p : Parameter). input-decides deep p.mode p.content) ps
  inputs-decide deep s = true-decides tt

  module _ (message : ℕ) where
    path-is : (p : Path) (t : ℕ) → field_path_type table message p ≡ Some t → IsFieldPath table message p t
    path-is [] t e = none-not_some e
    path-is (v ∷ []) t e = none-not_some e
    path-is (v ∷ i ∷ q) t e = by (nat_eq v 0) refl e
      where
        by : (b : Bool) → nat_eq v 0 ≡ b → cond b (field_below table (Some message) (i ∷ q)) None ≡ Some t → IsFieldPath table message (v ∷ i ∷ q) t
        by true z e = ((numbers-decide v 0).0 z, e)
        by false z e = none-not_some e

    is-path : (p : Path) (t : ℕ) → IsFieldPath table message p t → field_path_type table message p ≡ Some t
    is-path [] t h = absurd h
    is-path (v ∷ []) t h = absurd h
    is-path (v ∷ i ∷ q) t h = ap (λ b. cond b (field_below table (Some message) (i ∷ q)) None) ((numbers-decide v 0).1 h.0) ∙ h.1

    of_field-decides : (f : Fact) → Decides (is_of_field table message f) (IsOfField table message f)
    of_field-decides (init p) = through _ (λ h. (h.0, path-is p h.0 h.1)) (λ h. (h.0, is-path p h.0 h.1)) (there-decides (field_path_type table message p))
    of_field-decides (case p c) =
        through _ to from (cases-decide (λ ts. nat_lt c (length ts)) (λ ts. c < length ts) (λ ts. below-decides c (length ts)) (option_and_then (slice_get table) (field_path_type table message p)))
      where
        Component : Type 0
        Component = (ts : List ℕ) × (option_and_then (slice_get table) (field_path_type table message p) ≡ Some (cases ts)) × c < length ts

        by : (o : Option ℕ) → field_path_type table message p ≡ o → (ts : List ℕ) → option_and_then (slice_get table) o ≡ Some (cases ts) → c < length ts → IsOfField table message (case p c)
        by None e ts h l = none-not_some h
        by (Some t) e ts h l = (t, ts, path-is p t e, h, l)

        to : Component → IsOfField table message (case p c)
        to h = by (field_path_type table message p) refl h.0 h.1 h.2

        from : IsOfField table message (case p c) → Component
        from h = (h.1, ap (option_and_then (slice_get table)) (is-path p h.0 h.2) ∙ h.3, h.4)

    module _ (declared : List Fact) (f : Fact) where
      abbrev OfFullAt : Path → Type 0
      OfFullAt p = (t : ℕ) × IsFieldPath table message p t × IsIn f (full_facts table t p) × ((g : Fact) → IsIn g (full_facts table t p) → IsIn g declared)

      full_at-decides : (p : Path) → Decides (is_of_full_at table message declared f p) (OfFullAt p)
      full_at-decides p =
          through _ (λ h. (h.0, path-is p h.0 h.1, h.2.0, h.2.1)) (λ h. (h.0, is-path p h.0 h.1, (h.2, h.3)))
          (chosen-decides (λ t. any_pass (same_fact f) (full_facts table t p) && all_pass (λ g. any_pass (same_fact g) declared) (full_facts table t p)) (λ t. IsIn f (full_facts table t p) × ((g : Fact) → IsIn g (full_facts table t p) → IsIn g declared))
          (λ t. both-decide (any_pass (same_fact f) (full_facts table t p)) _ (member-decides same_fact facts-decide f (full_facts table t p)) (all-decide (λ g. any_pass (same_fact g) declared) (λ g. IsIn g declared) (λ g. member-decides same_fact facts-decide g declared) (full_facts table t p)))
          (field_path_type table message p))

      of_full-decides : Decides (is_of_full_field table message declared f) (IsOfFullField table message declared f)
      of_full-decides = through _ (λ h. (path_of h.0, h.2.0, h.2.1, h.2.2, h.2.3)) from (some-decides (λ g. is_of_full_at table message declared f (path_of g)) (λ g. OfFullAt (path_of g)) (λ g. full_at-decides (path_of g)) declared)
        where
          from : IsOfFullField table message declared f → (g : Fact) × IsIn g declared × OfFullAt (path_of g)
          from h = (init (h.0 ++ []), h.4 (init (h.0 ++ [])) (full-root table h.1 h.0 f h.3), subst OfFullAt (sym (append-nil h.0)) (h.1, h.2, h.3, h.4))

  declares-decide : (s : Shape) → Decides (declares_fields table s) (DeclaresFields table s)
  declares-decide (inport message declared) = all-decide (λ f. is_of_field table message f || is_of_full_field table message declared f) (λ f. IsOfField table message f ⊎ IsOfFullField table message declared f) (λ f. either-decides (is_of_field table message f) _ (of_field-decides message f) (of_full-decides message declared f)) declared
  declares-decide s = true-decides tt

agree-decides : (f g : Fact) → Decides (agree f g) ((p : Path) (c d : ℕ) → f ≡ case p c → g ≡ case p d → c ≡ d)
agree-decides (case p c) (case q d) = ((λ h r b e i j. to (or-either (not (same_path p q)) (nat_eq c d) h) r b e i j), from)
  where
    Agree : Type 0
    Agree = (r : Path) (b e : ℕ) → case p c ≡ case r b → case q d ≡ case r e → b ≡ e

    to : IsTrue (not (same_path p q)) ⊎ IsTrue (nat_eq c d) → Agree
    to (inl n) r b e i j = absurd ((not-decides (same_path p q) (paths-decide p q)).0 n (let k : p ≡ q = cc (i, j) in k))
    to (inr n) r b e i j = let k : c ≡ d = (numbers-decide c d).0 n in cc (i, j, k)

    by : (b : Bool) → same_path p q ≡ b → Agree → IsTrue (not b || nat_eq c d)
    by true e a = (numbers-decide c d).1 (a p c d refl (let k : p ≡ q = (paths-decide p q).0 e in let m : case q d ≡ case p d = cc k in m))
    by false e a = refl

    from : Agree → IsTrue (not (same_path p q) || nat_eq c d)
    from a = by (same_path p q) refl a
agree-decides (init p) g = true-decides (λ r c d e i. let k : ⊥ = cc e in absurd k)
agree-decides (case p c) (init q) = true-decides (λ r b e i j. let k : ⊥ = cc j in absurd k)

one_case-decides : (s : Shape) → Decides (declares_one_case s) (DeclaresOneCase s)
one_case-decides (inport message declared) =
    through _ (λ h p c d i j. h (case p c) i (case p d) j p c d refl refl) (λ h f i g j p c d e k. h p c d (subst (λ x. IsIn x declared) e i) (subst (λ x. IsIn x declared) k j))
    (all-decide (λ f. all_pass (agree f) declared) (λ f. (g : Fact) → IsIn g declared → (p : Path) (c d : ℕ) → f ≡ case p c → g ≡ case p d → c ≡ d) (λ f. all-decide (agree f) (λ g. (p : Path) (c d : ℕ) → f ≡ case p c → g ≡ case p d → c ≡ d) (agree-decides f) declared) declared)
one_case-decides s = true-decides tt

known-decides : (exceptions : ℕ) (s : Shape) → Decides (raises_known exceptions s) (RaisesKnown exceptions s)
known-decides exceptions (callmessage ps rs) = all-decide (λ (r : Raised). nat_lt r.exception exceptions) (λ (r : Raised). r.exception < exceptions) (λ (r : Raised). below-decides r.exception exceptions) rs
known-decides exceptions s = true-decides tt

raises-decide : (s : Shape) → Decides (raises_different s) (RaisesDifferent s)
raises-decide (callmessage ps rs) = different-decides nat_eq numbers-decide (map (λ (r : Raised). r.exception) rs)
raises-decide s = true-decides tt

returned-decides : (s : Shape) → Decides (keeps_returned s) (KeepsReturned s)
returned-decides (callmessage ps rs) =
    all-decide (λ (r : Raised). all_pass (λ i. map_or false (λ (p : Parameter). is_returned p.mode) (slice_get ps i)) r.kept) (λ (r : Raised). (i : ℕ) → IsIn i r.kept → (p : Parameter) × (slice_get ps i ≡ Some p) × IsTrue (is_returned p.mode))
    (λ (r : Raised). all-decide (λ i. map_or false (λ (p : Parameter). is_returned p.mode) (slice_get ps i)) (λ i. (p : Parameter) × (slice_get ps i ≡ Some p) × IsTrue (is_returned p.mode)) (λ i. chosen-decides (λ (p : Parameter). is_returned p.mode) (λ (p : Parameter). IsTrue (is_returned p.mode)) (λ p. ((λ h. h), λ h. h)) (slice_get ps i)) r.kept) rs
returned-decides s = true-decides tt

rising-decides : (s : Shape) → Decides (keeps_rising s) (KeepsRising s)
rising-decides (callmessage ps rs) = all-decide (λ (r : Raised). do_rise r.kept) (λ (r : Raised). Rise r.kept) (λ (r : Raised). rise-decides r.kept) rs
rising-decides s = true-decides tt

none-decides : (kept : List ℕ) → Decides (is_none_kept kept) (kept ≡ [])
none-decides [] = true-decides refl
none-decides (i ∷ kept) = false-decides (λ e. cons-not_nil i kept e)

if-decides : {P Q : Type 0} (a b : Bool) → Decides a P → Decides b Q → Decides (not a || b) (P → Q)
if-decides true b d e = ((λ h p. e.0 h), λ f. e.1 (f (d.0 refl)))
if-decides false b d e = true-decides (λ p. absurd (true≢false (sym (d.1 p))))

disconnected-decides : (s : Shape) → Decides (keeps_none_disconnected s) (KeepsNoneDisconnected s)
disconnected-decides (callmessage ps rs) = all-decide (λ (r : Raised). not (nat_eq r.exception disconnected) || is_none_kept r.kept) (λ (r : Raised). r.exception ≡ disconnected → r.kept ≡ []) (λ (r : Raised). if-decides (nat_eq r.exception disconnected) (is_none_kept r.kept) (numbers-decide r.exception disconnected) (none-decides r.kept)) rs
disconnected-decides s = true-decides tt

-- a number below the length is a type's
pub below-type : {X : Type 0} (xs : List X) (i : ℕ) → i < length xs → IsTrue (is_some (slice_get xs i))
below-type [] i l = let z : ⊥ = omega arith in absurd z
below-type (x ∷ xs) zero l = refl
below-type (x ∷ xs) (suc i) l = below-type xs i (omega arith)

pub type-below : {X : Type 0} (xs : List X) (i : ℕ) → IsTrue (is_some (slice_get xs i)) → i < length xs
type-below [] i h = not_true h
type-below (x ∷ xs) zero h = omega arith
type-below (x ∷ xs) (suc i) h = omega (arith, type-below xs i h)

types-decide : (table : TypeTable) (test : ℕ → Bool) (P : ℕ → Type 0) → ((t : ℕ) → Decides (test t) (P t)) → Decides (of_each_type table test) ((t : ℕ) → IsType table t → P t)
types-decide table test P each = through _ (λ h t k. h t (type-below table t k)) (λ h t l. h t (below-type table t l)) (range-decides test P each (length table))

-- what a type within a depth reaches is within a smaller one
module _ (table : TypeTable) where
  within-named : (n t u : ℕ) → IsTrue (is_within_depth (suc n) table t) → IsIn u (list_of named_types (slice_get table t)) → IsTrue (is_within_depth n table u)
  within-named n t u w i = by (slice_get table t) w i
    where
      by : (o : Option Shape) → IsTrue (map_or false (λ s. all_pass (is_within_depth n table) (named_types s)) o) → IsIn u (list_of named_types o) → IsTrue (is_within_depth n table u)
      by None w i = absurd i
      by (Some s) w i = every-in (is_within_depth n table) u (named_types s) w i

  within-deeper : (n t : ℕ) → IsTrue (is_within_depth n table t) → IsTrue (is_within_depth (suc n) table t)
  within-deeper n t w = subst (λ m. IsTrue (is_within_depth m table t)) {x = n + 1} {y = suc n} (omega arith) (within-more table n 1 t w)

  reaches-within : (n t u : ℕ) → IsTrue (is_within_depth (suc n) table t) → Reaches table t u → IsTrue (is_within_depth n table u)
  reaches-within n t u w (at_once t' u' i) = within-named n t u w i
  reaches-within zero t u w (further t' v u' i r) = not_true (within-named zero t v w i)
  reaches-within (suc n) t u w (further t' v u' i r) = within-deeper n u (reaches-within n v u (within-named (suc n) t v w i) r)

  pub within-acyclic : (n t : ℕ) → IsTrue (is_within_depth n table t) → Reaches table t t → ⊥
  within-acyclic zero t w r = not_true w
  within-acyclic (suc n) t w r = within-acyclic n t (reaches-within n t t w r) r

  reaches-type : (t u : ℕ) → Reaches table t u → IsType table t
  reaches-type t u (at_once t' u' i) = by (slice_get table t) i
    where
      by : (o : Option Shape) → IsIn u (list_of named_types o) → IsTrue (is_some o)
      by None i = absurd i
      by (Some s) i = refl
  reaches-type t u (further t' v u' i r) = by (slice_get table t) i
    where
      by : (o : Option Shape) → IsIn v (list_of named_types o) → IsTrue (is_some o)
      by None i = absurd i
      by (Some s) i = refl

  pub shallow-acyclic : AreShallow table → (t : ℕ) → Reaches table t t → ⊥
  shallow-acyclic deep t r = within-acyclic greatest_depth t (deep t (reaches-type t t r)) r

predefined-decides : (defined : TypeTable) → Decides (all_pass is_definable defined) (BeginsPredefined (predefined ++ defined))
predefined-decides defined = ((λ h. (defined, refl, h)), λ h. subst (λ d. IsTrue (all_pass is_definable d)) (sym (behind h.0 h.1)) h.2)
  where
    behind : (d : TypeTable) → predefined ++ defined ≡ predefined ++ d → defined ≡ d
    behind d e = cons-tail (cons-tail (cons-tail (cons-tail (cons-tail (cons-tail (cons-tail (cons-tail e)))))))

pub shallow-decides : (exceptions : ℕ) (defined : TypeTable) → Decides (keeps_table_rule exceptions defined shallow) (AreShallow (predefined ++ defined))
shallow-decides exceptions defined = types-decide (predefined ++ defined) (is_within_depth greatest_depth (predefined ++ defined)) (λ t. IsTrue (is_within_depth greatest_depth (predefined ++ defined) t)) (λ t. ((λ h. h), λ h. h))

pub table-decides : (exceptions : ℕ) (defined : TypeTable) → AreShallow (predefined ++ defined) → (rule : TableRule) → Decides (keeps_table_rule exceptions defined rule) (TableKeeps exceptions (predefined ++ defined) rule)
table-decides exceptions defined deep predefined_types = predefined-decides defined
table-decides exceptions defined deep enough_exceptions = at_most-decides predefined_exceptions exceptions
table-decides exceptions defined deep types_known = got-decides (names_types (predefined ++ defined)) (NamesTypes (predefined ++ defined)) (names-decide (predefined ++ defined)) (predefined ++ defined)
table-decides exceptions defined deep exceptions_known = got-decides (raises_known exceptions) (RaisesKnown exceptions) (known-decides exceptions) (predefined ++ defined)
table-decides exceptions defined deep exceptions_differ = got-decides raises_different RaisesDifferent raises-decide (predefined ++ defined)
table-decides exceptions defined deep shallow = through _ (λ h. (shallow-acyclic (predefined ++ defined) h, h)) (λ h. h.1) (shallow-decides exceptions defined)
table-decides exceptions defined deep few_paths = types-decide (predefined ++ defined) (λ t. nat_le (length (part_paths all_parts (predefined ++ defined) t)) greatest_paths) (λ t. length (part_paths all_parts (predefined ++ defined) t) ≤ greatest_paths) (λ t. at_most-decides (length (part_paths all_parts (predefined ++ defined) t)) greatest_paths)
table-decides exceptions defined deep keys = got-decides (has_keys (predefined ++ defined)) (HasKey (predefined ++ defined)) (keys-decide (predefined ++ defined)) (predefined ++ defined)
table-decides exceptions defined deep outports = got-decides (leads_to_inport (predefined ++ defined)) (LeadsToInport (predefined ++ defined)) (outports-decide (predefined ++ defined)) (predefined ++ defined)
table-decides exceptions defined deep inputs_copyable = got-decides (copies_inputs (predefined ++ defined)) (CopiesInputs (predefined ++ defined)) (inputs-decide (predefined ++ defined) deep) (predefined ++ defined)
table-decides exceptions defined deep facts_of_fields = got-decides (declares_fields (predefined ++ defined)) (DeclaresFields (predefined ++ defined)) (declares-decide (predefined ++ defined)) (predefined ++ defined)
table-decides exceptions defined deep one_case = got-decides declares_one_case DeclaresOneCase one_case-decides (predefined ++ defined)
table-decides exceptions defined deep kept_returned = got-decides keeps_returned KeepsReturned returned-decides (predefined ++ defined)
table-decides exceptions defined deep kept_rising = got-decides keeps_rising KeepsRising rising-decides (predefined ++ defined)
table-decides exceptions defined deep kept_disconnected = got-decides keeps_none_disconnected KeepsNoneDisconnected disconnected-decides (predefined ++ defined)

pub tests-tables : TestsDecideTables
tests-tables exceptions defined h rule = table-decides exceptions defined ((shallow-decides exceptions defined).0 h) rule

-- each rule is among them, so that where none is broken all are kept
pub none-broken : {R : Type 0} (kept : R → Bool) (rules : List R) → filter (λ rule. not (kept rule)) rules ≡ [] → (rule : R) → IsIn rule rules → IsTrue (kept rule)
none-broken kept [] e rule i = absurd i
none-broken {R} kept (r ∷ rules) e rule i = by (kept r) refl e i (none-broken kept rules)
  where
    by : (b : Bool) → kept r ≡ b → cond (not b) (r ∷ filter (λ rule. not (kept rule)) rules) (filter (λ rule. not (kept rule)) rules) ≡ [] → IsIn rule (r ∷ rules)
        → (filter (λ rule. not (kept rule)) rules ≡ [] → (rule : R) → IsIn rule rules → IsTrue (kept rule)) → IsTrue (kept rule)
    by false k e i again = cons-not_nil r _ e
    by true k e (inl same) again = subst (λ z. IsTrue (kept z)) (sym same) k
    by true k e (inr i) again = again e rule i

pub all-kept : {R : Type 0} (kept : R → Bool) (rules : List R) → ((rule : R) → IsIn rule rules → IsTrue (kept rule)) → filter (λ rule. not (kept rule)) rules ≡ []
all-kept kept [] h = refl
all-kept {R} kept (r ∷ rules) h = by (kept r) (h r (inl refl)) (all-kept kept rules (λ rule i. h rule (inr i)))
  where
    by : (b : Bool) → IsTrue b → filter (λ rule. not (kept rule)) rules ≡ [] → cond (not b) (r ∷ filter (λ rule. not (kept rule)) rules) (filter (λ rule. not (kept rule)) rules) ≡ []
    by true k e = e
    by false k e = not_true k

rule-listed : (rule : TableRule) → IsIn rule table_rules
rule-listed predefined_types = inl refl
rule-listed enough_exceptions = inr (inl refl)
rule-listed types_known = inr (inr (inl refl))
rule-listed exceptions_known = inr (inr (inr (inl refl)))
rule-listed exceptions_differ = inr (inr (inr (inr (inl refl))))
rule-listed shallow = inr (inr (inr (inr (inr (inl refl)))))
rule-listed few_paths = inr (inr (inr (inr (inr (inr (inl refl))))))
rule-listed keys = inr (inr (inr (inr (inr (inr (inr (inl refl)))))))
rule-listed outports = inr (inr (inr (inr (inr (inr (inr (inr (inl refl))))))))
rule-listed inputs_copyable = inr (inr (inr (inr (inr (inr (inr (inr (inr (inl refl)))))))))
rule-listed facts_of_fields = inr (inr (inr (inr (inr (inr (inr (inr (inr (inr (inl refl))))))))))
rule-listed one_case = inr (inr (inr (inr (inr (inr (inr (inr (inr (inr (inr (inl refl)))))))))))
rule-listed kept_returned = inr (inr (inr (inr (inr (inr (inr (inr (inr (inr (inr (inr (inl refl))))))))))))
rule-listed kept_rising = inr (inr (inr (inr (inr (inr (inr (inr (inr (inr (inr (inr (inr (inl refl)))))))))))))
rule-listed kept_disconnected = inr (inr (inr (inr (inr (inr (inr (inr (inr (inr (inr (inr (inr (inr (inl refl))))))))))))))

pub none-well_formed : NoneBrokenIsWellFormed
none-well_formed exceptions defined = (to, from)
  where
    kept : TableRule → Bool
    kept rule = keeps_table_rule exceptions defined rule

    to : broken_table_rules exceptions defined ≡ [] → IsWellFormedTable exceptions (predefined ++ defined)
    to e =
        let deep : AreShallow (predefined ++ defined) = (shallow-decides exceptions defined).0 (none-broken (keeps_table_rule exceptions defined) table_rules e shallow (rule-listed shallow)) in
        let keeps : (rule : TableRule) → TableKeeps exceptions (predefined ++ defined) rule = λ rule. (table-decides exceptions defined deep rule).0 (none-broken (keeps_table_rule exceptions defined) table_rules e rule (rule-listed rule)) in
        record {
          predefined_types = keeps predefined_types;
          enough_exceptions = keeps enough_exceptions;
          types_known = keeps types_known;
          exceptions_known = keeps exceptions_known;
          exceptions_differ = keeps exceptions_differ;
          acyclic = (keeps shallow).0;
          shallow = (keeps shallow).1;
          few_paths = keeps few_paths;
          keys = keeps keys;
          outports = keeps outports;
          inputs_copyable = keeps inputs_copyable;
          facts_of_fields = keeps facts_of_fields;
          one_case = keeps one_case;
          kept_returned = keeps kept_returned;
          kept_rising = keeps kept_rising;
          kept_disconnected = keeps kept_disconnected;
        }

    holds : IsWellFormedTable exceptions (predefined ++ defined) → (rule : TableRule) → TableKeeps exceptions (predefined ++ defined) rule
    holds w predefined_types = w.predefined_types
    holds w enough_exceptions = w.enough_exceptions
    holds w types_known = w.types_known
    holds w exceptions_known = w.exceptions_known
    holds w exceptions_differ = w.exceptions_differ
    holds w shallow = (w.acyclic, w.shallow)
    holds w few_paths = w.few_paths
    holds w keys = w.keys
    holds w outports = w.outports
    holds w inputs_copyable = w.inputs_copyable
    holds w facts_of_fields = w.facts_of_fields
    holds w one_case = w.one_case
    holds w kept_returned = w.kept_returned
    holds w kept_rising = w.kept_rising
    holds w kept_disconnected = w.kept_disconnected

    from : IsWellFormedTable exceptions (predefined ++ defined) → broken_table_rules exceptions defined ≡ []
    from w = all-kept (keeps_table_rule exceptions defined) table_rules (λ rule i. (table-decides exceptions defined w.shallow rule).1 (holds w rule))
