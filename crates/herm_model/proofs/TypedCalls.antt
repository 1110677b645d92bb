-- What typed calls and returns say of their arguments and parameters.
use Rattle.std.proofs.Common.{◌≡◌, ℕ, zero, suc, ◌+◌, List, [], ◌∷◌, ◌++◌, Bool, true, false, cond, inl, inr, nat_eq, Some, None, option_map, slice_get, option_and_then, IsTrue, IsFalse, refl, sym, ap, subst, ◌∙◌, arith}
use Rattle.herm_model.specs.Lists.{IsIn, map_or, list_of}
use Rattle.herm_model.specs.Paths.{Path}
use Rattle.herm_model.specs.Types.{Mode, by_in, by_inout, by_out, Parameter, Raised, Shape, outport, callmessage, TypeTable, part_type, part_of, type_at, passes_component, is_variant, is_cases}
use Rattle.herm_model.specs.Expressions.{Atom, literal, path}
use Rattle.herm_model.specs.Calls.{shape_at, led_to, message_type, parameters_of, raises_of, inport_at, message_shape, call_parameters, call_raises, kept_for, is_given, is_returned, returned_places, arguments_by, argument_path}
use Rattle.herm_model.specs.TypedExpressions.{HasShape}
use Rattle.herm_model.specs.TypedStatements.{IsTarget, IsSource, IsArgument, AreArguments, GoesTo}
use Rattle.herm_model.proofs.Options.{none-not_some}
use Rattle.herm_model.proofs.TypedPaths.{at-append, passes-append, falses-or}

-- the shape of the type at a path
pub shape-is : (table : TypeTable) (variables : List ℕ) (p : Path) (t : ℕ) (s : Shape) → type_at table variables p ≡ Some t → HasShape table t s → shape_at table variables p ≡ Some s
shape-is table variables p t s e h = ap (option_and_then (slice_get table)) e ∙ h

module _ (table : TypeTable) (variables : List ℕ) (o : Path) (message : ℕ) (goes : GoesTo table variables o message) where
  pub inport-is : inport_at table variables o ≡ Some goes.1
  inport-is = ap (option_and_then led_to) (shape-is table variables o goes.0 (outport goes.1) (goes.3).0 goes.4)

  pub message-is : (s : Shape) → HasShape table message s → message_shape table variables o ≡ Some s
  message-is s h = ap (λ x. option_and_then (slice_get table) (option_and_then message_type (option_and_then (slice_get table) x))) inport-is ∙ ap (λ x. option_and_then (slice_get table) (option_and_then message_type x)) goes.5 ∙ h

  module _ (parameters : List Parameter) (raises : List Raised) (shape : HasShape table message (callmessage parameters raises)) where
    pub parameters-are : call_parameters table variables o ≡ parameters
    parameters-are = ap (list_of parameters_of) (message-is (callmessage parameters raises) shape)

    pub raises-are : call_raises table variables o ≡ raises
    raises-are = ap (list_of raises_of) (message-is (callmessage parameters raises) shape)

-- an exception's kept places are those of a declared one
pub kept-declared : (rs : List Raised) (e i : ℕ) → IsIn i (kept_for rs e) → (r : Raised) × IsIn r rs × IsIn i r.kept
kept-declared [] e i h = absurd h
kept-declared (r ∷ rs) e i h = by (nat_eq r.exception e) h (kept-declared rs e i)
  where
    by : (b : Bool) → IsIn i (cond b r.kept (kept_for rs e)) → (IsIn i (kept_for rs e) → (q : Raised) × IsIn q rs × IsIn i q.kept) → (q : Raised) × IsIn q (r ∷ rs) × IsIn i q.kept
    by true h again = (r, inl refl, h)
    by false h again = let k = again h in (k.0, inr k.1, k.2)

-- the places of the parameters that come back
pub returned-there : (k i : ℕ) (ps : List Parameter) → IsIn i (returned_places k ps) → (j : ℕ) × (i ≡ k + j) × ((p : Parameter) × (slice_get ps j ≡ Some p))
returned-there k i [] h = absurd h
returned-there k i (p ∷ ps) h = by (is_returned p.mode) h (returned-there (suc k) i ps)
  where
    Found : Type 0
    Found = (j : ℕ) × (i ≡ k + j) × ((q : Parameter) × (slice_get (p ∷ ps) j ≡ Some q))

    Again : Type 0
    Again = IsIn i (returned_places (suc k) ps) → (j : ℕ) × (i ≡ suc k + j) × ((q : Parameter) × (slice_get ps j ≡ Some q))

    later : Again → IsIn i (returned_places (suc k) ps) → Found
    later again h = let r = again h in (suc r.0, omega (arith, r.1), r.2)

    by : (b : Bool) → IsIn i (cond b (k ∷ returned_places (suc k) ps) (returned_places (suc k) ps)) → Again → Found
    by true (inl e) again = (0, omega (arith, e), (p, refl))
    by true (inr h) again = later again h
    by false h again = later again h

module _ (table : TypeTable) (variables : List ℕ) where
  -- a parameter of the callmessage at a path
  pub parameter-path : (m : Path) (t i : ℕ) (ps : List Parameter) (rs : List Raised) (p : Parameter) → IsSource table variables m t → HasShape table t (callmessage ps rs) → slice_get ps i ≡ Some p
      → (type_at table variables (m ++ i ∷ []) ≡ Some p.content) × IsFalse (passes_component table variables (m ++ i ∷ []))
  parameter-path [] t i ps rs p m h e = none-not_some (m.0).0
  parameter-path (v ∷ m) t i ps rs p s h e = (
    at-append table variables v m (i ∷ []) ∙ ap (λ o. part_of table o i) (s.0).0 ∙ ap (map_or None (λ s. part_type s i)) h ∙ ap (option_map (λ (p : Parameter). p.content)) e,
    passes-append table variables v m (i ∷ []) ∙ falses-or _ _ s.1 (falses-or (is_variant table (type_at table variables (v ∷ m))) _ (ap (is_variant table) (s.0).0 ∙ ap (map_or false (λ s. is_cases s)) h) refl),
  )

  -- a given argument has a type, and one that comes back is a target
  pub given-typed : (ps : List Parameter) (atoms : List Atom) → AreArguments table variables ps atoms → (q : Path) → IsIn q (arguments_by is_given ps atoms) → (t : ℕ) × (type_at table variables q ≡ Some t)
  given-typed [] atoms h q i = absurd i
  given-typed (p ∷ ps) [] h q i = absurd h
  given-typed (p ∷ ps) (literal l ∷ atoms) h q i = given-typed ps atoms h.1 q i
  given-typed (p ∷ ps) (path x ∷ atoms) h q i = by p.mode h.0 i (given-typed ps atoms h.1 q)
    where
      by : (m : Mode) → IsArgument table variables m (path x) p.content → IsIn q (cond (is_given m) (x ∷ arguments_by is_given ps atoms) (arguments_by is_given ps atoms)) → (IsIn q (arguments_by is_given ps atoms) → (t : ℕ) × (type_at table variables q ≡ Some t)) → (t : ℕ) × (type_at table variables q ≡ Some t)
      by by_in a (inl e) again = (p.content, ap (type_at table variables) e ∙ (a.0).0)
      by by_in a (inr i) again = again i
      by by_inout a (inl e) again = (p.content, ap (type_at table variables) e ∙ (a.0).0)
      by by_inout a (inr i) again = again i
      by by_out a i again = again i

  pub set-typed : (ps : List Parameter) (atoms : List Atom) → AreArguments table variables ps atoms → (q : Path) → IsIn q (arguments_by is_returned ps atoms) → (t : ℕ) × IsTarget table variables q t
  set-typed [] atoms h q i = absurd i
  set-typed (p ∷ ps) [] h q i = absurd h
  set-typed (p ∷ ps) (literal l ∷ atoms) h q i = set-typed ps atoms h.1 q i
  set-typed (p ∷ ps) (path x ∷ atoms) h q i = by p.mode h.0 i (set-typed ps atoms h.1 q)
    where
      by : (m : Mode) → IsArgument table variables m (path x) p.content → IsIn q (cond (is_returned m) (x ∷ arguments_by is_returned ps atoms) (arguments_by is_returned ps atoms)) → (IsIn q (arguments_by is_returned ps atoms) → (t : ℕ) × IsTarget table variables q t) → (t : ℕ) × IsTarget table variables q t
      by by_in a i again = again i
      by by_inout a (inl e) again = (p.content, subst (λ x. IsTarget table variables x p.content) (sym e) a)
      by by_inout a (inr i) again = again i
      by by_out a (inl e) again = (p.content, subst (λ x. IsTarget table variables x p.content) (sym e) a)
      by by_out a (inr i) again = again i

  -- the argument of a parameter that comes back is among those that are set
  pub kept-set : (ps : List Parameter) (atoms : List Atom) (i : ℕ) (p : Parameter) (q : Path) → AreArguments table variables ps atoms → slice_get ps i ≡ Some p → IsTrue (is_returned p.mode) → IsIn q (argument_path (slice_get atoms i)) → IsIn q (arguments_by is_returned ps atoms)
  kept-set [] atoms i p q h e r k = none-not_some e
  kept-set (x ∷ ps) [] i p q h e r k = absurd h
  kept-set (x ∷ ps) (literal l ∷ atoms) zero p q h e r k = absurd k
  kept-set (x ∷ ps) (path y ∷ atoms) zero p q h e r (inr k) = absurd k
  kept-set (x ∷ ps) (path y ∷ atoms) zero p q h e r (inl k) =
      let same : is_returned x.mode ≡ true = let z : x ≡ p = cc e in subst (λ (w : Parameter). IsTrue (is_returned w.mode)) (sym z) r in
      subst (λ b. IsIn q (cond b (y ∷ arguments_by is_returned ps atoms) (arguments_by is_returned ps atoms))) (sym same) (inl k)
  kept-set (x ∷ ps) (literal l ∷ atoms) (suc i) p q h e r k = kept-set ps atoms i p q h.1 e r k
  kept-set (x ∷ ps) (path y ∷ atoms) (suc i) p q h e r k = by (is_returned x.mode) (kept-set ps atoms i p q h.1 e r k)
    where
      by : (b : Bool) → IsIn q (arguments_by is_returned ps atoms) → IsIn q (cond b (y ∷ arguments_by is_returned ps atoms) (arguments_by is_returned ps atoms))
      by true k = inr k
      by false k = k
