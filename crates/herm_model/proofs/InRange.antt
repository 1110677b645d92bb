-- What a typed form names by numbers is in range.
use Rattle.std.proofs.Common.{◌≡◌, ℕ, zero, suc, ◌<◌, List, [], ◌∷◌, map, length, ◌⊎◌, inl, inr, Some, slice_get, option_and_then, refl, sym, ap, subst, ◌∙◌, arith}
use Rattle.herm_model.specs.Lists.{IsIn, map_or}
use Rattle.herm_model.specs.Paths.{Path, Fact, case}
use Rattle.herm_model.specs.Types.{Mode, by_in, by_inout, by_out, Parameter, Raised, callmessage, TypeTable, type_at}
use Rattle.herm_model.specs.Facts.{component_count, IsFactOf}
use Rattle.herm_model.specs.Expressions.{Literal, Expression, literal, copy, negation, logical_not, operation, size_of, decimal, length_of, Atom, path, paths_read, paths_among}
use Rattle.herm_model.specs.Statements.{Form, Assign, Move, New, Discard, Unite, Dissolve, Reveal, Case, Wrap, Unwrap, Insert, Remove, Get, For, Connect, Send, Receive, Select, Call, Return, ReturnBy, Create, If, While, Raise, Leave, Arm, Process}
use Rattle.herm_model.specs.TypedExpressions.{IsLiteralOf, IsTyped}
use Rattle.herm_model.specs.WellFormedTables.{IsType, IsWellFormedTable}
use Rattle.herm_model.specs.TypedStatements.{port_type, IsComponent, IsLookedAt, IsArgument, AreArguments, AreKeysOf, IsFound, IsReceived, IsTypedForm}
use Rattle.herm_model.specs.laws.TypedFactLaws.{literals_in, literals_among, arm_paths, Named, named, IsInRange, TypedFormsAreInRange}
use Rattle.herm_model.proofs.Lists.{in-append_cases, in-map_from}
use Rattle.herm_model.proofs.Options.{none-not_some}
use Rattle.herm_model.proofs.BoundedPaths.{type-there}
use Rattle.herm_model.proofs.TypedRows.{read-typed, keys-typed, known-case}

module _ (exceptions : ℕ) (table : TypeTable) (well : IsWellFormedTable exceptions table) (variables : List ℕ) where
  abbrev HasTypeAt : Path → Type 0
  HasTypeAt p = (t : ℕ) × (type_at table variables p ≡ Some t)

  abbrev AllTyped : List Path → Type 0
  AllTyped ps = (p : Path) → IsIn p ps → HasTypeAt p

  abbrev AllLiterals : List Literal → Type 0
  AllLiterals ls = (l : Literal) → IsIn l ls → (t : ℕ) × IsLiteralOf table l t

  and-typed : (x : Path) (ps : List Path) → HasTypeAt x → AllTyped ps → AllTyped (x ∷ ps)
  and-typed x ps h k p (inl e) = (h.0, ap (type_at table variables) e ∙ h.1)
  and-typed x ps h k p (inr i) = k p i

  none-typed : AllTyped []
  none-typed p i = absurd i

  one-typed : (x : Path) → HasTypeAt x → AllTyped (x ∷ [])
  one-typed x h = and-typed x [] h none-typed

  two-typed : (x y : Path) → HasTypeAt x → HasTypeAt y → AllTyped (x ∷ y ∷ [])
  two-typed x y h k = and-typed x (y ∷ []) h (one-typed y k)

  literals-typed : (e : Expression) (t : ℕ) → IsTyped table variables e t → AllLiterals (literals_in e)
  literals-typed (literal l) t h k (inl e) = (t, subst (λ x. IsLiteralOf table x t) (sym e) h)
  literals-typed (literal l) t h k (inr i) = absurd i
  literals-typed (copy p) t h k i = absurd i
  literals-typed (negation e) t h k i = literals-typed e h.1 h.3 k i
  literals-typed (logical_not e) t h k i = literals-typed e h.1 h.3 k i
  literals-typed (operation o left right) t h k i = by (in-append_cases k (literals_in left) (literals_in right) i) (literals-typed left h.1 h.5 k) (literals-typed right h.1 h.6 k)
    where
      by : IsIn k (literals_in left) ⊎ IsIn k (literals_in right) → (IsIn k (literals_in left) → (u : ℕ) × IsLiteralOf table k u) → (IsIn k (literals_in right) → (u : ℕ) × IsLiteralOf table k u) → (u : ℕ) × IsLiteralOf table k u
      by (inl a) l r = l a
      by (inr b) l r = r b
  literals-typed (size_of p) t h k i = absurd i
  literals-typed (decimal e) t h k i = literals-typed e h.1 h.3 k i
  literals-typed (length_of e) t h k i = literals-typed e h.1 h.3 k i

  key-literals : (ts key : List ℕ) (atoms : List Atom) → AreKeysOf table variables ts key atoms → AllLiterals (literals_among atoms)
  key-literals ts [] [] h l i = absurd i
  key-literals ts [] (a ∷ atoms) h l i = absurd h
  key-literals ts (k ∷ key) [] h l i = absurd h
  key-literals ts (k ∷ key) (Atom.literal m ∷ atoms) h l (inl e) = ((h.0).0, subst (λ x. IsLiteralOf table x (h.0).0) (sym e) (h.0).2)
  key-literals ts (k ∷ key) (Atom.literal m ∷ atoms) h l (inr i) = key-literals ts key atoms h.1 l i
  key-literals ts (k ∷ key) (path q ∷ atoms) h l i = key-literals ts key atoms h.1 l i

  argument-path : (m : Mode) (x : Path) (t : ℕ) → IsArgument table variables m (path x) t → HasTypeAt x
  argument-path by_in x t a = (t, (a.0).0)
  argument-path by_inout x t a = (t, (a.0).0)
  argument-path by_out x t a = (t, (a.0).0)

  argument-literal : (m : Mode) (l : Literal) (t : ℕ) → IsArgument table variables m (Atom.literal l) t → (u : ℕ) × IsLiteralOf table l u
  argument-literal by_in l t a = (t, a)
  argument-literal by_inout l t a = absurd a
  argument-literal by_out l t a = absurd a

  argument-paths : (ps : List Parameter) (atoms : List Atom) → AreArguments table variables ps atoms → AllTyped (paths_among atoms)
  argument-paths [] [] h p i = absurd i
  argument-paths [] (a ∷ atoms) h p i = absurd h
  argument-paths (q ∷ ps) [] h p i = absurd i
  argument-paths (q ∷ ps) (Atom.literal l ∷ atoms) h p i = argument-paths ps atoms h.1 p i
  argument-paths (q ∷ ps) (path x ∷ atoms) h p (inl e) = let k = argument-path q.mode x q.content h.0 in (k.0, ap (type_at table variables) e ∙ k.1)
  argument-paths (q ∷ ps) (path x ∷ atoms) h p (inr i) = argument-paths ps atoms h.1 p i

  argument-literals : (ps : List Parameter) (atoms : List Atom) → AreArguments table variables ps atoms → AllLiterals (literals_among atoms)
  argument-literals [] [] h l i = absurd i
  argument-literals [] (a ∷ atoms) h l i = absurd h
  argument-literals (q ∷ ps) [] h l i = absurd h
  argument-literals (q ∷ ps) (Atom.literal m ∷ atoms) h l (inl e) = let k = argument-literal q.mode m q.content h.0 in (k.0, subst (λ x. IsLiteralOf table x k.0) (sym e) k.1)
  argument-literals (q ∷ ps) (Atom.literal m ∷ atoms) h l (inr i) = argument-literals ps atoms h.1 l i
  argument-literals (q ∷ ps) (path x ∷ atoms) h l i = argument-literals ps atoms h.1 l i

  arms-typed : (arms : List Arm) → ((a : Arm) → IsIn a arms → IsReceived table variables a.target a.port) → AllTyped (arm_paths arms)
  arms-typed [] h p i = absurd i
  arms-typed (a ∷ arms) h p i =
      let r = h a (inl refl) in
      and-typed a.target (a.port ∷ arm_paths arms) (r.0, ((r.2).0).0) (and-typed a.port (arm_paths arms) ((r.1).0, ((r.1).2).0) (arms-typed arms (λ b k. h b (inr k)))) p i

  module _ (processes : List Process) (known : (t : ℕ) → IsIn t variables → IsType table t) where
    abbrev InRange : Named → Type 0
    InRange n = IsInRange exceptions table variables processes n

    -- where only paths, literals or components are named
    paths-in : (ps : List Path) → AllTyped ps → InRange (record { paths = ps; literals = []; components = []; types = []; exceptions = []; processes = [] })
    paths-in ps h = record { paths = h; literals = λ l i. absurd i; components = λ f i. absurd i; types = λ t i. absurd i; exceptions_named = λ e i. absurd i; processes_named = λ m i. absurd i }

    literals-in : (ps : List Path) (ls : List Literal) → AllTyped ps → AllLiterals ls → InRange (record { paths = ps; literals = ls; components = []; types = []; exceptions = []; processes = [] })
    literals-in ps ls h k = record { paths = h; literals = k; components = λ f i. absurd i; types = λ t i. absurd i; exceptions_named = λ e i. absurd i; processes_named = λ m i. absurd i }

    components-in : (ps : List Path) (fs : List Fact) → AllTyped ps → ((f : Fact) → IsIn f fs → IsFactOf table variables f) → InRange (record { paths = ps; literals = []; components = fs; types = []; exceptions = []; processes = [] })
    components-in ps fs h k = record { paths = h; literals = λ l i. absurd i; components = k; types = λ t i. absurd i; exceptions_named = λ e i. absurd i; processes_named = λ m i. absurd i }

    exception-in : (ps : List Path) (e : ℕ) → AllTyped ps → e < exceptions → InRange (record { paths = ps; literals = []; components = []; types = []; exceptions = e ∷ []; processes = [] })
    exception-in ps e h k = record { paths = h; literals = λ l i. absurd i; components = λ f i. absurd i; types = λ t i. absurd i; exceptions_named = one; processes_named = λ m i. absurd i }
      where
        one : (f : ℕ) → IsIn f (e ∷ []) → f < exceptions
        one f (inl same) = subst (λ x. x < exceptions) (sym same) k
        one f (inr i) = absurd i

    one-component : (v : Path) (t c u : ℕ) → IsLookedAt table variables v t → IsComponent table t c u → (f : Fact) → IsIn f (case v c ∷ []) → IsFactOf table variables f
    one-component v t c u l h f (inl e) = subst (IsFactOf table variables) (sym e) (known-case exceptions table well variables v t c u l h)
    one-component v t c u l h f (inr i) = absurd i

    found-in : (r t : Path) (keys : List Atom) (row : ℕ) → IsFound table variables r t keys row → InRange (record { paths = r ∷ t ∷ paths_among keys; literals = literals_among keys; components = []; types = []; exceptions = []; processes = [] })
    found-in r t keys row h = literals-in (r ∷ t ∷ paths_among keys) (literals_among keys) (and-typed r (t ∷ paths_among keys) (row, ((h.3).0).0) (and-typed t (paths_among keys) ((h.2).0, ((h.2).1).0) (keys-typed exceptions table well variables h.1 h.0 keys h.5))) (key-literals h.1 h.0 keys h.5)

    process-there : (n port : ℕ) → port_type processes n ≡ Some port → n < length processes
    process-there n port e = by processes n e
      where
        by : (ps : List Process) (n : ℕ) → option_and_then (λ (p : Process). slice_get p.variables 0) (slice_get ps n) ≡ Some port → n < length ps
        by [] n e = none-not_some e
        by (p ∷ ps) zero e = omega arith
        by (p ∷ ps) (suc n) e = omega (arith, by ps n e)

    pub form-in : (form : Form) → IsTypedForm table variables exceptions processes form → InRange (named form)
    form-in (Assign x e) h = literals-in (x ∷ paths_read e) (literals_in e) (and-typed x (paths_read e) (h.0, ((h.1).0).0) (read-typed exceptions table well variables e h.0 h.2)) (literals-typed e h.0 h.2)
    form-in (Move y x) h = paths-in (y ∷ x ∷ []) (two-typed y x (h.0, ((h.1).0).0) (h.0, ((h.2).0).0))
    form-in (New x) h = paths-in (x ∷ []) (one-typed x (h.0, ((h.2).0).0))
    form-in (Discard x) h = paths-in (x ∷ []) (one-typed x (h.0, ((h.1).0).0))
    form-in (Unite v c y) h = components-in (v ∷ y ∷ []) (case v c ∷ []) (two-typed v y (h.0, ((h.2).0).0) (h.1, ((h.4).0).0)) (one-component v h.0 c h.1 (h.2).0 h.3)
    form-in (Dissolve v c y) h = components-in (v ∷ y ∷ []) (case v c ∷ []) (two-typed v y (h.0, ((h.2).0).0) (h.1, ((h.4).0).0)) (one-component v h.0 c h.1 (h.2).0 h.3)
    form-in (Reveal v c) h = components-in (v ∷ []) (case v c ∷ []) (one-typed v (h.0, (h.2).0)) (one-component v h.0 c h.1 h.2 h.3)
    form-in (Case v cs) h = components-in (v ∷ []) (map (case v) cs) (one-typed v (h.0, (h.2).0)) covered
      where
        covered : (f : Fact) → IsIn f (map (case v) cs) → IsFactOf table variables f
        covered f i =
            let r = in-map_from (case v) f cs i in
            subst (IsFactOf table variables) (sym r.2) (subst (λ o. r.0 < map_or 0 (λ t. map_or 0 component_count (slice_get table t)) o) (sym (h.2).0) (subst (λ o. r.0 < map_or 0 component_count o) (sym h.3) ((h.5 r.0).0 r.1)))
    form-in (Wrap y p) h = paths-in (y ∷ p ∷ []) (two-typed y p (h.0, ((h.2).0).0) (h.1, ((h.3).0).0))
    form-in (Unwrap p t y) h = record {
      paths = two-typed p y (h.0, ((h.1).0).0) (t, ((h.3).0).0);
      literals = λ l i. absurd i;
      components = λ f i. absurd i;
      types = one;
      exceptions_named = λ e i. absurd i;
      processes_named = λ m i. absurd i;
    }
      where
        one : (u : ℕ) → IsIn u (t ∷ []) → IsType table u
        one u (inl e) = subst (IsType table) (sym e) (type-there exceptions table well variables known y t ((h.3).0).0)
        one u (inr i) = absurd i
    form-in (Insert r t) h = paths-in (r ∷ t ∷ []) (two-typed r t (h.0, ((h.3).0).0) ((h.2).0, ((h.2).1).0))
    form-in (Remove r t keys) h = found-in r t keys h.0 h.1
    form-in (Get r t keys) h = found-in r t keys h.0 h.1
    form-in (For r t) h = paths-in (r ∷ t ∷ []) (two-typed r t (h.0, ((h.3).0).0) ((h.2).0, ((h.2).1).0))
    form-in (Connect o i) h = paths-in (o ∷ i ∷ []) (two-typed o i (h.0, ((h.2).0).0) (h.1, (h.4).0))
    form-in (Send x o) h = paths-in (x ∷ o ∷ []) (two-typed x o (h.0, ((h.2).0).0) ((h.1).0, ((h.1).3).0))
    form-in (Receive x i) h = paths-in (x ∷ i ∷ []) (two-typed x i (h.0, ((h.2).0).0) ((h.1).0, ((h.1).2).0))
    form-in (Select arms) h = paths-in (arm_paths arms) (arms-typed arms h.1)
    form-in (Call o arguments) h = literals-in (o ∷ paths_among arguments) (literals_among arguments) (and-typed o (paths_among arguments) ((h.3).0, ((h.3).3).0) (argument-paths h.1 arguments h.5)) (argument-literals h.1 arguments h.5)
    form-in (Return m) h = paths-in (m ∷ []) (one-typed m ((h.1).0, (((h.1).2).0).0))
    form-in (ReturnBy m e) h =
        let r = in-map_from (λ (q : Raised). q.exception) e h.0 h.2 in
        exception-in (m ∷ []) e (one-typed m ((h.1).0, (((h.1).2).0).0)) (subst (λ x. x < exceptions) (sym r.2) (well.exceptions_known (h.1).0 (callmessage (h.1).1 h.0) (h.1).3 r.0 r.1))
    form-in (Create o n) h = record {
      paths = one-typed o (h.0, ((h.2).0).0);
      literals = λ l i. absurd i;
      components = λ f i. absurd i;
      types = λ t i. absurd i;
      exceptions_named = λ e i. absurd i;
      processes_named = one;
    }
      where
        one : (m : ℕ) → IsIn m (n ∷ []) → m < length processes
        one m (inl e) = subst (λ x. x < length processes) (sym e) (process-there n h.1 h.4)
        one m (inr i) = absurd i
    form-in (If e) h = literals-in (paths_read e) (literals_in e) (read-typed exceptions table well variables e h.0 h.2) (literals-typed e h.0 h.2)
    form-in (While e) h = literals-in (paths_read e) (literals_in e) (read-typed exceptions table well variables e h.0 h.2) (literals-typed e h.0 h.2)
    form-in (Raise e) h = exception-in [] e none-typed h
    form-in Leave h = paths-in [] none-typed

pub forms-in : TypedFormsAreInRange
forms-in exceptions table variables processes form well known typed = form-in exceptions table well variables processes known form typed
