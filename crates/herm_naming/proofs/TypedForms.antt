-- A form whose names are there, whose types fit, which copies what may be copied and whose paths are apart is typed.
use Rattle.std.proofs.Common.{◌≡◌, ℕ, List, [], ◌∷◌, ◌++◌, map, length, Bool, true, false, cond, ◌&&◌, ◌||◌, inl, inr, nat_eq, Option, Some, None, is_some, slice_get, option_and_then, IsTrue, refl, sym, ap, subst, ◌∙◌}
use Rattle.std.specs.Bool.{⊤}
use Rattle.herm_model.specs.Lists.{IsIn, all_pass, any_pass, map_or, list_of, range}
use Rattle.herm_model.specs.Paths.{Path, Fact, are_apart}
use Rattle.herm_model.specs.Types.{Mode, by_in, by_inout, by_out, Parameter, Raised, TypeTable, Shape, boolean, polymorph, fields, cases, rows, inport, outport, callmessage, is_cases, part_type, part_of, type_below, type_at}
use Rattle.herm_model.specs.Expressions.{Literal, Expression, Atom, path, paths_among}
use Rattle.herm_model.specs.Calls.{led_to, message_type, parameters_of, call_parameters, arguments_by}
use Rattle.herm_model.specs.Statements.{Form, Assign, Move, New, Discard, Unite, Dissolve, Reveal, Case, Wrap, Unwrap, Insert, Remove, Get, For, Connect, Send, Receive, Select, Call, Return, ReturnBy, Create, If, While, Raise, Leave, Arm, Process, Differ}
use Rattle.herm_model.specs.FactsOfStatements.{set_by_call}
use Rattle.herm_model.specs.TypedExpressions.{HasShape, IsTyped}
use Rattle.herm_model.specs.WellFormedTables.{IsType, IsWellFormedTable}
use Rattle.herm_model.specs.TypedStatements.{can_be_new, AreApart, port_type, IsLookedAt, IsTarget, IsTypedAtom, IsArgument, AreArguments, AreKeysOf, IsReceived, IsTypedForm}
use Rattle.herm_model.proofs.Lists.{not_true, and-both, every-in, in-map, in-flat_map}
use Rattle.herm_model.proofs.Options.{none-not_some}
use Rattle.herm_model.proofs.FactTests.{got-IsIn}
use Rattle.herm_model.proofs.Deciding.{numbers-decide, below-decides, range-decides}
use Rattle.herm_model.proofs.DecidedTables.{below-type, type-below}
use Rattle.herm_naming.specs.UnknownNames.{paths_named, literals_among, literals_named, is_literal_there, is_there, is_other_there, is_form_there}
use Rattle.herm_naming.specs.Fits.{is_polymorph_shape, is_callmessage_shape, has_every_arm, may_raise, field_types, is_in_mode, may_be, may_equal, may_hold, may_have_rows, may_lead, may_give, may_take, literal_gives, is_seen, is_own, gives, is_fit, atom_gives, is_fit_atom, are_keys, may_have_keys, is_set_atom, is_argument, are_arguments, has_parameters, gives_parameters, takes_parameters, fits_arm, fits_row, fits_keys, fits_test, fits_form}
use Rattle.herm_naming.specs.Copies.{copied, may_copy, may_copy_rows, may_copy_each, copies_form}
use Rattle.herm_naming.proofs.Settled.{has-some, not-false, shape-type, named-type, may-shape, equal-types, copy-type, boolean-type, has-boolean, path-type, seen-path, literal-type, Passes, expression-type}

-- what is asked of the paths of a form beside their types
abbrev pub IsApartForm : TypeTable → List ℕ → Form → Type 0
IsApartForm table types (Move y x) = IsTrue (are_apart y x)
IsApartForm table types (Unite v c y) = IsTrue (are_apart y v)
IsApartForm table types (Dissolve v c y) = IsTrue (are_apart v y)
IsApartForm table types (Wrap y p) = IsTrue (are_apart y p)
IsApartForm table types (Unwrap p t y) = IsTrue (are_apart p y)
IsApartForm table types (Case v cs) = Differ cs
IsApartForm table types (Select arms) = Differ (map (λ (a : Arm). a.port) arms)
IsApartForm table types (Call o arguments) = AreApart (set_by_call table types o arguments)
IsApartForm table types _ = ⊤

-- what tests of shapes say
polymorph-is : (s : Shape) → IsTrue (is_polymorph_shape s) → s ≡ polymorph
polymorph-is polymorph h = refl
polymorph-is s h = not_true h

callmessage-is : (s : Shape) → IsTrue (is_callmessage_shape s) → (ps : List Parameter) × (rs : List Raised) × (s ≡ callmessage ps rs)
callmessage-is (callmessage ps rs) h = (ps, rs, refl)
callmessage-is s h = not_true h

cases-is : (s : Shape) → IsTrue (is_cases s) → (ts : List ℕ) × (s ≡ cases ts)
cases-is (cases ts) h = (ts, refl)
cases-is s h = not_true h

arms-are : (cs : List ℕ) (s : Shape) → IsTrue (has_every_arm cs s) → (ts : List ℕ) × (s ≡ cases ts) × IsTrue (all_pass (λ c. any_pass (nat_eq c) cs) (range 0 (length ts)))
arms-are cs (cases ts) h = (ts, refl, h)
arms-are cs s h = not_true h

raise-is : (e : ℕ) (s : Shape) → IsTrue (may_raise e s) → (ps : List Parameter) × (rs : List Raised) × (s ≡ callmessage ps rs) × IsTrue (any_pass (λ (r : Raised). nat_eq e r.exception) rs)
raise-is e (callmessage ps rs) h = (ps, rs, refl, h)
raise-is e s h = not_true h

either-in : {A : Type 0} (a b : Bool) → IsTrue (a || b) → (IsTrue a → A) → (IsTrue b → A) → A
either-in true b h f g = f refl
either-in false b h f g = g h

raised-in : (e : ℕ) (rs : List Raised) → IsTrue (any_pass (λ (r : Raised). nat_eq e r.exception) rs) → IsIn e (map (λ (r : Raised). r.exception) rs)
raised-in e [] h = not_true h
raised-in e (r ∷ rs) h = either-in (nat_eq e r.exception) _ h (λ k. inl ((numbers-decide e r.exception).0 k)) (λ k. inr (raised-in e rs k))

pub member-in : (c : ℕ) (cs : List ℕ) → IsTrue (any_pass (nat_eq c) cs) → IsIn c cs
member-in c [] h = not_true h
member-in c (d ∷ cs) h = either-in (nat_eq c d) _ h (λ k. inl ((numbers-decide c d).0 k)) (λ k. inr (member-in c cs k))

-- the type behind one more part
below-more : (table : TypeTable) (t : Option ℕ) (p : List ℕ) (c : ℕ) → type_below table t (p ++ (c ∷ [])) ≡ part_of table (type_below table t p) c
below-more table t [] c = refl
below-more table t (i ∷ p) c = below-more table (part_of table t i) p c

pub at-more : (table : TypeTable) (types : List ℕ) (v : Path) (c t : ℕ) → type_at table types v ≡ Some t → type_at table types (v ++ (c ∷ [])) ≡ part_of table (Some t) c
at-more table types [] c t e = none-not_some e
at-more table types (v ∷ p) c t e = below-more table (slice_get types v) p c ∙ ap (λ o. part_of table o c) e

pub in-tail : {X : Type 0} (b : Bool) (x q : X) (xs : List X) → IsIn x xs → IsIn x (cond b (q ∷ xs) xs)
in-tail true x q xs h = inr h
in-tail false x q xs h = h

module _ (exceptions : ℕ) (table : TypeTable) (well : IsWellFormedTable exceptions table) where
  -- what a test of a shape gives at a known type, shape by shape
  module _ (t : ℕ) (k : IsType table t) where
    hold-is : (c : ℕ) (u : Option ℕ) → IsTrue (may_be table (may_hold table c u) (Some t)) → (ts : List ℕ) × HasShape table t (cases ts) × IsTrue (may_equal table (slice_get ts c) u)
    hold-is c u m = let h = may-shape exceptions table well (may_hold table c u) t k m in by h.0 h.1 h.2
      where
        by : (s : Shape) → HasShape table t s → IsTrue (may_hold table c u s) → (ts : List ℕ) × HasShape table t (cases ts) × IsTrue (may_equal table (slice_get ts c) u)
        by (cases ts) e h = (ts, e, h)
        by s e h = not_true h

    rows-is : (u : Option ℕ) → IsTrue (may_be table (may_have_rows table u) (Some t)) → (row : ℕ) × (key : List ℕ) × HasShape table t (rows row key) × IsTrue (may_equal table (Some row) u)
    rows-is u m = let h = may-shape exceptions table well (may_have_rows table u) t k m in by h.0 h.1 h.2
      where
        by : (s : Shape) → HasShape table t s → IsTrue (may_have_rows table u s) → (row : ℕ) × (key : List ℕ) × HasShape table t (rows row key) × IsTrue (may_equal table (Some row) u)
        by (rows row key) e h = (row, key, e, h)
        by s e h = not_true h

    lead-is : (u : Option ℕ) → IsTrue (may_be table (may_lead table u) (Some t)) → (port : ℕ) × HasShape table t (outport port) × IsTrue (may_equal table (Some port) u)
    lead-is u m = let h = may-shape exceptions table well (may_lead table u) t k m in by h.0 h.1 h.2
      where
        by : (s : Shape) → HasShape table t s → IsTrue (may_lead table u s) → (port : ℕ) × HasShape table t (outport port) × IsTrue (may_equal table (Some port) u)
        by (outport port) e h = (port, e, h)
        by s e h = not_true h

    give-is : (u : Option ℕ) → IsTrue (may_be table (may_give table u) (Some t)) → (message : ℕ) × (declared : List Fact) × HasShape table t (inport message declared) × IsTrue (may_equal table (Some message) u)
    give-is u m = let h = may-shape exceptions table well (may_give table u) t k m in by h.0 h.1 h.2
      where
        by : (s : Shape) → HasShape table t s → IsTrue (may_give table u s) → (message : ℕ) × (declared : List Fact) × HasShape table t (inport message declared) × IsTrue (may_equal table (Some message) u)
        by (inport message declared) e h = (message, declared, e, h)
        by s e h = not_true h

    take-is : (u : Option ℕ) → IsTrue (may_be table (may_take table u) (Some t)) → (port : ℕ) × HasShape table t (outport port) × IsTrue (may_be table (may_give table u) (Some port))
    take-is u m = let h = may-shape exceptions table well (may_take table u) t k m in by h.0 h.1 h.2
      where
        by : (s : Shape) → HasShape table t s → IsTrue (may_take table u s) → (port : ℕ) × HasShape table t (outport port) × IsTrue (may_be table (may_give table u) (Some port))
        by (outport port) e h = (port, e, h)
        by s e h = not_true h

  named-row : (t row : ℕ) (key : List ℕ) → HasShape table t (rows row key) → IsType table row
  named-row t row key e = named-type exceptions table well t (rows row key) row e (inl refl)

  named-port : (t port : ℕ) → HasShape table t (outport port) → IsType table port
  named-port t port e = named-type exceptions table well t (outport port) port e (inl refl)

  named-message : (t message : ℕ) (declared : List Fact) → HasShape table t (inport message declared) → IsType table message
  named-message t message declared e = named-type exceptions table well t (inport message declared) message e (inl refl)

  same-type : (o : Option ℕ) (t u : ℕ) → o ≡ Some u → IsType table t → IsType table u → IsTrue (may_equal table (Some t) o) → t ≡ u
  same-type o t u e k l m = equal-types exceptions table well t u k l (subst (λ x. IsTrue (may_equal table (Some t) x)) e m)

  module _ (types : List ℕ) (known : (t : ℕ) → IsIn t types → IsType table t) where
    own-path : (p : Path) (u : ℕ) → type_at table types p ≡ Some u → IsTrue (is_own table types p) → IsTarget table types p u
    own-path p u e o =
        let c = and-both (is_seen table types p) _ o in
        (seen-path exceptions table well types known p u e c.0, not-false _ c.1)

    -- atoms that are there and fit; an atom that may be copied has the type that it gives
    pub record AtomsPass (atoms : List Atom) : Type 0 where
      pub paths : (p : Path) → IsIn p (paths_among atoms) → IsTrue (is_there table types p)
      pub literals : (l : Literal) → IsIn l (literals_among atoms) → IsTrue (is_literal_there table l)
      pub fits : IsTrue (all_pass (is_fit_atom table types) atoms)

    tail-pass : (a : Atom) (atoms : List Atom) → AtomsPass (a ∷ atoms) → AtomsPass atoms
    tail-pass (Atom.literal l) atoms h = record {
      paths = h.paths;
      literals = λ m i. h.literals m (inr i);
      fits = (and-both (is_fit_atom table types (Atom.literal l)) _ h.fits).1;
    }
    tail-pass (path p) atoms h = record {
      paths = λ q i. h.paths q (inr i);
      literals = h.literals;
      fits = (and-both (is_fit_atom table types (path p)) _ h.fits).1;
    }

    literal-atom : (l : Literal) (atoms : List Atom) → AtomsPass (Atom.literal l ∷ atoms) → (t : ℕ) × (literal_gives table l ≡ Some t) × IsType table t × IsTypedAtom table types (Atom.literal l) t
    literal-atom l atoms h = literal-type exceptions table well types known l (h.literals l (inl refl)) (and-both (is_fit_atom table types (Atom.literal l)) _ h.fits).0

    path-atom : (p : Path) (atoms : List Atom) → AtomsPass (path p ∷ atoms) → (t : ℕ) × (type_at table types p ≡ Some t) × IsType table t
    path-atom p atoms h = path-type exceptions table well types known p (h.paths p (inl refl))

    copied-atom : (p : Path) (atoms : List Atom) → AtomsPass (path p ∷ atoms) → IsTrue (may_copy table (type_at table types p)) → (t : ℕ) × (type_at table types p ≡ Some t) × IsType table t × IsTypedAtom table types (path p) t
    copied-atom p atoms h m =
        let r = path-atom p atoms h in
        (r.0, r.1, r.2, (seen-path exceptions table well types known p r.0 r.1 (and-both (is_fit_atom table types (path p)) _ h.fits).0, copy-type exceptions table well r.0 r.2 (subst (λ o. IsTrue (may_copy table o)) r.1 m)))

    -- keys
    keys-typed : (ts key : List ℕ) (atoms : List Atom) → ((i : ℕ) → IsIn i key → (t : ℕ) × (slice_get ts i ≡ Some t) × IsType table t) → AtomsPass atoms
        → ((p : Path) → IsIn p (paths_among atoms) → IsTrue (may_copy table (type_at table types p))) → IsTrue (are_keys table types ts key atoms) → AreKeysOf table types ts key atoms
    keys-typed ts [] [] each h m k = tt
    keys-typed ts [] (a ∷ atoms) each h m k = not_true k
    keys-typed ts (i ∷ key) [] each h m k = not_true k
    keys-typed ts (i ∷ key) (Atom.literal l ∷ atoms) each h m k =
        let c = and-both (may_equal table (slice_get ts i) (literal_gives table l)) _ k in
        let t = each i (inl refl) in
        let a = literal-atom l atoms h in
        let q = same-type (literal_gives table l) t.0 a.0 a.1 t.2 a.2 (subst (λ o. IsTrue (may_equal table o (literal_gives table l))) t.1 c.0) in
        ((t.0, t.1, subst (λ u. IsTypedAtom table types (Atom.literal l) u) (sym q) a.3), keys-typed ts key atoms (λ j i. each j (inr i)) (tail-pass (Atom.literal l) atoms h) m c.1)
    keys-typed ts (i ∷ key) (path p ∷ atoms) each h m k =
        let c = and-both (may_equal table (slice_get ts i) (type_at table types p)) _ k in
        let t = each i (inl refl) in
        let a = copied-atom p atoms h (m p (inl refl)) in
        let q = same-type (type_at table types p) t.0 a.0 a.1 t.2 a.2 (subst (λ o. IsTrue (may_equal table o (type_at table types p))) t.1 c.0) in
        ((t.0, t.1, subst (λ u. IsTypedAtom table types (path p) u) (sym q) a.3), keys-typed ts key atoms (λ j i. each j (inr i)) (tail-pass (path p) atoms h) (λ q i. m q (inr i)) c.1)

    -- arguments
    argument-typed : (mode : Mode) (t : ℕ) (a : Atom) (atoms : List Atom) → IsType table t → AtomsPass (a ∷ atoms)
        → ((p : Path) → a ≡ path p → IsTrue (is_in_mode mode) → IsTrue (may_copy table (type_at table types p)))
        → IsTrue (may_equal table (Some t) (atom_gives table types a) && (is_in_mode mode || is_set_atom table types a)) → IsArgument table types mode a t
    argument-typed by_in t (Atom.literal l) atoms k h m f =
        let c = and-both (may_equal table (Some t) (literal_gives table l)) _ f in
        let a = literal-atom l atoms h in
        subst (λ u. IsTypedAtom table types (Atom.literal l) u) (sym (same-type (literal_gives table l) t a.0 a.1 k a.2 c.0)) a.3
    argument-typed by_in t (path p) atoms k h m f =
        let c = and-both (may_equal table (Some t) (type_at table types p)) _ f in
        let a = copied-atom p atoms h (m p refl refl) in
        subst (λ u. IsTypedAtom table types (path p) u) (sym (same-type (type_at table types p) t a.0 a.1 k a.2 c.0)) a.3
    argument-typed by_inout t (Atom.literal l) atoms k h m f = not_true (and-both (may_equal table (Some t) (literal_gives table l)) _ f).1
    argument-typed by_inout t (path p) atoms k h m f =
        let c = and-both (may_equal table (Some t) (type_at table types p)) _ f in
        let a = path-atom p atoms h in
        subst (λ u. IsTarget table types p u) (sym (same-type (type_at table types p) t a.0 a.1 k a.2 c.0)) (own-path p a.0 a.1 c.1)
    argument-typed by_out t (Atom.literal l) atoms k h m f = not_true (and-both (may_equal table (Some t) (literal_gives table l)) _ f).1
    argument-typed by_out t (path p) atoms k h m f =
        let c = and-both (may_equal table (Some t) (type_at table types p)) _ f in
        let a = path-atom p atoms h in
        subst (λ u. IsTarget table types p u) (sym (same-type (type_at table types p) t a.0 a.1 k a.2 c.0)) (own-path p a.0 a.1 c.1)

    arguments-typed : (ps : List Parameter) (atoms : List Atom) → ((p : Parameter) → IsIn p ps → IsType table p.content) → AtomsPass atoms
        → ((p : Path) → IsIn p (arguments_by is_in_mode ps atoms) → IsTrue (may_copy table (type_at table types p))) → IsTrue (are_arguments table types ps atoms) → AreArguments table types ps atoms
    arguments-typed [] [] each h m k = tt
    arguments-typed [] (a ∷ atoms) each h m k = not_true k
    arguments-typed (p ∷ ps) [] each h m k = not_true k
    arguments-typed (p ∷ ps) (Atom.literal l ∷ atoms) each h m k =
        let c = and-both (is_argument table types p (Atom.literal l)) _ k in (
          argument-typed p.mode p.content (Atom.literal l) atoms (each p (inl refl)) h (λ q e i. let b : ⊥ = cc e in absurd b) c.0,
          arguments-typed ps atoms (λ q i. each q (inr i)) (tail-pass (Atom.literal l) atoms h) m c.1,
        )
    arguments-typed (p ∷ ps) (path q ∷ atoms) each h m k =
        let c = and-both (is_argument table types p (path q)) _ k in (
          argument-typed p.mode p.content (path q) atoms (each p (inl refl)) h (λ r e i. m r (first r e i)) c.0,
          arguments-typed ps atoms (λ q i. each q (inr i)) (tail-pass (path q) atoms h) (λ r i. m r (in-tail (is_in_mode p.mode) r q _ i)) c.1,
        )
      where
        first : (r : Path) → path q ≡ path r → IsTrue (is_in_mode p.mode) → IsIn r (cond (is_in_mode p.mode) (q ∷ arguments_by is_in_mode ps atoms) (arguments_by is_in_mode ps atoms))
        first r e i = let d : r ≡ q = cc e in subst (λ b. IsIn r (cond b (q ∷ arguments_by is_in_mode ps atoms) (arguments_by is_in_mode ps atoms))) (sym i) (inl d)

    module _ (processes : List Process) (ports : List ℕ) (ports_are : (n : ℕ) → port_type processes n ≡ slice_get ports n) (ports_known : (t : ℕ) → IsIn t ports → IsType table t) where
      -- what the tests of a form say
      pub record FormPasses (f : Form) : Type 0 where
        pub there : IsTrue (is_form_there table types exceptions (length ports) f)
        pub fits : IsTrue (fits_form table types ports f)
        pub copies : IsTrue (copies_form table types f)
        pub apart : IsApartForm table types f

      module _ (f : Form) (h : FormPasses f) where
        names : IsTrue (all_pass (is_there table types) (paths_named f)) × IsTrue (all_pass (is_literal_there table) (literals_named f)) × IsTrue (is_other_there table types exceptions (length ports) f)
        names =
            let c = and-both (all_pass (is_there table types) (paths_named f)) _ h.there in
            let d = and-both (all_pass (is_literal_there table) (literals_named f)) _ c.1 in
            (c.0, d.0, d.1)

        there-path : (p : Path) → IsIn p (paths_named f) → IsTrue (is_there table types p)
        there-path p i = every-in (is_there table types) p (paths_named f) names.0 i

        there-literal : (l : Literal) → IsIn l (literals_named f) → IsTrue (is_literal_there table l)
        there-literal l i = every-in (is_literal_there table) l (literals_named f) names.1 i

        at : (p : Path) → IsIn p (paths_named f) → (t : ℕ) × (type_at table types p ≡ Some t) × IsType table t
        at p i = path-type exceptions table well types known p (there-path p i)

      -- the test of the type at a path, at the type that it has
      at-type : (test : Shape → Bool) (p : Path) (t : ℕ) → type_at table types p ≡ Some t → IsTrue (may_be table test (type_at table types p)) → IsTrue (may_be table test (Some t))
      at-type test p t e m = subst (λ o. IsTrue (may_be table test o)) e m

      seen : (p : Path) (t : ℕ) → type_at table types p ≡ Some t → IsTrue (is_seen table types p) → IsLookedAt table types p t
      seen p t e s = seen-path exceptions table well types known p t e s

      equal-paths : (p q : Path) (t u : ℕ) → type_at table types p ≡ Some t → IsType table t → type_at table types q ≡ Some u → IsType table u → IsTrue (may_equal table (type_at table types p) (type_at table types q)) → t ≡ u
      equal-paths p q t u e k d l m = same-type (type_at table types q) t u d k l (subst (λ o. IsTrue (may_equal table o (type_at table types q))) e m)

      -- the component at the end of a path that is there
      component-type : (v : Path) (c t : ℕ) (ts : List ℕ) → type_at table types v ≡ Some t → HasShape table t (cases ts) → IsTrue (is_there table types (v ++ (c ∷ []))) → (u : ℕ) × (slice_get ts c ≡ Some u) × IsType table u
      component-type v c t ts e s h =
          let r = path-type exceptions table well types known (v ++ (c ∷ [])) h in
          let d : part_of table (Some t) c ≡ Some r.0 = sym (at-more table types v c t e) ∙ r.1 in
          (r.0, subst (λ o. map_or None (λ s. part_type s c) o ≡ Some r.0) s d, r.2)

      arm-typed : (x i : Path) → IsTrue (is_there table types x) → IsTrue (is_there table types i) → IsTrue (fits_arm table types (record { target = x; port = i })) → IsReceived table types x i
      arm-typed x i hx hi f =
          let c = and-both (is_own table types x && is_seen table types i) _ f in
          let d = and-both (is_own table types x) _ c.0 in
          let a = path-type exceptions table well types known x hx in
          let b = path-type exceptions table well types known i hi in
          let g = give-is b.0 b.2 (type_at table types x) (at-type _ i b.0 b.1 c.1) in
          let q = same-type (type_at table types x) g.0 a.0 a.1 (named-message b.0 g.0 g.1 g.2) a.2 g.3 in
          (g.0, (b.0, g.1, seen i b.0 b.1 d.1, g.2), subst (λ u. IsTarget table types x u) (sym q) (own-path x a.0 a.1 d.0))

      row-typed : (r t : Path) → (a : ℕ) → type_at table types r ≡ Some a → IsType table a → (b : ℕ) → type_at table types t ≡ Some b → IsType table b → IsTrue (fits_row table types r t)
          → (row : ℕ) × (key : List ℕ) × HasShape table b (rows row key) × IsLookedAt table types t b × IsTarget table types r row
      row-typed r t a ea ka b eb kb f =
          let c = and-both (is_own table types r && is_seen table types t) _ f in
          let d = and-both (is_own table types r) _ c.0 in
          let g = rows-is b kb (type_at table types r) (at-type _ t b eb c.1) in
          let q = same-type (type_at table types r) g.0 a ea (named-row b g.0 g.1 g.2) ka g.3 in
          (g.0, g.1, g.2, seen t b eb d.1, subst (λ u. IsTarget table types r u) (sym q) (own-path r a ea d.0))

      -- the keys of the table at a path
      keys-of : (t : Path) (b row : ℕ) (key : List ℕ) (keys : List Atom) → type_at table types t ≡ Some b → HasShape table b (rows row key) → AtomsPass keys
          → IsTrue (may_copy_each table types (paths_among keys)) → IsTrue (fits_keys table types t keys) → (ts : List ℕ) × HasShape table row (fields ts) × AreKeysOf table types ts key keys
      keys-of t b row key keys e s h m f =
          let c = and-both (all_pass (is_fit_atom table types) keys) _ f in
          let k = well.keys b (rows row key) s in
          let d : IsTrue (are_keys table types (list_of field_types (slice_get table row)) key keys) =
          subst (λ o. IsTrue (map_or true (may_have_keys table types keys) o)) s (at-type (may_have_keys table types keys) t b e c.1) in
          let g : IsTrue (are_keys table types k.0 key keys) = subst (λ o. IsTrue (are_keys table types (list_of field_types o) key keys)) k.1 d in
          (k.0, k.1, keys-typed k.0 key keys (λ i j. let q = k.3 i j in (q.0, q.2, shape-type exceptions table well q.0 q.1 q.3)) h (λ p i. every-in (λ p. may_copy table (type_at table types p)) p (paths_among keys) m i) g)

      test-typed : (e : Expression) → Passes exceptions table well types known e → IsTrue (fits_test table types e) → (t : ℕ) × HasShape table t boolean × IsTyped table types e t
      test-typed e h f =
          let c = and-both (is_fit table types e) _ f in
          let r = expression-type exceptions table well types known e h in
          let q = equal-types exceptions table well r.0 0 r.2 (boolean-type exceptions table well) (subst (λ o. IsTrue (may_equal table o (Some 0))) r.1 c.1) in
          (0, has-boolean exceptions table well, subst (λ u. IsTyped table types e u) q r.3)

      call-parameters : (o : Path) (t port message : ℕ) (declared : List Fact) (ps : List Parameter) (rs : List Raised) → type_at table types o ≡ Some t → HasShape table t (outport port)
          → HasShape table port (inport message declared) → HasShape table message (callmessage ps rs) → call_parameters table types o ≡ ps
      call-parameters o t port message declared ps rs e a b c =
          ap (λ x. list_of parameters_of (option_and_then (slice_get table) (option_and_then message_type (option_and_then (slice_get table) (option_and_then led_to (option_and_then (slice_get table) x)))))) e
          ∙ (ap (λ x. list_of parameters_of (option_and_then (slice_get table) (option_and_then message_type (option_and_then (slice_get table) (option_and_then led_to x))))) a
          ∙ (ap (λ x. list_of parameters_of (option_and_then (slice_get table) (option_and_then message_type x))) b
          ∙ ap (λ x. list_of parameters_of x) c))

      called-is : (o : Path) (t : ℕ) (arguments : List Atom) → type_at table types o ≡ Some t → IsType table t → IsTrue (may_be table (takes_parameters table types arguments) (Some t))
          → (port message : ℕ) × (declared : List Fact) × (ps : List Parameter) × (rs : List Raised) × HasShape table t (outport port) × HasShape table port (inport message declared) × HasShape table message (callmessage ps rs) × IsTrue (are_arguments table types ps arguments)
      called-is o t arguments e k m = let h = may-shape exceptions table well (takes_parameters table types arguments) t k m in outer h.0 h.1 h.2
        where
          inmost : (port message : ℕ) (declared : List Fact) (s : Shape) → HasShape table t (outport port) → HasShape table port (inport message declared) → HasShape table message s → IsTrue (has_parameters table types arguments s)
              → (port message : ℕ) × (declared : List Fact) × (ps : List Parameter) × (rs : List Raised) × HasShape table t (outport port) × HasShape table port (inport message declared) × HasShape table message (callmessage ps rs) × IsTrue (are_arguments table types ps arguments)
          inmost port message declared (callmessage ps rs) a b c h = (port, message, declared, ps, rs, a, b, c, h)
          inmost port message declared s a b c h = not_true h

          inner : (port : ℕ) (s : Shape) → HasShape table t (outport port) → HasShape table port s → IsTrue (gives_parameters table types arguments s)
              → (port message : ℕ) × (declared : List Fact) × (ps : List Parameter) × (rs : List Raised) × HasShape table t (outport port) × HasShape table port (inport message declared) × HasShape table message (callmessage ps rs) × IsTrue (are_arguments table types ps arguments)
          inner port (inport message declared) a b h =
              let n = may-shape exceptions table well (has_parameters table types arguments) message (named-message port message declared b) h in
              inmost port message declared n.0 a b n.1 n.2
          inner port s a b h = not_true h

          outer : (s : Shape) → HasShape table t s → IsTrue (takes_parameters table types arguments s)
              → (port message : ℕ) × (declared : List Fact) × (ps : List Parameter) × (rs : List Raised) × HasShape table t (outport port) × HasShape table port (inport message declared) × HasShape table message (callmessage ps rs) × IsTrue (are_arguments table types ps arguments)
          outer (outport port) a h =
              let n = may-shape exceptions table well (gives_parameters table types arguments) port (named-port t port a) h in
              inner port n.0 a n.1 n.2
          outer s a h = not_true h

      parameter-known : (m : ℕ) (ps : List Parameter) (rs : List Raised) → HasShape table m (callmessage ps rs) → (p : Parameter) → IsIn p ps → IsType table p.content
      parameter-known m ps rs s p i = named-type exceptions table well m (callmessage ps rs) p.content s (in-map (λ (p : Parameter). p.content) p ps i)

      each-copied : (ps : List Path) → IsTrue (may_copy_each table types ps) → (p : Path) → IsIn p ps → IsTrue (may_copy table (type_at table types p))
      each-copied ps m p i = every-in (λ p. may_copy table (type_at table types p)) p ps m i

      -- a form that passes is typed
      pub form-typed : (f : Form) → FormPasses f → IsTypedForm table types exceptions processes f
      form-typed (Assign x e) h =
          let c = and-both (is_own table types x) _ h.fits in
          let d = and-both (is_fit table types e) _ c.1 in
          let a = at (Assign x e) h x (inl refl) in
          let r = expression-type exceptions table well types known e (record { paths = λ p i. there-path (Assign x e) h p (inr i); literals = λ l i. there-literal (Assign x e) h l i; fits = d.0; copies = each-copied (copied e) h.copies }) in
          let q = same-type (gives table types e) a.0 r.0 r.1 a.2 r.2 (subst (λ o. IsTrue (may_equal table o (gives table types e))) a.1 d.1) in
          (a.0, own-path x a.0 a.1 c.0, subst (λ u. IsTyped table types e u) (sym q) r.3)
      form-typed (Move y x) h =
          let c = and-both (is_own table types y && is_own table types x) _ h.fits in
          let d = and-both (is_own table types y) _ c.0 in
          let a = at (Move y x) h y (inl refl) in
          let b = at (Move y x) h x (inr (inl refl)) in
          let q = equal-paths y x a.0 b.0 a.1 a.2 b.1 b.2 c.1 in
          (a.0, own-path y a.0 a.1 d.0, subst (λ u. IsTarget table types x u) (sym q) (own-path x b.0 b.1 d.1), h.apart)
      form-typed (New x) h =
          let c = and-both (is_own table types x) _ h.fits in
          let a = at (New x) h x (inl refl) in
          let s = may-shape exceptions table well can_be_new a.0 a.2 (at-type can_be_new x a.0 a.1 c.1) in
          (a.0, s.0, own-path x a.0 a.1 c.0, s.1, s.2)
      form-typed (Discard x) h = let a = at (Discard x) h x (inl refl) in (a.0, own-path x a.0 a.1 h.fits)
      form-typed (Unite v c y) h =
          let g = and-both (is_own table types v && is_own table types y) _ h.fits in
          let d = and-both (is_own table types v) _ g.0 in
          let a = at (Unite v c y) h v (inl refl) in
          let b = at (Unite v c y) h y (inr (inr (inl refl))) in
          let s = hold-is a.0 a.2 c (type_at table types y) (at-type _ v a.0 a.1 g.1) in
          let w = component-type v c a.0 s.0 a.1 s.1 (there-path (Unite v c y) h (v ++ (c ∷ [])) (inr (inl refl))) in
          let q = same-type (type_at table types y) w.0 b.0 b.1 w.2 b.2 (subst (λ o. IsTrue (may_equal table o (type_at table types y))) w.1 s.2) in
          (a.0, w.0, own-path v a.0 a.1 d.0, (s.0, s.1, w.1), subst (λ u. IsTarget table types y u) (sym q) (own-path y b.0 b.1 d.1), h.apart)
      form-typed (Dissolve v c y) h =
          let g = and-both (is_own table types v && is_own table types y) _ h.fits in
          let d = and-both (is_own table types v) _ g.0 in
          let a = at (Dissolve v c y) h v (inl refl) in
          let b = at (Dissolve v c y) h y (inr (inr (inl refl))) in
          let s = hold-is a.0 a.2 c (type_at table types y) (at-type _ v a.0 a.1 g.1) in
          let w = component-type v c a.0 s.0 a.1 s.1 (there-path (Dissolve v c y) h (v ++ (c ∷ [])) (inr (inl refl))) in
          let q = same-type (type_at table types y) w.0 b.0 b.1 w.2 b.2 (subst (λ o. IsTrue (may_equal table o (type_at table types y))) w.1 s.2) in
          (a.0, w.0, own-path v a.0 a.1 d.0, (s.0, s.1, w.1), subst (λ u. IsTarget table types y u) (sym q) (own-path y b.0 b.1 d.1), h.apart)
      form-typed (Reveal v c) h =
          let g = and-both (is_seen table types v) _ h.fits in
          let a = at (Reveal v c) h v (inl refl) in
          let s = may-shape exceptions table well is_cases a.0 a.2 (at-type is_cases v a.0 a.1 g.1) in
          let k = cases-is s.0 s.2 in
          let d : HasShape table a.0 (cases k.0) = subst (λ x. HasShape table a.0 x) k.1 s.1 in
          let w = component-type v c a.0 k.0 a.1 d (there-path (Reveal v c) h (v ++ (c ∷ [])) (inr (inl refl))) in
          (a.0, w.0, seen v a.0 a.1 g.0, (k.0, d, w.1))
      form-typed (Case v cs) h =
          let g = and-both (is_seen table types v) _ h.fits in
          let a = at (Case v cs) h v (inl refl) in
          let s = may-shape exceptions table well (has_every_arm cs) a.0 a.2 (at-type (has_every_arm cs) v a.0 a.1 g.1) in
          let k = arms-are cs s.0 s.2 in
          let d : HasShape table a.0 (cases k.0) = subst (λ x. HasShape table a.0 x) k.1 s.1 in (
            a.0,
            k.0,
            seen v a.0 a.1 g.0,
            d,
            h.apart,
            λ c. (
              λ i. let w = component-type v c a.0 k.0 a.1 d (there-path (Case v cs) h (v ++ (c ∷ [])) (inr (in-map (λ c. v ++ (c ∷ [])) c cs i))) in
                  type-below k.0 c (subst (λ o. IsTrue (is_some o)) (sym w.1) refl),
              λ l. member-in c cs ((range-decides (λ c. any_pass (nat_eq c) cs) (λ c. IsTrue (any_pass (nat_eq c) cs)) (λ c. ((λ x. x), λ x. x)) (length k.0)).0 k.2 c l),
            ),
          )
      form-typed (Wrap y p) h =
          let g = and-both (is_own table types y && is_own table types p) _ h.fits in
          let d = and-both (is_own table types y) _ g.0 in
          let a = at (Wrap y p) h y (inl refl) in
          let b = at (Wrap y p) h p (inr (inl refl)) in
          let s = may-shape exceptions table well is_polymorph_shape b.0 b.2 (at-type is_polymorph_shape p b.0 b.1 g.1) in
          (a.0, b.0, own-path y a.0 a.1 d.0, own-path p b.0 b.1 d.1, subst (λ x. HasShape table b.0 x) (polymorph-is s.0 s.2) s.1, h.apart)
      form-typed (Unwrap p t y) h =
          let g = and-both (is_own table types p && is_own table types y) _ h.fits in
          let d = and-both (is_own table types p) _ g.0 in
          let k = and-both (may_be table is_polymorph_shape (type_at table types p)) _ g.1 in
          let a = at (Unwrap p t y) h p (inl refl) in
          let b = at (Unwrap p t y) h y (inr (inl refl)) in
          let s = may-shape exceptions table well is_polymorph_shape a.0 a.2 (at-type is_polymorph_shape p a.0 a.1 k.0) in
          let q = same-type (type_at table types y) t b.0 b.1 (names (Unwrap p t y) h).2 b.2 k.1 in
          (a.0, own-path p a.0 a.1 d.0, subst (λ x. HasShape table a.0 x) (polymorph-is s.0 s.2) s.1, subst (λ u. IsTarget table types y u) (sym q) (own-path y b.0 b.1 d.1), h.apart)
      form-typed (Insert r t) h =
          let a = at (Insert r t) h r (inl refl) in
          let b = at (Insert r t) h t (inr (inl refl)) in
          let w = row-typed r t a.0 a.1 a.2 b.0 b.1 b.2 h.fits in
          (w.0, w.1, (b.0, w.3, w.2), w.4)
      form-typed (Remove r t keys) h =
          let a = at (Remove r t keys) h r (inl refl) in
          let b = at (Remove r t keys) h t (inr (inl refl)) in
          let g = and-both (fits_row table types r t) _ h.fits in
          let w = row-typed r t a.0 a.1 a.2 b.0 b.1 b.2 g.0 in
          let k = keys-of t b.0 w.0 w.1 keys b.1 w.2 (record { paths = λ p i. there-path (Remove r t keys) h p (inr (inr i)); literals = λ l i. there-literal (Remove r t keys) h l i; fits = (and-both (all_pass (is_fit_atom table types) keys) _ g.1).0 }) h.copies g.1 in
          (w.0, (w.1, k.0, (b.0, w.3, w.2), w.4, k.1, k.2))
      form-typed (Get r t keys) h =
          let a = at (Get r t keys) h r (inl refl) in
          let b = at (Get r t keys) h t (inr (inl refl)) in
          let g = and-both (fits_row table types r t) _ h.fits in
          let m = and-both (may_copy_each table types (paths_among keys)) _ h.copies in
          let w = row-typed r t a.0 a.1 a.2 b.0 b.1 b.2 g.0 in
          let k = keys-of t b.0 w.0 w.1 keys b.1 w.2 (record { paths = λ p i. there-path (Get r t keys) h p (inr (inr i)); literals = λ l i. there-literal (Get r t keys) h l i; fits = (and-both (all_pass (is_fit_atom table types) keys) _ g.1).0 }) m.0 g.1 in
          (w.0, (w.1, k.0, (b.0, w.3, w.2), w.4, k.1, k.2), copy-type exceptions table well w.0 (named-row b.0 w.0 w.1 w.2) (subst (λ o. IsTrue (map_or true (may_copy_rows table) o)) w.2 (at-type (may_copy_rows table) t b.0 b.1 m.1)))
      form-typed (For r t) h =
          let a = at (For r t) h r (inl refl) in
          let b = at (For r t) h t (inr (inl refl)) in
          let w = row-typed r t a.0 a.1 a.2 b.0 b.1 b.2 h.fits in
          (w.0, w.1, (b.0, w.3, w.2), w.4, copy-type exceptions table well w.0 (named-row b.0 w.0 w.1 w.2) (subst (λ o. IsTrue (map_or true (may_copy_rows table) o)) w.2 (at-type (may_copy_rows table) t b.0 b.1 h.copies)))
      form-typed (Connect o i) h =
          let g = and-both (is_own table types o && is_seen table types i) _ h.fits in
          let d = and-both (is_own table types o) _ g.0 in
          let a = at (Connect o i) h o (inl refl) in
          let b = at (Connect o i) h i (inr (inl refl)) in
          let s = lead-is a.0 a.2 (type_at table types i) (at-type _ o a.0 a.1 g.1) in
          let q = same-type (type_at table types i) s.0 b.0 b.1 (named-port a.0 s.0 s.1) b.2 s.2 in
          (a.0, s.0, own-path o a.0 a.1 d.0, s.1, subst (λ u. IsLookedAt table types i u) (sym q) (seen i b.0 b.1 d.1))
      form-typed (Send x o) h =
          let g = and-both (is_own table types x && is_seen table types o) _ h.fits in
          let d = and-both (is_own table types x) _ g.0 in
          let a = at (Send x o) h x (inl refl) in
          let b = at (Send x o) h o (inr (inl refl)) in
          let s = take-is b.0 b.2 (type_at table types x) (at-type _ o b.0 b.1 g.1) in
          let m = give-is s.0 (named-port b.0 s.0 s.1) (type_at table types x) s.2 in
          let q = same-type (type_at table types x) m.0 a.0 a.1 (named-message s.0 m.0 m.1 m.2) a.2 m.3 in
          (m.0, (b.0, s.0, m.1, seen o b.0 b.1 d.1, s.1, m.2), subst (λ u. IsTarget table types x u) (sym q) (own-path x a.0 a.1 d.0))
      form-typed (Receive x i) h = arm-typed x i (there-path (Receive x i) h x (inl refl)) (there-path (Receive x i) h i (inr (inl refl))) h.fits
      form-typed (Select arms) h = (
        h.apart,
        λ a i. arm-typed a.target a.port
            (there-path (Select arms) h a.target (in-flat_map (λ (a : Arm). a.port ∷ a.target ∷ []) a a.target arms i (inr (inl refl))))
            (there-path (Select arms) h a.port (in-flat_map (λ (a : Arm). a.port ∷ a.target ∷ []) a a.port arms i (inl refl)))
            (every-in (fits_arm table types) a arms h.fits i),
      )
      form-typed (Call o arguments) h =
          let g = and-both (is_seen table types o && all_pass (is_fit_atom table types) arguments) _ h.fits in
          let d = and-both (is_seen table types o) _ g.0 in
          let a = at (Call o arguments) h o (inl refl) in
          let s = called-is o a.0 arguments a.1 a.2 (at-type (takes_parameters table types arguments) o a.0 a.1 g.1) in
          let e = call-parameters o a.0 s.0 s.1 s.2 s.3 s.4 a.1 s.5 s.6 s.7 in (
            s.1,
            s.3,
            s.4,
            (a.0, s.0, s.2, seen o a.0 a.1 d.0, s.5, s.6),
            s.7,
            arguments-typed s.3 arguments (parameter-known s.1 s.3 s.4 s.7) (record { paths = λ p i. there-path (Call o arguments) h p (inr i); literals = λ l i. there-literal (Call o arguments) h l i; fits = d.1 })
                (λ p i. each-copied (arguments_by is_in_mode (call_parameters table types o) arguments) h.copies p (subst (λ ps. IsIn p (arguments_by is_in_mode ps arguments)) (sym e) i)) s.8,
            h.apart,
          )
      form-typed (Return m) h =
          let g = and-both (is_own table types m) _ h.fits in
          let a = at (Return m) h m (inl refl) in
          let s = may-shape exceptions table well is_callmessage_shape a.0 a.2 (at-type is_callmessage_shape m a.0 a.1 g.1) in
          let k = callmessage-is s.0 s.2 in
          (k.1, (a.0, k.0, own-path m a.0 a.1 g.0, subst (λ x. HasShape table a.0 x) k.2 s.1))
      form-typed (ReturnBy m e) h =
          let g = and-both (is_own table types m) _ h.fits in
          let a = at (ReturnBy m e) h m (inl refl) in
          let s = may-shape exceptions table well (may_raise e) a.0 a.2 (at-type (may_raise e) m a.0 a.1 g.1) in
          let k = raise-is e s.0 s.2 in
          (k.1, (a.0, k.0, own-path m a.0 a.1 g.0, subst (λ x. HasShape table a.0 x) k.2 s.1), raised-in e k.1 k.3)
      form-typed (Create o n) h =
          let g = and-both (is_own table types o) _ h.fits in
          let a = at (Create o n) h o (inl refl) in
          let s = lead-is a.0 a.2 (slice_get ports n) (at-type _ o a.0 a.1 g.1) in
          let w = has-some (slice_get ports n) (below-type ports n ((below-decides n (length ports)).0 (names (Create o n) h).2)) in
          let q = same-type (slice_get ports n) s.0 w.0 w.1 (named-port a.0 s.0 s.1) (ports_known w.0 (got-IsIn ports n w.0 w.1)) s.2 in
          (a.0, s.0, own-path o a.0 a.1 g.0, s.1, ports_are n ∙ (w.1 ∙ ap Some (sym q)))
      form-typed (If e) h = test-typed e (record { paths = λ p i. there-path (If e) h p i; literals = λ l i. there-literal (If e) h l i; fits = (and-both (is_fit table types e) _ h.fits).0; copies = each-copied (copied e) h.copies }) h.fits
      form-typed (While e) h = test-typed e (record { paths = λ p i. there-path (While e) h p i; literals = λ l i. there-literal (While e) h l i; fits = (and-both (is_fit table types e) _ h.fits).0; copies = each-copied (copied e) h.copies }) h.fits
      form-typed (Raise e) h = (below-decides e exceptions).0 (names (Raise e) h).2
      form-typed Leave h = tt
