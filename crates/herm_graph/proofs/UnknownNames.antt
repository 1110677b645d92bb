-- Types that meet unknown names, and those whose copies depend on unknown types.
use Rattle.std.proofs.Common.{◌≡◌, ◌<◌, ◌⊎◌, inl, inr, ◌↔◌, ℕ, zero, suc, Bool, true, false, ◌||◌, not, nat_lt, cond, List, [], ◌∷◌, length, map, Option, Some, None, slice_get, option_map, IsTrue, is_some, refl, sym, ◌∙◌, ap, subst, arith, true≢false, get_or, Vec, Global}
use Rattle.std.specs.List.{list_any}
use Rattle.std.proofs.lemmas.Option.{slice_get-map, slice_get_within, slice_get_read}
use Rattle.std.proofs.lemmas.Bool.{ltb-true, ltb-false}
use Rattle.herm_model.specs.Lists.{IsIn, map_or}
use Rattle.herm_model.specs.Types.{TypeTable, Shape, boolean, integer, text, polymorph, names, fields, cases, rows, inport, outport, callmessage, Raised, named_types}
use Rattle.herm_model.specs.Copyable.{is_composed}
use Rattle.herm_model.specs.TypedExpressions.{HasShape}
use Rattle.herm_model.specs.WellFormedTables.{IsType, NamesTypes, RaisesKnown}
use Rattle.herm_model.proofs.Lists.{or-either, length-map}
use Rattle.herm_meaning.specs.Names.{NamedTable}
use Rattle.herm_meaning.specs.DefinitionFaults.{MeetsNoCycle, MeetsNoUnknown, DependsOn, itself, by_part, IsSettled}
use Rattle.herm_types.specs.declared.shape.RaiseDecl.{RaiseDecl}
use Rattle.herm_types.specs.declared.shape.Shape.{Shape as Code}
use Rattle.herm_types.specs.Chosen.{lists}
use Rattle.herm_types.specs.View.{raise_decl_view, shape_view}
use Rattle.herm_graph.proofs.Reaching.{next-read}
use Rattle.herm_types.specs.Table.{says}
use Rattle.herm_graph.specs.declared.graph.Rule.{Rule}
use Rattle.herm_graph.specs.declared.graph.Rule.TheVariants.{AnyOf, AllOf}
use Rattle.herm_graph.specs.Graph.{IsReached, at_goal, through, by_all}
use Rattle.herm_graph.specs.Links.{composed_types, names_beyond, raises_beyond, has_unknown}
use Rattle.herm_graph.specs.Met.{MeetsGoal, SayCycles}
use Rattle.herm_graph.specs.Tells.{Refutes}
use Rattle.herm_graph.proofs.Telling.{refuted, says-so, must-say}

-- ---- a number that is no type's

known-below : (table : TypeTable) (t : ℕ) → t < length table → IsType table t
known-below [] t l = absurd (omega (arith, l))
known-below (s ∷ table) zero l = refl
known-below (s ∷ table) (suc t) l = known-below table t (omega (arith, l))

pub below-known : (table : TypeTable) (t : ℕ) → IsType table t → t < length table
below-known table t h = by (slice_get table t) refl h
  where
    by : (o : Option Shape) → slice_get table t ≡ o → IsTrue (is_some o) → t < length table
    by None e i = absurd (true≢false (sym i))
    by (Some s) e i = slice_get_within table t s e

any-true : (p : ℕ → Bool) (ts : List ℕ) → list_any p ts ≡ true → (t : ℕ) × IsIn t ts × (p t ≡ true)
any-true p [] e = absurd (true≢false (sym e))
any-true p (t ∷ ts) e = by (p t) refl (any-true p ts)
  where
    by : (b : Bool) → p t ≡ b → (list_any p ts ≡ true → (u : ℕ) × IsIn u ts × (p u ≡ true)) → (u : ℕ) × IsIn u (t ∷ ts) × (p u ≡ true)
    by true h again = (t, inl refl, h)
    by false h again = let r = again (subst (λ b. (b || list_any p ts) ≡ true) h e) in (r.0, inr r.1, r.2)

any-false : {X : Type 0} (p : X → Bool) (ts : List X) → list_any p ts ≡ false → (t : X) → IsIn t ts → p t ≡ false
any-false p [] e t i = absurd i
any-false p (x ∷ xs) e t (inl same) = by (p x) refl e
  where
    by : (b : Bool) → p x ≡ b → (b || list_any p xs) ≡ false → p t ≡ false
    by true h f = absurd (true≢false f)
    by false h f = ap p same ∙ h
any-false p (x ∷ xs) e t (inr i) = any-false p xs (by (p x) e) t i
  where
    by : (b : Bool) → (b || list_any p xs) ≡ false → list_any p xs ≡ false
    by true f = absurd (true≢false f)
    by false f = f

beyond-not : (table : TypeTable) (count t : ℕ) → count ≡ length table → not (nat_lt t count) ≡ true → IsType table t → ⊥
beyond-not table count t e n known = by (nat_lt t count) refl n
  where
    by : (b : Bool) → nat_lt t count ≡ b → not b ≡ true → ⊥
    by true l m = true≢false (sym m)
    by false l m = omega (arith, ltb-false t count l, below-known table t known, e)

within-is : (table : TypeTable) (count t : ℕ) → count ≡ length table → not (nat_lt t count) ≡ false → IsType table t
within-is table count t e n = by (nat_lt t count) refl n
  where
    by : (b : Bool) → nat_lt t count ≡ b → not b ≡ false → IsType table t
    by true l m = known-below table t (omega (arith, ltb-true t count l, e))
    by false l m = absurd (true≢false m)

-- ---- unknown names in shapes

pub any-raised : (exceptions : ℕ) (rs : List RaiseDecl) → list_any (λ (r : RaiseDecl). not (nat_lt r.exc.0 exceptions)) rs ≡ list_any (λ (r : Raised). not (nat_lt r.exception exceptions)) (map raise_decl_view rs)
any-raised exceptions [] = refl
any-raised exceptions (r ∷ rs) = rw (any-raised exceptions rs) refl

raised-any : (exceptions : ℕ) (rs : List Raised) → list_any (λ (r : Raised). not (nat_lt r.exception exceptions)) rs ≡ true → ((r : Raised) → IsIn r rs → r.exception < exceptions) → ⊥
raised-any exceptions [] e all = true≢false (sym e)
raised-any exceptions (r ∷ rs) e all = by (nat_lt r.exception exceptions) refl e (λ f. raised-any exceptions rs f (λ x i. all x (inr i)))
  where
    by : (b : Bool) → nat_lt r.exception exceptions ≡ b → (not b || list_any (λ (x : Raised). not (nat_lt x.exception exceptions)) rs) ≡ true → (list_any (λ (x : Raised). not (nat_lt x.exception exceptions)) rs ≡ true → ⊥) → ⊥
    by true l f again = again f
    by false l f again = omega (arith, ltb-false r.exception exceptions l, all r (inl refl))

raises-bad : (exceptions : ℕ) (s : Shape) → raises_beyond exceptions s ≡ true → RaisesKnown exceptions s → ⊥
raises-bad exceptions (callmessage ps raises) e all = raised-any exceptions raises e all
raises-bad exceptions s e all = true≢false (sym e)

raised-known : (exceptions : ℕ) (r : Raised) → not (nat_lt r.exception exceptions) ≡ false → r.exception < exceptions
raised-known exceptions r = by (nat_lt r.exception exceptions) refl
  where
    by : (b : Bool) → nat_lt r.exception exceptions ≡ b → not b ≡ false → r.exception < exceptions
    by true l f = ltb-true r.exception exceptions l
    by false l f = absurd (true≢false f)

raises-good : (exceptions : ℕ) (s : Shape) → raises_beyond exceptions s ≡ false → RaisesKnown exceptions s
raises-good exceptions boolean e = _
raises-good exceptions integer e = _
raises-good exceptions text e = _
raises-good exceptions polymorph e = _
raises-good exceptions (names count) e = _
raises-good exceptions (fields ts) e = _
raises-good exceptions (cases ts) e = _
raises-good exceptions (rows row key) e = _
raises-good exceptions (inport message declared) e = _
raises-good exceptions (outport port) e = _
raises-good exceptions (callmessage ps raises) e = λ r i. raised-known exceptions r (any-false (λ (x : Raised). not (nat_lt x.exception exceptions)) raises e r i)

module _ (table : NamedTable) (exceptions count : ℕ) (raised : length table.exceptions ≡ exceptions) (many : count ≡ length table.shapes) where
  abbrev AllKnown : Shape → Type 0
  AllKnown s = NamesTypes table.shapes s × RaisesKnown (length table.exceptions) s

  not-known : (s : Shape) → has_unknown count exceptions s ≡ true → AllKnown s → ⊥
  not-known s e known = by (or-either (names_beyond count (named_types s)) (raises_beyond exceptions s) e)
    where
      by : IsTrue (names_beyond count (named_types s)) ⊎ IsTrue (raises_beyond exceptions s) → ⊥
      by (inl n) = let r = any-true (λ t. not (nat_lt t count)) (named_types s) n in beyond-not table.shapes count r.0 many r.2 (known.0 r.0 r.1)
      by (inr r) = raises-bad exceptions s r (subst (λ n. RaisesKnown n s) raised known.1)

  all-known : (s : Shape) → has_unknown count exceptions s ≡ false → AllKnown s
  all-known s e = by (names_beyond count (named_types s)) refl e
    where
      by : (b : Bool) → names_beyond count (named_types s) ≡ b → (b || raises_beyond exceptions s) ≡ false → AllKnown s
      by true n f = absurd (true≢false f)
      by false n f = (
        λ t i. within-is table.shapes count t many (any-false (λ u. not (nat_lt u count)) (named_types s) n t i),
        subst (λ n'. RaisesKnown n' s) (sym raised) (raises-good exceptions s f),
      )

  goal-at : (goal : List Bool) → goal ≡ map (has_unknown count exceptions) table.shapes → (t : ℕ) (s : Shape) → HasShape table.shapes t s → says goal t ≡ has_unknown count exceptions s
  goal-at goal e t s h = ap (λ xs. says xs t) e ∙ (ap (map_or false (λ b. b)) (slice_get-map (has_unknown count exceptions) table.shapes t ∙ ap (option_map (has_unknown count exceptions)) h))

  goal-shape : (goal : List Bool) → goal ≡ map (has_unknown count exceptions) table.shapes → (t : ℕ) → IsTrue (says goal t) → (s : Shape) × HasShape table.shapes t s
  goal-shape goal e t g = by (slice_get table.shapes t) refl (sym (ap (λ xs. says xs t) e ∙ ap (map_or false (λ b. b)) (slice_get-map (has_unknown count exceptions) table.shapes t)) ∙ g)
    where
      by : (o : Option Shape) → slice_get table.shapes t ≡ o → map_or false (λ b. b) (option_map (has_unknown count exceptions) o) ≡ true → (s : Shape) × HasShape table.shapes t s
      by None h f = absurd (true≢false (sym f))
      by (Some s) h f = (s, h)

  pub unknown-met : (goal tests : List Bool) → goal ≡ map (has_unknown count exceptions) table.shapes → ((t : ℕ) → IsTrue (says tests t) ↔ MeetsGoal table.shapes goal t) → (t : ℕ) → Refutes (says tests t) (MeetsNoUnknown table t)
  unknown-met goal tests e met t = refuted (says tests t) (met t).0 none no
    where
      no : MeetsGoal table.shapes goal t → MeetsNoUnknown table t → ⊥
      no m all =
          let s = goal-shape goal e m.0 m.2 in
          not-known s.0 (sym (goal-at goal e m.0 s.0 s.1) ∙ m.2) (all m.0 s.0 m.1 s.1)

      none : says tests t ≡ false → MeetsNoUnknown table t
      none f u s m h = all-known s (by (has_unknown count exceptions s) refl)
        where
          by : (b : Bool) → has_unknown count exceptions s ≡ b → b ≡ false
          by true k = absurd (true≢false (sym ((met t).1 (u, m, goal-at goal e u s h ∙ k)) ∙ f))
          by false k = refl

pub cycle-met : (table : NamedTable) (cycles tests : List Bool) → SayCycles table.shapes cycles → ((t : ℕ) → IsTrue (says tests t) ↔ MeetsGoal table.shapes cycles t) → (t : ℕ) → Refutes (says tests t) (MeetsNoCycle table t)
cycle-met table cycles tests said met t = refuted (says tests t) (met t).0 none no
  where
    no : MeetsGoal table.shapes cycles t → MeetsNoCycle table t → ⊥
    no m all = all m.0 m.1 (says-so (says cycles m.0) (said m.0) m.2)

    none : says tests t ≡ false → MeetsNoCycle table t
    none f u m c = true≢false (sym ((met t).1 (u, m, must-say (says cycles u) (said u) c)) ∙ f)

-- ---- copies that depend on unknown types

module _ (table : NamedTable) (composed : List (List ℕ)) (same : composed ≡ map composed_types table.shapes) (count : ℕ) (many : count ≡ length table.shapes) (unknown : List Bool) (each : unknown ≡ map (names_beyond count) composed) where
  next-of : (t : ℕ) (s : Shape) → HasShape table.shapes t s → slice_get composed t ≡ Some (composed_types s)
  next-of t s h = ap (λ xs. slice_get xs t) same ∙ (slice_get-map composed_types table.shapes t ∙ ap (option_map composed_types) h)

  goal-is : (t : ℕ) (ns : List ℕ) → slice_get composed t ≡ Some ns → says unknown t ≡ names_beyond count ns
  goal-is t ns e = ap (λ xs. says xs t) each ∙ ap (map_or false (λ b. b)) (slice_get-map (names_beyond count) composed t ∙ ap (option_map (names_beyond count)) e)

  part-in : (s : Shape) (v : ℕ) → is_composed s ≡ true → IsIn v (named_types s) → IsIn v (composed_types s)
  part-in s v c i = subst (λ b. IsIn v (cond b (named_types s) [])) (sym c) i

  in-part : (s : Shape) (v : ℕ) → IsIn v (composed_types s) → (is_composed s ≡ true) × IsIn v (named_types s)
  in-part s v i = by (is_composed s) i
    where
      by : (b : Bool) → IsIn v (cond b (named_types s) []) → (b ≡ true) × IsIn v (named_types s)
      by true j = (refl, j)
      by false j = absurd j

  -- the next one of a type comes by a part
  shape-of : (t : ℕ) (ns : List ℕ) → slice_get composed t ≡ Some ns → (s : Shape) × HasShape table.shapes t s × (composed_types s ≡ ns)
  shape-of t ns e = by (slice_get table.shapes t) refl (sym (slice_get-map composed_types table.shapes t) ∙ (sym (ap (λ xs. slice_get xs t) same) ∙ e))
    where
      by : (o : Option Shape) → slice_get table.shapes t ≡ o → option_map composed_types o ≡ Some ns → (s : Shape) × HasShape table.shapes t s × (composed_types s ≡ ns)
      by None h f = absurd cc
      by (Some s) h f = (s, h, cc)

  by-next : (t v u : ℕ) (ns : List ℕ) → slice_get composed t ≡ Some ns → IsIn v ns → DependsOn table v u → DependsOn table t u
  by-next t v u ns e i d =
      let s = shape-of t ns e in
      let p = in-part s.0 v (subst (λ xs. IsIn v xs) (sym s.2) i) in
      by_part t v u s.0 s.1 p.0 p.1 d

  abbrev Lost : ℕ → Type 0
  Lost t = (u : ℕ) × DependsOn table t u × (IsType table.shapes u → ⊥)

  lost-goal : (t : ℕ) → IsTrue (says unknown t) → Lost t
  lost-goal t g = by (slice_get composed t) refl (sym (ap (λ xs. says xs t) each ∙ ap (map_or false (λ b. b)) (slice_get-map (names_beyond count) composed t)) ∙ g)
    where
      by : (o : Option (List ℕ)) → slice_get composed t ≡ o → map_or false (λ b. b) (option_map (names_beyond count) o) ≡ true → Lost t
      by None e f = absurd (true≢false (sym f))
      by (Some ns) e f =
          let r = any-true (λ u. not (nat_lt u count)) ns f in
          (r.0, by-next t r.0 r.0 ns e r.1 (itself r.0), λ k. beyond-not table.shapes count r.0 many r.2 k)

  lost-reached : (r : Rule) → r ≡ AnyOf → (t : ℕ) → IsReached r unknown composed t → Lost t
  lost-reached r any t (at_goal t' v ns e n i g) = let l = lost-goal v g in (l.0, by-next t v l.0 ns n i l.1, l.2)
  lost-reached r any t (through t' v ns e n i h) = let l = lost-reached r any v h in (l.0, by-next t v l.0 ns n i l.1, l.2)
  lost-reached r any t (by_all t' ns e n g all) = absurd (different (sym e ∙ any))
    where
      different : AllOf ≡ AnyOf → ⊥
      different h = absurd cc

  module _ (below tests : List Bool) (reached : (t : ℕ) → IsTrue (says below t) ↔ IsReached AnyOf unknown composed t) (said : (t : ℕ) → t < length unknown → says tests t ≡ (says unknown t || says below t)) where
    there : (t : ℕ) → IsType table.shapes t → t < length unknown
    there t k = omega (arith, below-known table.shapes t k, ap length each, ap length same, length-map (names_beyond count) composed, length-map composed_types table.shapes)

    lost-said : (t : ℕ) → IsType table.shapes t → IsTrue (says tests t) → Lost t
    lost-said t k h = by (or-either (says unknown t) (says below t) (sym (said t (there t k)) ∙ h))
      where
        by : IsTrue (says unknown t) ⊎ IsTrue (says below t) → Lost t
        by (inl g) = lost-goal t g
        by (inr b) = lost-reached AnyOf refl t ((reached t).0 b)

    not-said : (t : ℕ) → IsType table.shapes t → says tests t ≡ false → (says unknown t ≡ false) × (says below t ≡ false)
    not-said t k f = by (says unknown t) (says below t) (sym (said t (there t k)) ∙ f)
      where
        by : (a b : Bool) → (a || b) ≡ false → (a ≡ false) × (b ≡ false)
        by true b e = absurd (true≢false e)
        by false b e = (refl, e)

    kept : (t u : ℕ) → DependsOn table t u → IsType table.shapes t → says tests t ≡ false → IsType table.shapes u
    kept t u (itself t') k f = k
    kept t u (by_part t' v u' s h c i d) k f =
        let none = not-said t k f in
        let v-in = part-in s v c i in
        let v-known = within-is table.shapes count v many (any-false (λ w. not (nat_lt w count)) (composed_types s) (sym (goal-is t (composed_types s) (next-of t s h)) ∙ none.0) v v-in) in
        kept v u d v-known (by (says tests v) refl v-known (next-of t s h) v-in none.1)
      where
        by : (b : Bool) → says tests v ≡ b → IsType table.shapes v → slice_get composed t ≡ Some (composed_types s) → IsIn v (composed_types s) → says below t ≡ false → b ≡ false
        by false e v-known n v-in none = refl
        by true e v-known n v-in none = absurd (true≢false (sym ((reached t).1 (reach (or-either (says unknown v) (says below v) (sym (said v (there v v-known)) ∙ e)))) ∙ none))
          where
            reach : IsTrue (says unknown v) ⊎ IsTrue (says below v) → IsReached AnyOf unknown composed t
            reach (inl g) = at_goal t v (composed_types s) refl n v-in g
            reach (inr b) = through t v (composed_types s) refl n v-in ((reached v).0 b)

    pub settled-exact : (t : ℕ) → IsType table.shapes t → Refutes (says tests t) (IsSettled table t)
    settled-exact t k = refuted (says tests t) (lost-said t k) (λ f u d. kept t u d k f) (λ l all. l.2 (all l.0 l.1))

-- the types that the shape at a place names
pub named-at : (shapes : List Code) (next : List (Vec ℕ Global)) → lists next ≡ map named_types (map shape_view shapes) → (t : ℕ) (v : Vec ℕ Global) (s : Code) → t < length shapes → v ≡ get_or next t v → s ≡ get_or shapes t s → v.items ≡ named_types (shape_view s)
named-at shapes next named t v s l e f = some-inj (
    sym (next-read next t v (omega (arith, l, ap length named, length-map named_types (map shape_view shapes), length-map shape_view shapes, length-map (λ (w : Vec ℕ Global). w.items) next)) e)
    ∙ (ap (λ xs. slice_get xs t) named
    ∙ (slice_get-map named_types (map shape_view shapes) t
    ∙ ap (option_map named_types) (slice_get-map shape_view shapes t ∙ ap (option_map shape_view) (slice_get_read shapes (length shapes) t s refl l f)))))
  where
    some-inj : {a b : List ℕ} → Some a ≡ Some b → a ≡ b
    some-inj h = cc
