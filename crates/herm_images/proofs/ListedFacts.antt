-- What is held of variables lists exactly the facts of a closed set.
use Rattle.std.proofs.Common.{◌≡◌, ℕ, zero, suc, ◌<◌, length, List, [], ◌∷◌, ◌++◌, map, flat_map, Bool, true, false, cond, ◌||◌, IsTrue, Option, Some, None, is_some, slice_get, ◌⊎◌, inl, inr, refl, sym, ap, subst, ◌∙◌, append_assoc, append-nil, true≢false, arith}
use Rattle.std.proofs.Math.Bool.{or-false, or_assoc}
use Rattle.herm_model.specs.Lists.{IsIn, map_or, list_of, numbered, all_pass}
use Rattle.herm_model.specs.Paths.{Path, Fact, init, case, path_of}
use Rattle.herm_model.specs.Types.{Parameter, Shape, fields, cases, callmessage, TypeTable, named_types, is_within_depth, greatest_depth, part_type, part_of, type_below, type_at, is_cases, is_variant, enters_component, held_parts}
use Rattle.herm_model.specs.Facts.{facts_from, facts_to, component_count, IsClosed, IsFactOf}
use Rattle.herm_model.proofs.Lists.{in-append_left, in-append_right, in-append_cases, in-flat_map, in-flat_map_from, every-in, slice_get-map}
use Rattle.herm_model.proofs.Options.{some-injective, none-not_some}
use Rattle.herm_model.proofs.FactTests.{at-numbered, got-IsIn}
use Rattle.herm_model.proofs.TypesBelow.{known-above}
use Rattle.herm_model.proofs.TypedPaths.{some-of, is-some, to-facts}
use Rattle.herm_model.proofs.Prefixes.{own}
use Rattle.herm_fronts.specs.Held.{component_parts, held_from, held_inside, held_facts}
use Rattle.herm_good_images.proofs.facts.DroppedFacts.{plain-from, closed-above}
use Rattle.herm_images.specs.laws.AcceptedPrograms.{HeldFactsAreListed}

or-one : (w : Bool) → (w || true) ≡ true
or-one true = refl
or-one false = refl

-- A part of a shape is one that holds facts of its own, or a component.
part-kind : (o : Option Shape) (i u : ℕ) → map_or None (λ s. part_type s i) o ≡ Some u
    → (IsIn (i, u) (list_of held_parts o) × (map_or false (λ s. is_cases s) o ≡ false)) ⊎ (IsIn (i, u) (list_of component_parts o) × (map_or false (λ s. is_cases s) o ≡ true))
part-kind (Some (fields ts)) i u e = inl (at-numbered ts i u e, refl)
part-kind (Some (callmessage ps raises)) i u e = inl (at-numbered (map (λ p. p.content) ps) i u (slice_get-map (λ (p : Parameter). p.content) ps i ∙ e), refl)
part-kind (Some (cases ts)) i u e = inr (at-numbered ts i u e, refl)
part-kind o i u e = none-not_some e

-- a part's type is named
part-named : (test : ℕ → Bool) (o : Option Shape) (i u : ℕ) → IsTrue (map_or false (λ s. all_pass test (named_types s)) o) → map_or None (λ s. part_type s i) o ≡ Some u → IsTrue (test u)
part-named test (Some (fields ts)) i u deep e = every-in test u ts deep (got-IsIn ts i u e)
part-named test (Some (cases ts)) i u deep e = every-in test u ts deep (got-IsIn ts i u e)
part-named test (Some (callmessage ps raises)) i u deep e = every-in test u (map (λ p. p.content) ps) deep (got-IsIn (map (λ p. p.content) ps) i u (slice_get-map (λ (p : Parameter). p.content) ps i ∙ e))
part-named test o i u deep e = none-not_some e

-- a component of a shape
component-of : (o : Option Shape) (c : ℕ) → c < map_or 0 component_count o → (u : ℕ) × IsIn (c, u) (list_of component_parts o)
component-of (Some (cases ts)) c l = let r = some-there ts c l in (r.0, at-numbered ts c r.0 r.1)
  where
    some-there : (ts : List ℕ) (c : ℕ) → c < length ts → (u : ℕ) × (slice_get ts c ≡ Some u)
    some-there [] c l = absurd (omega (arith, l))
    some-there (t ∷ ts) zero l = (t, refl)
    some-there (t ∷ ts) (suc c) l = some-there ts c (omega (arith, l))
component-of o c l = absurd (omega (arith, l))

module _ (table : TypeTable) (has : Fact → Bool) where
  abbrev Listed : ℕ → Type 0
  Listed n = (w : Bool) (t : ℕ) (at : Path) (f : Fact) → IsIn f (held_from table has n w t at) → has f ≡ true

  abbrev held_part : ℕ → Bool → Path → ℕ × ℕ → List Fact
  held_part n w at part = held_from table has n w part.1 (at ++ part.0 ∷ [])

  abbrev held_component : ℕ → Path → ℕ × ℕ → List Fact
  held_component n at part = cond (has (case at part.0)) (case at part.0 ∷ held_from table has n true part.1 (at ++ part.0 ∷ [])) []

  abbrev parts : ℕ → List (ℕ × ℕ)
  parts t = list_of held_parts (slice_get table t)

  abbrev components : ℕ → List (ℕ × ℕ)
  components t = list_of component_parts (slice_get table t)

  component-held : (n : ℕ) → Listed n → (at : Path) (part : ℕ × ℕ) (f : Fact) (b : Bool) → has (case at part.0) ≡ b → IsIn f (cond b (case at part.0 ∷ held_from table has n true part.1 (at ++ part.0 ∷ [])) []) → has f ≡ true
  component-held n again at part f true e (inl x) = ap has x ∙ e
  component-held n again at part f true e (inr m) = again true part.1 (at ++ part.0 ∷ []) f m
  component-held n again at part f false e m = absurd m

  inside-held : (n : ℕ) → Listed n → (w : Bool) (t : ℕ) (at : Path) (f : Fact) → IsIn f (held_inside table has n w t at) → has f ≡ true
  inside-held n again w t at f m = by (in-append_cases f (flat_map (held_part n w at) (parts t)) (flat_map (held_component n at) (components t)) m)
    where
      by : IsIn f (flat_map (held_part n w at) (parts t)) ⊎ IsIn f (flat_map (held_component n at) (components t)) → has f ≡ true
      by (inl a) = let r = in-flat_map_from (held_part n w at) f (parts t) a in again w r.0.1 (at ++ r.0.0 ∷ []) f r.2
      by (inr b) = let r = in-flat_map_from (held_component n at) f (components t) b in component-held n again at r.0 f (has (case at r.0.0)) refl r.2

  here-held : (n : ℕ) → Listed n → (w : Bool) (t : ℕ) (at : Path) (f : Fact) (b : Bool) → has (init at) ≡ b → IsIn f (cond (w || b) (cond w [] (init at ∷ []) ++ held_inside table has n w t at) []) → has f ≡ true
  here-held n again true t at f b e m = inside-held n again true t at f m
  here-held n again false t at f true e (inl x) = ap has x ∙ e
  here-held n again false t at f true e (inr m) = inside-held n again false t at f m
  here-held n again false t at f false e m = absurd m

  -- what is listed is held
  listed-held : (n : ℕ) → Listed n
  listed-held zero w t at f m = absurd m
  listed-held (suc n) w t at f m = here-held n (listed-held n) w t at f (has (init at)) refl m

  -- there is a value at a path, or it stands within a component
  abbrev IsOpen : Bool → Path → Type 0
  IsOpen w at = w ≡ false → has (init at) ≡ true

  through : (n : ℕ) (w : Bool) (t : ℕ) (at : Path) (f : Fact) → IsOpen w at → IsIn f (held_inside table has n w t at) → IsIn f (held_from table has (suc n) w t at)
  through n true t at f entered m = m
  through n false t at f entered m = subst (λ b. IsIn f (cond (false || b) (init at ∷ [] ++ held_inside table has n false t at) [])) (sym (entered refl)) (inr m)

  here-listed : (n : ℕ) (w : Bool) (t : ℕ) (at : Path) → w ≡ false → has (init at) ≡ true → IsIn (init at) (held_from table has (suc n) w t at)
  here-listed n true t at e h = absurd (true≢false e)
  here-listed n false t at e h = subst (λ b. IsIn (init at) (cond (false || b) (init at ∷ [] ++ held_inside table has n false t at) [])) (sym h) (inl refl)

  component-listed : (n : ℕ) (w : Bool) (t : ℕ) (at : Path) (c u : ℕ) (f : Fact) → IsIn (c, u) (components t) → has (case at c) ≡ true → (f ≡ case at c) ⊎ IsIn f (held_from table has n true u (at ++ c ∷ [])) → IsIn f (held_inside table has n w t at)
  component-listed n w t at c u f m h k =
      in-append_right f (flat_map (held_part n w at) (parts t)) (flat_map (held_component n at) (components t))
      (in-flat_map (held_component n at) (c, u) f (components t) m
      (subst (λ b. IsIn f (cond b (case at c ∷ held_from table has n true u (at ++ c ∷ [])) [])) (sym h) k))

  -- What is listed where steps from a type end is listed of the type, where the facts on the way are held.
  abbrev EndsListed : Bool → Path → ℕ → Fact → Type 0
  EndsListed w at u f = (m : ℕ) (x : Bool) (p : Path) → x ≡ w → p ≡ at → IsTrue (is_within_depth m table u) → IsOpen x p → IsIn f (held_from table has m x u p)

  own-is_open : (w : Bool) (at : Path) (more : List Fact) → ((g : Fact) → IsIn g (own table at w ++ more) → has g ≡ true) → IsOpen w at
  own-is_open true at more held e = absurd (true≢false e)
  own-is_open false at more held e = held (init at) (inl refl)

  abbrev HeldAlong : Path → Option ℕ → Bool → List ℕ → Type 0
  HeldAlong at t w q = (g : Fact) → IsIn g (facts_from table at t w q) → has g ≡ true

  component-own : (b : Bool) (at : Path) (i : ℕ) → b ≡ true → IsIn (case at i) (cond b (case at i ∷ []) [])
  component-own true at i e = inl refl
  component-own false at i e = absurd (true≢false (sym e))

  -- the facts on the way behind a step
  onward : (w : Bool) (t : ℕ) (at : Path) (i : ℕ) (q : List ℕ) (v : ℕ) → part_of table (Some t) i ≡ Some v → HeldAlong at (Some t) w (i ∷ q) → HeldAlong (at ++ i ∷ []) (Some v) (w || is_variant table (Some t)) q
  onward w t at i q v known held g m =
      let kind = is_variant table (Some t) in
      let behind = facts_from table (at ++ i ∷ []) (part_of table (Some t) i) (w || kind) q in
      held g (in-append_right g (own table at w) (cond kind (case at i ∷ []) [] ++ behind)
      (in-append_right g (cond kind (case at i ∷ []) []) behind
      (subst (λ o. IsIn g (facts_from table (at ++ i ∷ []) o (w || kind) q)) (sym known) m)))

  -- what is listed of a part is listed of the whole
  of-part : (n : ℕ) (w : Bool) (t : ℕ) (at : Path) (i : ℕ) (q : List ℕ) (v : ℕ) (f : Fact) → part_of table (Some t) i ≡ Some v → HeldAlong at (Some t) w (i ∷ q)
      → IsIn f (held_from table has n (w || is_variant table (Some t)) v (at ++ i ∷ [])) → IsIn f (held_from table has (suc n) w t at)
  of-part n w t at i q v f known held m = by (part-kind (slice_get table t) i v known)
    where
      kind : Bool
      kind = is_variant table (Some t)

      entered : IsOpen w at
      entered = own-is_open w at _ held

      by : (IsIn (i, v) (parts t) × (kind ≡ false)) ⊎ (IsIn (i, v) (components t) × (kind ≡ true)) → IsIn f (held_from table has (suc n) w t at)
      by (inl k) =
          through n w t at f entered
          (in-append_left f (flat_map (held_part n w at) (parts t)) (flat_map (held_component n at) (components t))
          (in-flat_map (held_part n w at) (i, v) f (parts t) k.0
          (subst (λ b. IsIn f (held_from table has n b v (at ++ i ∷ []))) (ap (λ b. w || b) k.1 ∙ or-false w) m)))
      by (inr k) =
          through n w t at f entered
          (component-listed n w t at i v f k.0
          (held (case at i) (in-append_right (case at i) (own table at w) _ (in-append_left (case at i) (cond kind (case at i ∷ []) []) _ (component-own kind at i k.1))))
          (inr (subst (λ b. IsIn f (held_from table has n b v (at ++ i ∷ []))) (ap (λ b. w || b) k.1 ∙ or-one w) m)))

  down : (n : ℕ) (w : Bool) (t : ℕ) (at q : List ℕ) (u : ℕ) (f : Fact) → IsTrue (is_within_depth n table t) → type_below table (Some t) q ≡ Some u → HeldAlong at (Some t) w q
      → EndsListed (w || enters_component table (Some t) q) (at ++ q) u f → IsIn f (held_from table has n w t at)
  down n w t at [] u f deep e held ends =
      let same : t ≡ u = some-injective e in
      subst (λ (v : ℕ). IsIn f (held_from table has n w v at)) (sym same)
      (ends n w at (sym (or-false w)) (sym (append-nil at)) (subst (λ (v : ℕ). IsTrue (is_within_depth n table v)) same deep)
      (own-is_open w at [] (λ g m. held g (subst (λ xs. IsIn g xs) (append-nil (own table at w)) m))))
  down zero w t at (i ∷ q) u f deep e held ends = absurd (true≢false (sym deep))
  down (suc n) w t at (i ∷ q) u f deep e held ends =
      let v = some-of (part_of table (Some t) i) (known-above table (part_of table (Some t) i) q (is-some (type_below table (part_of table (Some t) i) q) e)) in
      let kind = is_variant table (Some t) in
      of-part n w t at i q v.0 f v.1 held
      (down n (w || kind) v.0 (at ++ i ∷ []) q u f (part-named (is_within_depth n table) (slice_get table t) i v.0 deep v.1) (subst (λ o. type_below table o q ≡ Some u) v.1 e) (onward w t at i q v.0 v.1 held)
      (λ m x p ex ep. ends m x p (ex ∙ (or_assoc w kind (enters_component table (Some v.0) q) ∙ ap (λ o. w || (kind || enters_component table o q)) (sym v.1))) (ep ∙ append_assoc at (i ∷ []) q)))

  init-ends : (at : Path) (u : ℕ) → has (init at) ≡ true → EndsListed false at u (init at)
  init-ends at u h zero x p ex ep deep entered = absurd (true≢false (sym deep))
  init-ends at u h (suc m) x p ex ep deep entered = subst (λ (y : Path). IsIn (init y) (held_from table has (suc m) x u p)) ep (here-listed m x u p ex (entered ex))

  case-ends : (w : Bool) (at : Path) (u c : ℕ) → c < map_or 0 component_count (slice_get table u) → has (case at c) ≡ true → EndsListed w at u (case at c)
  case-ends w at u c l h zero x p ex ep deep entered = absurd (true≢false (sym deep))
  case-ends w at u c l h (suc m) x p ex ep deep entered =
      let r = component-of (slice_get table u) c l in
      through m x u p (case at c) entered
      (component-listed m x u p c r.0 (case at c) r.1 (ap (λ (y : Path). has (case y c)) ep ∙ h) (inl (ap (λ (y : Path). case y c) (sym ep))))

  module _ (variables : List ℕ) (closed : IsClosed table variables (λ f. IsTrue (has f))) (there : (f : Fact) → IsTrue (has f) → IsFactOf table variables f) where
    -- a closed set has all facts to the path of each of its facts
    path-held : (f g : Fact) → has f ≡ true → IsIn g (facts_to table variables (path_of f)) → has g ≡ true
    path-held (case p c) g h m = closed (case p c) g h m
    path-held (init []) g h m = absurd m
    path-held (init (v ∷ p)) g h m =
        let known = there (init (v ∷ p)) h in
        let r = plain-from table variables (v ∷ []) p (slice_get variables v) known.1 g m in
        let own_known = to-facts table variables (v ∷ p) g known.0 m in
        subst (λ (x : Fact). has x ≡ true) (sym r.2)
        (closed-above table variables (λ f. has f ≡ true) closed (v ∷ r.0) (init (v ∷ p)) (subst (IsFactOf table variables) r.2 own_known) (r.1, ap (v ∷◌) r.3) h)

    typed-of : (f : Fact) → IsFactOf table variables f → IsTrue (is_some (type_at table variables (path_of f)))
    typed-of (init p) known = known.0
    typed-of (case p c) known = by (type_at table variables p) known
      where
        by : (o : Option ℕ) → c < map_or 0 (λ t. map_or 0 component_count (slice_get table t)) o → IsTrue (is_some o)
        by None l = let z : ⊥ = omega (arith, l) in absurd z
        by (Some t) l = refl

    -- a fact ends the steps to its path
    ends-listed : (f : Fact) (v : ℕ) (p : List ℕ) (t u : ℕ) → path_of f ≡ v ∷ p → slice_get variables v ≡ Some t → type_below table (Some t) p ≡ Some u → has f ≡ true → EndsListed (enters_component table (Some t) p) (v ∷ p) u f
    ends-listed (init q) v p t u e at end h =
        let known = subst (λ (x : Path). IsFactOf table variables (init x)) e (there (init q) h) in
        subst (λ (y : Path). EndsListed (enters_component table (Some t) p) (v ∷ p) u (init y)) (sym e)
        (subst (λ b. EndsListed b (v ∷ p) u (init (v ∷ p))) (sym (ap (λ o. enters_component table o p) (sym at) ∙ known.1)) (init-ends (v ∷ p) u (subst (λ (x : Path). has (init x) ≡ true) e h)))
    ends-listed (case q c) v p t u e at end h =
        let known = subst (λ (x : Path). IsFactOf table variables (case x c)) e (there (case q c) h) in
        subst (λ (y : Path). EndsListed (enters_component table (Some t) p) (v ∷ p) u (case y c)) (sym e)
        (case-ends (enters_component table (Some t) p) (v ∷ p) u c (subst (λ o. c < map_or 0 (λ t. map_or 0 component_count (slice_get table t)) o) (ap (λ o. type_below table o p) at ∙ end) known) (subst (λ (x : Path). has (case x c) ≡ true) e h))

    held-of : ((t : ℕ) → IsIn t variables → IsTrue (is_within_depth greatest_depth table t)) → (f : Fact) (q : Path) → path_of f ≡ q → has f ≡ true → IsIn f (held_facts table has variables)
    held-of deep f [] e h = absurd (true≢false (sym (subst (λ (x : Path). IsTrue (is_some (type_at table variables x))) e (typed-of f (there f h)))))
    held-of deep f (v ∷ p) e h =
        let typed = subst (λ (x : Path). IsTrue (is_some (type_at table variables x))) e (typed-of f (there f h)) in
        let t = some-of (slice_get variables v) (known-above table (slice_get variables v) p typed) in
        let u = some-of (type_below table (Some t.0) p) (subst (λ o. IsTrue (is_some (type_below table o p))) t.1 typed) in
        in-flat_map (λ (v : ℕ × ℕ). held_from table has greatest_depth false v.1 (v.0 ∷ [])) (v, t.0) f (numbered 0 variables) (at-numbered variables v t.0 t.1)
        (down greatest_depth false t.0 (v ∷ []) p u.0 f (deep t.0 (got-IsIn variables v t.0 t.1)) u.1
        (λ g m. path-held f g h (subst (λ (x : Path). IsIn g (facts_to table variables x)) (sym e) (subst (λ o. IsIn g (facts_from table (v ∷ []) o false p)) (sym t.1) m)))
        (ends-listed f v p t.0 u.0 e t.1 u.1 h))

pub held-listed : HeldFactsAreListed
held-listed table variables has closed there deep f = (
  λ m. (let r = in-flat_map_from (λ (v : ℕ × ℕ). held_from table has greatest_depth false v.1 (v.0 ∷ [])) f (numbered 0 variables) m in listed-held table has greatest_depth false r.0.1 (r.0.0 ∷ []) f r.2),
  λ h. held-of table has variables closed there deep f (path_of f) refl h,
)
