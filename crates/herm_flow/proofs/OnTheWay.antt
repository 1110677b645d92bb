-- Which paths make a fact: those that the fact's own path begins, or that begin it.
use Rattle.std.proofs.Common.{◌≡◌, ℕ, List, [], ◌∷◌, ◌++◌, Bool, true, false, cond, ◌||◌, ◌⊎◌, inl, inr, Option, Some, None, slice_get, refl, sym, ap, ap₂, subst, ◌∙◌, append_assoc, append-nil}
use Rattle.herm_model.specs.Lists.{IsIn, list_of}
use Rattle.herm_model.specs.Paths.{Path, Fact, init, case, path_of, parent}
use Rattle.herm_model.specs.Types.{TypeTable, part_of, is_variant, type_at, passes_component, full_parts, part_paths}
use Rattle.herm_model.specs.Facts.{facts_from, facts_to, prefixes, with_prefixes, full_facts}
use Rattle.herm_model.specs.FactsOfStatements.{full}
use Rattle.herm_model.proofs.Beginnings.{Begins}
use Rattle.herm_model.proofs.Lists.{cons-head, cons-tail, cons-not_nil, in-append_left, in-append_right, in-append_cases, in-map_from}
use Rattle.herm_model.proofs.Prefixes.{own, component, from-longer, to-closed, before-path}

-- ---- beginnings

-- of two beginnings of a path one begins the other
pub compared : (a b c : List ℕ) → Begins a c → Begins b c → Begins a b ⊎ Begins b a
compared [] b c h k = inl (b, refl)
compared (i ∷ a) [] c h k = inr (i ∷ a, refl)
compared (i ∷ a) (j ∷ b) [] h k = cons-not_nil i (a ++ h.0) (sym h.1)
compared (i ∷ a) (j ∷ b) (l ∷ c) h k = by (compared a b c (h.0, cons-tail h.1) (k.0, cons-tail k.1))
  where
    same : i ≡ j
    same = sym (cons-head h.1) ∙ cons-head k.1

    by : Begins a b ⊎ Begins b a → Begins (i ∷ a) (j ∷ b) ⊎ Begins (j ∷ b) (i ∷ a)
    by (inl x) = inl (x.0, ap₂ ◌∷◌ (sym same) x.1)
    by (inr x) = inr (x.0, ap₂ ◌∷◌ same x.1)

pub begins-trans : (a b c : List ℕ) → Begins a b → Begins b c → Begins a c
begins-trans a b c h k = (h.0 ++ k.0, k.1 ∙ (ap (λ x. x ++ k.0) h.1 ∙ append_assoc a h.0 k.0))

pub begins-self : (a : List ℕ) → Begins a a
begins-self a = ([], sym (append-nil a))

-- ---- facts on the way

-- the path down to a fact, with its component
abbrev pub way_of : Fact → Path
way_of (init q) = q
way_of (case q c) = q ++ c ∷ []

-- The fact's own path begins the path, and the fact is on the way to each path that this one begins.
abbrev IsOnWay : TypeTable → Path → Option ℕ → Bool → List ℕ → Fact → Type 0
IsOnWay table at t w p f = (q : List ℕ) × Begins q p × (way_of f ≡ at ++ q) × ((r : List ℕ) → IsIn f (facts_from table at t w (q ++ r)))

module _ (table : TypeTable) where
  own-way : (at : Path) (t : Option ℕ) (w : Bool) (p : List ℕ) (f : Fact) → IsIn f (own table at w) → IsOnWay table at t w p f
  own-way at t true p f h = absurd h
  own-way at t false p f (inl e) = ([], (p, refl), ap way_of e ∙ sym (append-nil at), λ r. from-longer table at t false [] r f (inl e))
  own-way at t false p f (inr h) = absurd h

  component-is : (b : Bool) (at : Path) (i : ℕ) (f : Fact) → IsIn f (cond b (case at i ∷ []) []) → way_of f ≡ at ++ i ∷ []
  component-is true at i f (inl e) = ap way_of e
  component-is true at i f (inr h) = absurd h
  component-is false at i f h = absurd h

  pub on-way : (at : Path) (t : Option ℕ) (w : Bool) (p : List ℕ) (f : Fact) → IsIn f (facts_from table at t w p) → IsOnWay table at t w p f
  on-way at t w [] f h = own-way at t w [] f h
  on-way at t w (i ∷ p) f h = by (on-way (at ++ i ∷ []) (part_of table t i) (w || is_variant table t) p f) (in-append_cases f (own table at w) (component table at t i ++ facts_from table (at ++ i ∷ []) (part_of table t i) (w || is_variant table t) p) h)
    where
      Again : Type 0
      Again = IsIn f (facts_from table (at ++ i ∷ []) (part_of table t i) (w || is_variant table t) p) → IsOnWay table (at ++ i ∷ []) (part_of table t i) (w || is_variant table t) p f

      behind : (r : List ℕ) → IsIn f (component table at t i ++ facts_from table (at ++ i ∷ []) (part_of table t i) (w || is_variant table t) r) → IsIn f (facts_from table at t w (i ∷ r))
      behind r m = in-append_right f (own table at w) (component table at t i ++ facts_from table (at ++ i ∷ []) (part_of table t i) (w || is_variant table t) r) m

      here : IsIn f (component table at t i) → IsOnWay table at t w (i ∷ p) f
      here c = (i ∷ [], (p, refl), component-is (is_variant table t) at i f c, λ r. behind r (in-append_left f (component table at t i) (facts_from table (at ++ i ∷ []) (part_of table t i) (w || is_variant table t) r) c))

      later : IsOnWay table (at ++ i ∷ []) (part_of table t i) (w || is_variant table t) p f → IsOnWay table at t w (i ∷ p) f
      later s = (i ∷ s.0, (s.1.0, ap (i ∷◌) s.1.1), s.2 ∙ append_assoc at (i ∷ []) s.0, λ r. behind (s.0 ++ r) (in-append_right f (component table at t i) (facts_from table (at ++ i ∷ []) (part_of table t i) (w || is_variant table t) (s.0 ++ r)) (s.3 r)))

      mid : Again → IsIn f (component table at t i) ⊎ IsIn f (facts_from table (at ++ i ∷ []) (part_of table t i) (w || is_variant table t) p) → IsOnWay table at t w (i ∷ p) f
      mid again (inl c) = here c
      mid again (inr d) = later (again d)

      by : Again → IsIn f (own table at w) ⊎ IsIn f (component table at t i ++ facts_from table (at ++ i ∷ []) (part_of table t i) (w || is_variant table t) p) → IsOnWay table at t w (i ∷ p) f
      by again (inl a) = own-way at t w (i ∷ p) f a
      by again (inr b) = mid again (in-append_cases f (component table at t i) (facts_from table (at ++ i ∷ []) (part_of table t i) (w || is_variant table t) p) b)

module _ (table : TypeTable) (variables : List ℕ) where
  -- The fact's own path begins the path, and with it each path to which the fact is on the way.
  pub on-way-to : (p : Path) (f : Fact) → IsIn f (facts_to table variables p) → (v : ℕ) × (q : List ℕ) × (way_of f ≡ v ∷ q) × Begins (v ∷ q) p × ((r : List ℕ) → IsIn f (facts_to table variables ((v ∷ q) ++ r)))
  on-way-to [] f h = absurd h
  on-way-to (v ∷ p) f h = let s = on-way table (v ∷ []) (slice_get variables v) false p f h in (v, s.0, s.2, (s.1.0, ap (v ∷◌) s.1.1), s.3)

  -- ---- what a path makes

  -- the path makes the fact
  abbrev pub Makes : Path → Fact → Type 0
  Makes p f = (g : Fact) × IsIn g (full table variables p) × IsIn f (with_prefixes table variables g)

  pub to-makes : (p : Path) (f : Fact) → IsIn f (facts_to table variables p) → Makes p f
  to-makes p f h = (f, in-append_left f (facts_to table variables p) _ h, in-append_right f (prefixes table variables f) (f ∷ []) (inl refl))

  pub nothing-made : {A : Type 0} (f : Fact) → Makes [] f → A
  nothing-made f m = absurd m.1

  -- the fact is on the way to the path
  abbrev pub IsTo : Path → Fact → Type 0
  IsTo p f = Begins (way_of f) p × IsIn f (facts_to table variables p)

  to-is : (p : Path) (f : Fact) → IsIn f (facts_to table variables p) → IsTo p f
  to-is p f h = let s = on-way-to p f h in (subst (λ k. Begins k p) (sym s.2) s.3, h)

  to-below : (p : Path) (f : Fact) (r : List ℕ) → IsIn f (facts_to table variables (p ++ r)) → IsTo p f ⊎ Begins p (way_of f)
  to-below p f r h = by (on-way-to (p ++ r) f h)
    where
      Way : Type 0
      Way = (v : ℕ) × (q : List ℕ) × (way_of f ≡ v ∷ q) × Begins (v ∷ q) (p ++ r) × ((r : List ℕ) → IsIn f (facts_to table variables ((v ∷ q) ++ r)))

      cases : (s : Way) → Begins (s.0 ∷ s.1) p ⊎ Begins p (s.0 ∷ s.1) → IsTo p f ⊎ Begins p (way_of f)
      cases s (inl b) = inl (subst (λ k. Begins k p) (sym s.2) b, subst (λ x. IsIn f (facts_to table variables x)) (sym b.1) (s.4 b.0))
      cases s (inr b) = inr (subst (Begins p) (sym s.2) b)

      by : Way → IsTo p f ⊎ Begins p (way_of f)
      by s = cases s (compared (s.0 ∷ s.1) p (p ++ r) s.3 (r, refl))

  pub made-way : (p : Path) (f : Fact) → Makes p f → IsTo p f ⊎ Begins p (way_of f)
  made-way p f m = by (in-append_cases m.0 (facts_to table variables p) (cond (passes_component table variables p) [] (list_of (λ t. full_facts table t p) (type_at table variables p))) m.1) (in-append_cases f (prefixes table variables m.0) (m.0 ∷ []) m.2)
    where
      Out : Type 0
      Out = IsTo p f ⊎ Begins p (way_of f)

      said : (b : Bool) (o : Option ℕ) (g : Fact) → IsIn g (cond b [] (list_of (λ t. full_facts table t p) o)) → (s : List ℕ) × (g ≡ init (p ++ s))
      said true o g h = absurd h
      said false None g h = absurd h
      said false (Some t) g h = let r = in-map_from (λ q. init (p ++ q)) g (part_paths full_parts table t) h in (r.0, r.2)

      below : (g : Fact) → (s : List ℕ) × (g ≡ init (p ++ s)) → IsIn f (prefixes table variables g) ⊎ IsIn f (g ∷ []) → Out
      below g s (inl a) = to-below p f s.0 (subst (λ h. IsIn f (facts_to table variables (path_of h))) s.1 (before-path table variables g f a))
      below g s (inr (inl e)) = inr (s.0, ap way_of (e ∙ s.1))
      below g s (inr (inr b)) = absurd b

      on : (g : Fact) → IsIn g (facts_to table variables p) → IsIn f (prefixes table variables g) ⊎ IsIn f (g ∷ []) → Out
      on g h (inl a) = inl (to-is p f (to-closed table variables p g f h a))
      on g h (inr (inl e)) = inl (to-is p f (subst (λ x. IsIn x (facts_to table variables p)) (sym e) h))
      on g h (inr (inr b)) = absurd b

      by : IsIn m.0 (facts_to table variables p) ⊎ IsIn m.0 (cond (passes_component table variables p) [] (list_of (λ t. full_facts table t p) (type_at table variables p))) → IsIn f (prefixes table variables m.0) ⊎ IsIn f (m.0 ∷ []) → Out
      by (inl h) k = on m.0 h k
      by (inr h) k = below m.0 (said (passes_component table variables p) (type_at table variables p) m.0 h) k
