-- What comes before a fact is closed, and so are the facts of a full value with those of its path.
use Rattle.std.proofs.Common.{◌≡◌, ℕ, suc, List, [], ◌∷◌, ◌++◌, Bool, true, false, cond, ◌||◌, ◌⊎◌, inl, inr, IsTrue, Option, Some, None, slice_get, option_map, is_some, is_none, ◌+◌, arith, refl, sym, ap, subst, subst₂, ◌∙◌, append_assoc, append-nil, true≢false}
use Rattle.std.proofs.Math.Bool.{or-false, or_assoc}
use Rattle.herm_model.specs.Lists.{IsIn, numbered, map_or, list_of}
use Rattle.herm_model.specs.Paths.{Path, Fact, init, case, path_of, parent}
use Rattle.herm_model.specs.Types.{Mode, by_in, by_inout, by_out, Parameter, filled, if_filled, Shape, fields, callmessage, TypeTable, part_of, part_type, is_variant, is_cases, type_below, type_at, enters_component, passes_component, full_parts, IsPartPath, part_paths, is_within_depth, greatest_depth}
use Rattle.herm_model.specs.Facts.{facts_from, facts_to, prefixes, with_prefixes, IsClosed, full_facts}
use Rattle.herm_model.proofs.Steps.{full-named, steps-listed, steps-lead}
use Rattle.herm_model.proofs.Beginnings.{Begins}
use Rattle.herm_model.proofs.Lists.{in-append_left, in-append_right, in-append_more, in-append_cases, in-map, in-map_from}

pub numbered-get : (i u k : ℕ) (ts : List ℕ) → IsIn (i, u) (numbered k ts) → (j : ℕ) × (i ≡ k + j) × (slice_get ts j ≡ Some u)
numbered-get i u k [] h = absurd h
numbered-get i u k (t ∷ ts) (inl e) = (0, ap (λ (x : ℕ × ℕ). x.0) e ∙ omega arith, ap (λ (x : ℕ × ℕ). Some x.1) (sym e))
numbered-get i u k (t ∷ ts) (inr h) = let r = numbered-get i u (suc k) ts h in (suc r.0, omega (arith, r.1), r.2)

filled-get : (i u k : ℕ) (ps : List Parameter) → IsIn (i, u) (filled k ps) → (j : ℕ) × (i ≡ k + j) × (option_map (λ p. p.content) (slice_get ps j) ≡ Some u)
filled-get i u k [] h = absurd h
filled-get i u k (p ∷ ps) h = by p.mode (filled-get i u (suc k) ps) h
  where
    Found : Type 0
    Found = (j : ℕ) × (i ≡ k + j) × (option_map (λ q. q.content) (slice_get (p ∷ ps) j) ≡ Some u)

    here : ◌≡◌ {A = ℕ × ℕ} (i, u) (k, p.content) → Found
    here e = (0, ap (λ (x : ℕ × ℕ). x.0) e ∙ omega arith, ap (λ (x : ℕ × ℕ). Some x.1) (sym e))

    further : (j : ℕ) × (i ≡ suc k + j) × (option_map (λ q. q.content) (slice_get ps j) ≡ Some u) → Found
    further r = (suc r.0, omega (arith, r.1), r.2)

    by : (m : Mode) → (IsIn (i, u) (filled (suc k) ps) → (j : ℕ) × (i ≡ suc k + j) × (option_map (λ q. q.content) (slice_get ps j) ≡ Some u)) → IsIn (i, u) (if_filled m (k, p.content) (filled (suc k) ps)) → Found
    by by_in again (inl e) = here e
    by by_in again (inr x) = further (again x)
    by by_inout again (inl e) = here e
    by by_inout again (inr x) = further (again x)
    by by_out again x = further (again x)

pub full-part : (o : Option Shape) (i u : ℕ) → IsIn (i, u) (list_of full_parts o) → map_or None (λ s. part_type s i) o ≡ Some u
full-part (Some (fields ts)) i u h = let r = numbered-get i u 0 ts h in ap (slice_get ts) (r.1 ∙ omega arith) ∙ r.2
full-part (Some (callmessage ps raises)) i u h = let r = filled-get i u 0 ps h in ap (λ j. option_map (λ p. p.content) (slice_get ps j)) (r.1 ∙ omega arith) ∙ r.2
full-part o i u h = absurd h

module _ (table : TypeTable) where
  abbrev pub own : Path → Bool → List Fact
  own at w = cond w [] (init at ∷ [])

  abbrev pub component : Path → Option ℕ → ℕ → List Fact
  component at t i = cond (is_variant table t) (case at i ∷ []) []

  abbrev onward : Path → Option ℕ → Bool → ℕ → List ℕ → List Fact
  onward at t w i p = facts_from table (at ++ i ∷ []) (part_of table t i) (w || is_variant table t) p

  -- the facts of a longer path have those of a shorter one
  pub from-longer : (at : Path) (t : Option ℕ) (w : Bool) (p r : List ℕ) (f : Fact) → IsIn f (facts_from table at t w p) → IsIn f (facts_from table at t w (p ++ r))
  from-longer at t w [] [] f h = h
  from-longer at t w [] (i ∷ r) f h = in-append_left f (own at w) (component at t i ++ onward at t w i r) h
  from-longer at t w (i ∷ p) r f h =
      in-append_more f (own at w) (component at t i ++ onward at t w i p) (component at t i ++ onward at t w i (p ++ r))
      (in-append_more f (component at t i) (onward at t w i p) (onward at t w i (p ++ r)) (from-longer (at ++ i ∷ []) (part_of table t i) (w || is_variant table t) p r f)) h

  -- a fact on the way speaks of a beginning of the path
  abbrev SpeaksOn : Path → List ℕ → Fact → Type 0
  SpeaksOn at p f = (q : List ℕ) × Begins q p × (path_of f ≡ at ++ q)

  own-speaks : (at : Path) (w : Bool) (p : List ℕ) (f : Fact) → IsIn f (own at w) → SpeaksOn at p f
  own-speaks at true p f h = absurd h
  own-speaks at false p f (inl e) = ([], (p, refl), ap path_of e ∙ sym (append-nil at))
  own-speaks at false p f (inr h) = absurd h

  component-speaks : (b : Bool) (at : Path) (i : ℕ) (p : List ℕ) (f : Fact) → IsIn f (cond b (case at i ∷ []) []) → SpeaksOn at p f
  component-speaks true at i p f (inl e) = ([], (p, refl), ap path_of e ∙ sym (append-nil at))
  component-speaks true at i p f (inr h) = absurd h
  component-speaks false at i p f h = absurd h

  later : (at : Path) (i : ℕ) (p : List ℕ) (f : Fact) → SpeaksOn (at ++ i ∷ []) p f → SpeaksOn at (i ∷ p) f
  later at i p f s = (i ∷ s.0, (s.1.0, ap (i ∷◌) s.1.1), s.2 ∙ append_assoc at (i ∷ []) s.0)

  pub speaks : (at : Path) (t : Option ℕ) (w : Bool) (p : List ℕ) (f : Fact) → IsIn f (facts_from table at t w p) → SpeaksOn at p f
  speaks at t w [] f h = own-speaks at w [] f h
  speaks at t w (i ∷ p) f h = by (speaks (at ++ i ∷ []) (part_of table t i) (w || is_variant table t) p f) (in-append_cases f (own at w) (component at t i ++ onward at t w i p) h)
    where
      mid : (IsIn f (onward at t w i p) → SpeaksOn (at ++ i ∷ []) p f) → IsIn f (component at t i) ⊎ IsIn f (onward at t w i p) → SpeaksOn at (i ∷ p) f
      mid again (inl c) = component-speaks (is_variant table t) at i (i ∷ p) f c
      mid again (inr d) = later at i p f (again d)

      by : (IsIn f (onward at t w i p) → SpeaksOn (at ++ i ∷ []) p f) → IsIn f (own at w) ⊎ IsIn f (component at t i ++ onward at t w i p) → SpeaksOn at (i ∷ p) f
      by again (inl a) = own-speaks at w (i ∷ p) f a
      by again (inr b) = mid again (in-append_cases f (component at t i) (onward at t w i p) b)

  module _ (variables : List ℕ) where
    pub to-longer : (p r : Path) (f : Fact) → IsIn f (facts_to table variables p) → IsIn f (facts_to table variables (p ++ r))
    to-longer [] r f h = absurd h
    to-longer (v ∷ p) r f h = from-longer (v ∷ []) (slice_get variables v) false p r f h

    pub parent-begins : (p : Path) → Begins (parent p) p
    parent-begins [] = ([], refl)
    parent-begins (i ∷ []) = (i ∷ [], refl)
    parent-begins (i ∷ j ∷ p) = let b = parent-begins (j ∷ p) in (b.0, ap (i ∷◌) b.1)

    pub to-parent : (p : Path) (f : Fact) → IsIn f (facts_to table variables (parent p)) → IsIn f (facts_to table variables p)
    to-parent p f h = let b = parent-begins p in subst (λ q. IsIn f (facts_to table variables q)) (sym b.1) (to-longer (parent p) b.0 f h)

    pub before-path : (f g : Fact) → IsIn g (prefixes table variables f) → IsIn g (facts_to table variables (path_of f))
    before-path (init p) g h = to-parent p g h
    before-path (case p c) g h = h

    -- the facts to a path are closed
    pub to-closed : (p : Path) → IsClosed table variables (λ f. IsIn f (facts_to table variables p))
    to-closed [] f g h k = absurd h
    to-closed (v ∷ p) f g h k =
        let s = speaks (v ∷ []) (slice_get variables v) false p f h in
        let m : IsIn g (facts_to table variables (v ∷ s.0)) = subst (λ q. IsIn g (facts_to table variables q)) s.2 (before-path f g k) in
        subst (λ q. IsIn g (facts_to table variables (v ∷ q))) (sym s.1.1) (to-longer (v ∷ s.0) s.1.0 g m)

    prefixes-closed : (f : Fact) → IsClosed table variables (λ g. IsIn g (prefixes table variables f))
    prefixes-closed (init p) = to-closed (parent p)
    prefixes-closed (case p c) = to-closed p

    pub with-closed : (f : Fact) → IsClosed table variables (λ g. IsIn g (with_prefixes table variables f))
    with-closed f g h i k = by (in-append_cases g (prefixes table variables f) (f ∷ []) i)
      where
        by : IsIn g (prefixes table variables f) ⊎ IsIn g (f ∷ []) → IsIn h (with_prefixes table variables f)
        by (inl a) = in-append_left h (prefixes table variables f) (f ∷ []) (prefixes-closed f g h a k)
        by (inr (inl e)) = in-append_left h (prefixes table variables f) (f ∷ []) (subst (λ x. IsIn h (prefixes table variables x)) e k)
        by (inr (inr b)) = absurd b

  -- the facts of a longer path are those of a shorter one and those from its end on
  pub split : (at : Path) (t : Option ℕ) (w : Bool) (p r : List ℕ) (f : Fact) → IsIn f (facts_from table at t w (p ++ r)) → IsIn f (facts_from table at t w p) ⊎ IsIn f (facts_from table (at ++ p) (type_below table t p) (w || enters_component table t p) r)
  split at t w [] r f h = inr (subst₂ (λ a v. IsIn f (facts_from table a t v r)) (sym (append-nil at)) (sym (or-false w)) h)
  split at t w (i ∷ p) r f h = by (split (at ++ i ∷ []) (part_of table t i) (w || is_variant table t) p r f) (in-append_cases f (own at w) (component at t i ++ onward at t w i (p ++ r)) h)
    where
      Rest : Type 0
      Rest = IsIn f (facts_from table (at ++ i ∷ p) (type_below table (part_of table t i) p) (w || (is_variant table t || enters_component table (part_of table t i) p)) r)

      far : IsIn f (facts_from table ((at ++ i ∷ []) ++ p) (type_below table (part_of table t i) p) ((w || is_variant table t) || enters_component table (part_of table t i) p) r) → Rest
      far k = subst₂ (λ a v. IsIn f (facts_from table a (type_below table (part_of table t i) p) v r)) (append_assoc at (i ∷ []) p) (or_assoc w (is_variant table t) (enters_component table (part_of table t i) p)) k

      Again : Type 0
      Again = IsIn f (onward at t w i (p ++ r)) → IsIn f (onward at t w i p) ⊎ IsIn f (facts_from table ((at ++ i ∷ []) ++ p) (type_below table (part_of table t i) p) ((w || is_variant table t) || enters_component table (part_of table t i) p) r)

      deep : IsIn f (onward at t w i p) ⊎ IsIn f (facts_from table ((at ++ i ∷ []) ++ p) (type_below table (part_of table t i) p) ((w || is_variant table t) || enters_component table (part_of table t i) p) r) → IsIn f (facts_from table at t w (i ∷ p)) ⊎ Rest
      deep (inl a) = inl (in-append_right f (own at w) (component at t i ++ onward at t w i p) (in-append_right f (component at t i) (onward at t w i p) a))
      deep (inr b) = inr (far b)

      mid : Again → IsIn f (component at t i) ⊎ IsIn f (onward at t w i (p ++ r)) → IsIn f (facts_from table at t w (i ∷ p)) ⊎ Rest
      mid again (inl c) = inl (in-append_right f (own at w) (component at t i ++ onward at t w i p) (in-append_left f (component at t i) (onward at t w i p) c))
      mid again (inr d) = deep (again d)

      by : Again → IsIn f (own at w) ⊎ IsIn f (component at t i ++ onward at t w i (p ++ r)) → IsIn f (facts_from table at t w (i ∷ p)) ⊎ Rest
      by again (inl a) = inl (in-append_left f (own at w) (component at t i ++ onward at t w i p) a)
      by again (inr b) = mid again (in-append_cases f (component at t i) (onward at t w i (p ++ r)) b)

  -- steps through full parts pass no component
  pub full-open : (o : Option Shape) (i u : ℕ) → IsIn (i, u) (list_of full_parts o) → map_or false (λ s. is_cases s) o ≡ false
  full-open (Some (fields ts)) i u h = refl
  full-open (Some (callmessage ps raises)) i u h = refl
  full-open o i u h = absurd h

  pub leads-begins : (parts : Shape → List (ℕ × ℕ)) (t : ℕ) (q r : List ℕ) → IsPartPath parts table t (q ++ r) → IsPartPath parts table t q
  leads-begins parts t [] [] h = h
  leads-begins parts t [] (i ∷ r) h = there (slice_get table t) h.1
    where
      there : (o : Option Shape) → IsIn (i, h.0) (list_of parts o) → IsTrue (is_some o)
      there None k = absurd k
      there (Some s) k = refl
  leads-begins parts t (i ∷ q) r h = (h.0, h.1, leads-begins parts h.0 q r h.2)

  -- behind a full value's path every fact on the way is that there is a value
  full-facts_from : (at : Path) (t : ℕ) (p : List ℕ) (f : Fact) → IsPartPath full_parts table t p → IsIn f (facts_from table at (Some t) false p) → (q : List ℕ) × Begins q p × (f ≡ init (at ++ q))
  full-facts_from at t [] f l (inl e) = ([], ([], refl), e ∙ ap init (sym (append-nil at)))
  full-facts_from at t [] f l (inr h) = absurd h
  full-facts_from at t (i ∷ p) f l h =
      by (full-facts_from (at ++ i ∷ []) l.0 p f l.2)
      (subst₂ (λ b o. IsIn f (init at ∷ (cond b (case at i ∷ []) [] ++ facts_from table (at ++ i ∷ []) o b p))) (full-open (slice_get table t) i l.0 l.1) (full-part (slice_get table t) i l.0 l.1) h)
    where
      by : (IsIn f (facts_from table (at ++ i ∷ []) (Some l.0) false p) → (q : List ℕ) × Begins q p × (f ≡ init ((at ++ i ∷ []) ++ q))) → IsIn f (init at ∷ facts_from table (at ++ i ∷ []) (Some l.0) false p) → (q : List ℕ) × Begins q (i ∷ p) × (f ≡ init (at ++ q))
      by again (inl e) = ([], (i ∷ p, refl), e ∙ ap init (sym (append-nil at)))
      by again (inr k) = let r = again k in (i ∷ r.0, (r.1.0, ap (i ∷◌) r.1.1), r.2 ∙ ap init (append_assoc at (i ∷ []) r.0))

  module _ (variables : List ℕ) where
    abbrev FullSet : Path → ℕ → Fact → Type 0
    FullSet p t f = IsIn f (facts_to table variables p) ⊎ IsIn f (full_facts table t p)

    longer-full : (v t : ℕ) (p q : List ℕ) (f : Fact) → type_at table variables (v ∷ p) ≡ Some t → passes_component table variables (v ∷ p) ≡ false → IsTrue (is_within_depth greatest_depth table t) → IsPartPath full_parts table t q → IsIn f (facts_to table variables ((v ∷ p) ++ q)) → FullSet (v ∷ p) t f
    longer-full v t p q f e n w l h = by (split (v ∷ []) (slice_get variables v) false p q f h)
      where
        listed : (r : List ℕ) × Begins r q × (f ≡ init ((v ∷ p) ++ r)) → IsIn f (full_facts table t (v ∷ p))
        listed r = subst (λ g. IsIn g (full_facts table t (v ∷ p))) (sym r.2)
            (in-map (λ s. init ((v ∷ p) ++ s)) r.0 (part_paths full_parts table t) (steps-listed full_parts table full-named greatest_depth t w r.0 (leads-begins full_parts t r.0 r.1.0 (subst (IsPartPath full_parts table t) r.1.1 l))))

        by : IsIn f (facts_from table (v ∷ []) (slice_get variables v) false p) ⊎ IsIn f (facts_from table (v ∷ p) (type_below table (slice_get variables v) p) (enters_component table (slice_get variables v) p) q) → FullSet (v ∷ p) t f
        by (inl a) = inl a
        by (inr b) = inr (listed (full-facts_from (v ∷ p) t q f l (subst₂ (λ o c. IsIn f (facts_from table (v ∷ p) o c q)) e n b)))

    pub full-closed : (p : Path) (t : ℕ) → type_at table variables p ≡ Some t → passes_component table variables p ≡ false → IsTrue (is_within_depth greatest_depth table t) → IsClosed table variables (FullSet p t)
    full-closed [] t e n w f g h k = absurd (true≢false (ap is_none e))
    full-closed (v ∷ p) t e n w f g (inl h) k = inl (to-closed variables (v ∷ p) f g h k)
    full-closed (v ∷ p) t e n w f g (inr h) k =
        let r = in-map_from (λ s. init ((v ∷ p) ++ s)) f (part_paths full_parts table t) h in
        longer-full v t p r.0 g e n w (steps-lead full_parts table greatest_depth t r.0 r.1) (subst (λ x. IsIn g (facts_to table variables x)) (ap path_of r.2) (before-path variables f g k))
