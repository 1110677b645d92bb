-- The steps of a type are those that lead; the test of copyable types is the smallest set.
use Rattle.std.proofs.Common.{◌≡◌, ℕ, zero, suc, List, [], ◌∷◌, ◌++◌, ap₂, ◌&&◌, map, flat_map, Bool, false, inl, inr, IsTrue, Option, Some, None, is_some, slice_get, refl, sym, ap, subst}
use Rattle.herm_model.specs.Lists.{IsIn, all_pass, map_or, list_of}
use Rattle.herm_model.specs.Types.{Mode, by_in, by_inout, by_out, Parameter, Shape, fields, cases, callmessage, TypeTable, named_types, is_within_depth, filled, if_filled, full_parts, held_parts, all_parts, IsPartPath, part_paths_within}
use Rattle.herm_model.proofs.Lists.{cons-not_nil, cons-head, cons-tail, not_true, and-both, both-and, in-every, in-map, in-map_from, in-flat_map, in-flat_map_from, every-in, numbered-in}

-- a choice of parts takes them from the types that the shape names
abbrev pub IsOfNamed : (Shape → List (ℕ × ℕ)) → Type 0
IsOfNamed parts = (s : Shape) (i u : ℕ) → IsIn (i, u) (parts s) → IsIn u (named_types s)

second : (x y : ℕ × ℕ) → x ≡ y → x.1 ≡ y.1
second x y e = ap (λ (p : ℕ × ℕ). p.1) e

filled-named : (i u k : ℕ) (ps : List Parameter) → IsIn (i, u) (filled k ps) → IsIn u (map (λ p. p.content) ps)
filled-named i u k [] h = h
filled-named i u k (p ∷ ps) h = by p.mode (filled-named i u (suc k) ps) h
  where
    by : (m : Mode) → (IsIn (i, u) (filled (suc k) ps) → IsIn u (map (λ p. p.content) ps)) → IsIn (i, u) (if_filled m (k, p.content) (filled (suc k) ps)) → IsIn u (map (λ p. p.content) (p ∷ ps))
    by by_in again (inl e) = inl (second _ _ e)
    by by_in again (inr h) = inr (again h)
    by by_inout again (inl e) = inl (second _ _ e)
    by by_inout again (inr h) = inr (again h)
    by by_out again h = inr (again h)

pub full-named : IsOfNamed full_parts
full-named (fields ts) i u h = numbered-in i 0 u ts h
full-named (callmessage ps raises) i u h = filled-named i u 0 ps h
full-named s i u h = absurd h

pub held-named : IsOfNamed held_parts
held-named (fields ts) i u h = numbered-in i 0 u ts h
held-named (callmessage ps raises) i u h = numbered-in i 0 u (map (λ p. p.content) ps) h
held-named s i u h = absurd h

pub all-named : IsOfNamed all_parts
all-named (fields ts) i u h = numbered-in i 0 u ts h
all-named (cases ts) i u h = numbered-in i 0 u ts h
all-named (callmessage ps raises) i u h = numbered-in i 0 u (map (λ p. p.content) ps) h
all-named s i u h = absurd h

-- a type within a depth is there
pub within-known : (table : TypeTable) (n u : ℕ) → IsTrue (is_within_depth n table u) → IsTrue (is_some (slice_get table u))
within-known table zero u w = not_true w
within-known table (suc n) u w = there (slice_get table u) w
  where
    there : (o : Option Shape) → IsTrue (map_or false (λ s. all_pass (is_within_depth n table) (named_types s)) o) → IsTrue (is_some o)
    there None w = not_true w
    there (Some s) w = refl

module _ (parts : Shape → List (ℕ × ℕ)) (table : TypeTable) where
  abbrev pub LeadsOf : Option Shape → List ℕ → Type 0
  LeadsOf o [] = IsTrue (is_some o)
  LeadsOf o (i ∷ p) = (u : ℕ) × IsIn (i, u) (list_of parts o) × IsPartPath parts table u p

  abbrev below : (ℕ → List (List ℕ)) → Option Shape → List (List ℕ)
  below next o = map_or [] (λ s. [] ∷ flat_map (λ part. map (part.0 ∷◌) (next part.1)) (parts s)) o

  -- what is listed leads
  below-leads : (next : ℕ → List (List ℕ)) (o : Option Shape) → ((u : ℕ) (q : List ℕ) → IsIn q (next u) → IsPartPath parts table u q) → (p : List ℕ) → IsIn p (below next o) → LeadsOf o p
  below-leads next None again p h = absurd h
  below-leads next (Some s) again [] h = refl
  below-leads next (Some s) again (i ∷ p) (inl e) = cons-not_nil i p e
  below-leads next (Some s) again (i ∷ p) (inr h) =
      let r = in-flat_map_from (λ (part : ℕ × ℕ). map (part.0 ∷◌) (next part.1)) (i ∷ p) (parts s) h in
      let q = in-map_from (r.0.0 ∷◌) (i ∷ p) (next r.0.1) r.2 in
      (r.0.1, subst (λ j. IsIn (j, r.0.1) (parts s)) (sym (cons-head q.2)) r.1, again r.0.1 p (subst (λ l. IsIn l (next r.0.1)) (sym (cons-tail q.2)) q.1))

  pub steps-lead : (n t : ℕ) (p : List ℕ) → IsIn p (part_paths_within parts n table t) → IsPartPath parts table t p
  steps-lead zero t p h = absurd h
  steps-lead (suc n) t [] h = below-leads (part_paths_within parts n table) (slice_get table t) (steps-lead n) [] h
  steps-lead (suc n) t (i ∷ p) h = below-leads (part_paths_within parts n table) (slice_get table t) (steps-lead n) (i ∷ p) h

  -- what leads is listed
  below-listed : (named : IsOfNamed parts) (next : ℕ → List (List ℕ)) (within : ℕ → Bool) (o : Option Shape) → IsTrue (map_or false (λ s. all_pass within (named_types s)) o) → ((u : ℕ) → IsTrue (within u) → (q : List ℕ) → IsPartPath parts table u q → IsIn q (next u)) → (p : List ℕ) → LeadsOf o p → IsIn p (below next o)
  below-listed named next within None w again p h = not_true w
  below-listed named next within (Some s) w again [] h = inl refl
  below-listed named next within (Some s) w again (i ∷ p) h =
      inr (in-flat_map (λ (part : ℕ × ℕ). map (part.0 ∷◌) (next part.1)) (i, h.0) (i ∷ p) (parts s) h.1
      (in-map (i ∷◌) p (next h.0) (again h.0 (every-in within h.0 (named_types s) w (named s i h.0 h.1)) p h.2)))

  pub steps-listed : (named : IsOfNamed parts) (n t : ℕ) → IsTrue (is_within_depth n table t) → (p : List ℕ) → IsPartPath parts table t p → IsIn p (part_paths_within parts n table t)
  steps-listed named zero t w p h = not_true w
  steps-listed named (suc n) t w [] h = below-listed named (part_paths_within parts n table) (is_within_depth n table) (slice_get table t) w (steps-listed named n) [] h
  steps-listed named (suc n) t w (i ∷ p) h = below-listed named (part_paths_within parts n table) (is_within_depth n table) (slice_get table t) w (steps-listed named n) (i ∷ p) h

  -- one more than enough gives the same
  below-same : (named : IsOfNamed parts) (next other : ℕ → List (List ℕ)) (within : ℕ → Bool) (o : Option Shape) → IsTrue (map_or false (λ s. all_pass within (named_types s)) o) → ((u : ℕ) → IsTrue (within u) → next u ≡ other u) → below next o ≡ below other o
  below-same named next other within None w again = refl
  below-same named next other within (Some s) w again = ap ([] ∷◌) (same (parts s) (λ i u h. again u (every-in within u (named_types s) w (named s i u h))))
    where
      same : (ps : List (ℕ × ℕ)) → ((i u : ℕ) → IsIn (i, u) ps → next u ≡ other u) → flat_map (λ (part : ℕ × ℕ). map (part.0 ∷◌) (next part.1)) ps ≡ flat_map (λ (part : ℕ × ℕ). map (part.0 ∷◌) (other part.1)) ps
      same [] each = refl
      same (p ∷ ps) each = ap₂ ◌++◌ (ap (map (p.0 ∷◌)) (each p.0 p.1 (inl refl))) (same ps (λ i u h. each i u (inr h)))

  pub steps-same : (named : IsOfNamed parts) (n m t : ℕ) → IsTrue (is_within_depth n table t) → IsTrue (is_within_depth m table t) → part_paths_within parts n table t ≡ part_paths_within parts m table t
  steps-same named zero m t w v = not_true w
  steps-same named (suc n) zero t w v = not_true v
  steps-same named (suc n) (suc m) t w v = below-same named (part_paths_within parts n table) (part_paths_within parts m table) (λ u. is_within_depth n table u && is_within_depth m table u) (slice_get table t) (both_within (slice_get table t) w v) (λ u h. steps-same named n m u (and-both (is_within_depth n table u) _ h).0 (and-both (is_within_depth n table u) _ h).1)
    where
      both_within : (o : Option Shape) → IsTrue (map_or false (λ s. all_pass (is_within_depth n table) (named_types s)) o) → IsTrue (map_or false (λ s. all_pass (is_within_depth m table) (named_types s)) o) → IsTrue (map_or false (λ s. all_pass (λ u. is_within_depth n table u && is_within_depth m table u) (named_types s)) o)
      both_within None w v = w
      both_within (Some s) w v = in-every (λ u. is_within_depth n table u && is_within_depth m table u) (named_types s) (λ x i. both-and (is_within_depth n table x) _ (every-in (is_within_depth n table) x (named_types s) w i) (every-in (is_within_depth m table) x (named_types s) v i))
