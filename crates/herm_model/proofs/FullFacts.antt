-- A value of a type is full exactly where it has a value at each path that full asks for and at no other.
use Rattle.std.proofs.Common.{◌≡◌, inl, inr, ℕ, zero, suc, ◌+◌, List, [], ◌∷◌, map, Bool, true, false, Option, Some, None, option_map, is_some, is_none, slice_get, IsTrue, refl, sym, ap, subst, ◌∙◌, arith, cond, zero-add, true≢false}
use Rattle.herm_model.specs.Lists.{IsIn, numbered, all_pass, map_or, list_of}
use Rattle.herm_model.specs.Types.{Mode, by_in, by_inout, by_out, Parameter, Raised, Shape, fields, callmessage, TypeTable, filled, if_filled, full_parts, IsPartPath, is_within_depth, named_types}
use Rattle.herm_model.specs.Values.{Kind, a_record, a_callmessage, Cell, cell, Parts, no_parts, gap, part, part_at, opens, inside, has_value}
use Rattle.herm_model.specs.Typed.{Degree, whole, partly, Content, a_value, nothing, Layout, exactly, parameter_content, MayBeEmpty, IsOf, Fits}
use Rattle.herm_model.proofs.Lists.{not_true, and-both, every-in, slice_get-map}
use Rattle.herm_model.proofs.Options.{some-injective, none-not_some}
use Rattle.herm_model.proofs.Steps.{full-named, LeadsOf, within-known}
use Rattle.herm_model.proofs.Prefixes.{full-part, numbered-get}
use Rattle.herm_model.proofs.NothingThere.{nothing-there}
use Rattle.herm_model.proofs.Typing.{layout_of}

abbrev field_contents : List ℕ → List Content
field_contents ts = map (a_value whole) ts

abbrev parameter_contents : List Parameter → List Content
parameter_contents ps = map (λ p. parameter_content whole p.mode p.content) ps

abbrev partly_parameters : List Parameter → Layout
partly_parameters qs = exactly (map (λ q. parameter_content partly q.mode q.content) qs)

abbrev pub type_of : Content → ℕ
type_of (a_value d u) = u
type_of nothing = 0

abbrev pub degree_of : Content → Degree
degree_of (a_value d u) = d
degree_of nothing = whole

abbrev is_value : Content → Bool
is_value (a_value d u) = true
is_value nothing = false

-- a whole value of the type is asked for at the place
abbrev Asks : List (ℕ × ℕ) → ℕ → ℕ → Degree → Type 0
Asks parts i u d = IsIn (i, u) parts × (d ≡ whole)

shifted : (k j u : ℕ) (parts : List (ℕ × ℕ)) → IsIn (suc k + j, u) parts → IsIn (k + suc j, u) parts
shifted k j u parts h = let z : suc k + j ≡ k + suc j = omega arith in subst (λ m. IsIn (m, u) parts) z h

first : (k u v : ℕ) → v ≡ u → ◌≡◌ {A = ℕ × ℕ} (k + 0, u) (k, v)
first k u v e = let z : k + 0 ≡ k = omega arith in λ i. (z i, sym e i)

contents-fields : (k j u : ℕ) (d : Degree) (ts : List ℕ) → slice_get (field_contents ts) j ≡ Some (a_value d u) → Asks (numbered k ts) (k + j) u d
contents-fields k j u d [] e = none-not_some e
contents-fields k zero u d (t ∷ ts) e = let z = some-injective e in (inl (first k u t (ap type_of z)), sym (ap degree_of z))
contents-fields k (suc j) u d (t ∷ ts) e = let r = contents-fields (suc k) j u d ts e in (inr (shifted k j u (numbered (suc k) ts) r.0), r.1)

fields-contents : (i k u : ℕ) (ts : List ℕ) → IsIn (i, u) (numbered k ts) → (j : ℕ) × (i ≡ k + j) × (slice_get (field_contents ts) j ≡ Some (a_value whole u))
fields-contents i k u ts h = let r = numbered-get i u k ts h in (r.0, r.1, slice_get-map (a_value whole) ts r.0 ∙ ap (option_map (a_value whole)) r.2)

contents-parameters : (k j u : ℕ) (d : Degree) (ps : List Parameter) → slice_get (parameter_contents ps) j ≡ Some (a_value d u) → Asks (filled k ps) (k + j) u d
contents-parameters k j u d [] e = none-not_some e
contents-parameters k zero u d (p ∷ ps) e = by p.mode (some-injective e)
  where
    by : (m : Mode) → parameter_content whole m p.content ≡ a_value d u → Asks (if_filled m (k, p.content) (filled (suc k) ps)) (k + 0) u d
    by by_in z = (inl (first k u p.content (ap type_of z)), sym (ap degree_of z))
    by by_inout z = (inl (first k u p.content (ap type_of z)), sym (ap degree_of z))
    by by_out z = absurd (true≢false (sym (ap is_value z)))
contents-parameters k (suc j) u d (p ∷ ps) e = by p.mode (contents-parameters (suc k) j u d ps e)
  where
    by : (m : Mode) → Asks (filled (suc k) ps) (suc k + j) u d → Asks (if_filled m (k, p.content) (filled (suc k) ps)) (k + suc j) u d
    by by_in r = (inr (shifted k j u (filled (suc k) ps) r.0), r.1)
    by by_inout r = (inr (shifted k j u (filled (suc k) ps) r.0), r.1)
    by by_out r = (shifted k j u (filled (suc k) ps) r.0, r.1)

parameters-contents : (i k u : ℕ) (ps : List Parameter) → IsIn (i, u) (filled k ps) → (j : ℕ) × (i ≡ k + j) × (slice_get (parameter_contents ps) j ≡ Some (a_value whole u))
parameters-contents i k u [] h = absurd h
parameters-contents i k u (p ∷ ps) h = by p.mode h (parameters-contents i (suc k) u ps)
  where
    Found : Mode → Type 0
    Found m = (j : ℕ) × (i ≡ k + j) × (slice_get (parameter_content whole m p.content ∷ parameter_contents ps) j ≡ Some (a_value whole u))

    further : (m : Mode) → (j : ℕ) × (i ≡ suc k + j) × (slice_get (parameter_contents ps) j ≡ Some (a_value whole u)) → Found m
    further m r = (suc r.0, omega (arith, r.1), r.2)

    by : (m : Mode) → IsIn (i, u) (if_filled m (k, p.content) (filled (suc k) ps)) → (IsIn (i, u) (filled (suc k) ps) → (j : ℕ) × (i ≡ suc k + j) × (slice_get (parameter_contents ps) j ≡ Some (a_value whole u))) → Found m
    by by_in (inl e) again = (0, ap (λ (x : ℕ × ℕ). x.0) e ∙ omega arith, ap (λ (x : ℕ × ℕ). Some (a_value whole x.1)) (sym e))
    by by_in (inr x) again = further by_in (again x)
    by by_inout (inl e) again = (0, ap (λ (x : ℕ × ℕ). x.0) e ∙ omega arith, ap (λ (x : ℕ × ℕ). Some (a_value whole x.1)) (sym e))
    by by_inout (inr x) again = further by_inout (again x)
    by by_out x again = further by_out (again x)

has-no : {A : Type 0} (N : Type 0) (j : ℕ) (q : List ℕ) → IsTrue (has_value {N = N} no_parts (j ∷ q)) → A
has-no N j q h = not_true (sym (nothing-there N (j ∷ q)) ∙ h)

module _ {N : Type 0} (table : TypeTable) where
  abbrev Held : Cell N → Content → Type 0
  Held c (a_value d u) = IsOf d table u c
  Held c nothing = ⊥

  -- what the layout says at a place, and what is there
  pub at-fits : (xs : List Content) (ps : Parts N) (j : ℕ) (c : Cell N) → Fits table (exactly xs) ps → part_at j ps ≡ Some c → (d : Degree) × (u : ℕ) × (slice_get xs j ≡ Some (a_value d u)) × IsOf d table u c
  at-fits [] no_parts j c h e = none-not_some e
  at-fits [] (gap ps) j c h e = absurd h
  at-fits [] (part a ps) j c h e = absurd h
  at-fits (x ∷ xs) no_parts j c h e = absurd h
  at-fits (x ∷ xs) (gap ps) zero c h e = none-not_some e
  at-fits (x ∷ xs) (gap ps) (suc j) c h e = at-fits xs ps j c h.1 e
  at-fits (nothing ∷ xs) (part a ps) j c h e = absurd h
  at-fits (a_value d u ∷ xs) (part a ps) zero c h e = (d, u, refl, subst (λ b. IsOf d table u b) (some-injective e) h.0)
  at-fits (a_value d u ∷ xs) (part a ps) (suc j) c h e = at-fits xs ps j c h.1 e

  fits-at : (xs : List Content) (ps : Parts N) (j u : ℕ) → Fits table (exactly xs) ps → slice_get xs j ≡ Some (a_value whole u) → (c : Cell N) × (part_at j ps ≡ Some c) × IsOf whole table u c
  fits-at [] ps j u h e = none-not_some e
  fits-at (x ∷ xs) no_parts j u h e = absurd h
  fits-at (x ∷ xs) (gap ps) zero u h e = absurd (subst MayBeEmpty (some-injective e) h.0)
  fits-at (x ∷ xs) (gap ps) (suc j) u h e = fits-at xs ps j u h.1 e
  fits-at (nothing ∷ xs) (part a ps) j u h e = absurd h
  fits-at (a_value d v ∷ xs) (part a ps) zero u h e = (a, refl, subst (Held a) (some-injective e) h.0)
  fits-at (a_value d v ∷ xs) (part a ps) (suc j) u h e = fits-at xs ps j u h.1 e

  first-there : (ps : Parts N) (j : ℕ) (q : List ℕ) → IsTrue (has_value ps (j ∷ q)) → (d : Cell N) × (part_at j ps ≡ Some d)
  first-there ps j [] h = by (part_at j ps) h
    where
      by : (o : Option (Cell N)) → IsTrue (is_some o) → (d : Cell N) × (o ≡ Some d)
      by None h = not_true h
      by (Some d) h = (d, refl)
  first-there ps j (k ∷ q) h = by (part_at j ps) h
    where
      by : (o : Option (Cell N)) → IsTrue (has_value (inside o) (k ∷ q)) → (d : Cell N) × (o ≡ Some d)
      by None h = has-no N k q h
      by (Some d) h = (d, refl)

  -- a step down to a part that is there
  step-down : (o : Option Shape) (k : Kind) (ps : Parts N) (j : ℕ) (q : List ℕ) → Fits table (layout_of whole o k) ps → IsTrue (has_value (cond (opens k) ps no_parts) (j ∷ q)) → (d : Cell N) × (u : ℕ) × (part_at j (cond (opens k) ps no_parts) ≡ Some d) × IsIn (j, u) (list_of full_parts o) × IsOf whole table u d
  step-down (Some (fields ts)) a_record ps j q h v =
      let d = first-there ps j q v in let a = at-fits (field_contents ts) ps j d.0 h d.1 in let b = contents-fields 0 j a.1 a.0 ts a.2 in
      (d.0, a.1, d.1, subst (λ m. IsIn (m, a.1) (numbered 0 ts)) (zero-add j) b.0, subst (λ x. IsOf x table a.1 d.0) b.1 a.3)
  step-down (Some (callmessage qs es)) (a_callmessage caller call) ps j q h v =
      let d = first-there ps j q v in let a = at-fits (parameter_contents qs) ps j d.0 h d.1 in let b = contents-parameters 0 j a.1 a.0 qs a.2 in
      (d.0, a.1, d.1, subst (λ m. IsIn (m, a.1) (filled 0 qs)) (zero-add j) b.0, subst (λ x. IsOf x table a.1 d.0) b.1 a.3)
  step-down o a_record ps j q h v = absurd h
  step-down o (a_callmessage caller call) ps j q h v = absurd h
  step-down o k ps j q h v = has-no N j q v

  -- a step down to a part that full asks for
  step-to : (o : Option Shape) (k : Kind) (ps : Parts N) (j u : ℕ) → Fits table (layout_of whole o k) ps → IsIn (j, u) (list_of full_parts o) → (d : Cell N) × (part_at j (cond (opens k) ps no_parts) ≡ Some d) × IsOf whole table u d
  step-to (Some (fields ts)) a_record ps j u h i = let r = fields-contents j 0 u ts i in let z = fits-at (field_contents ts) ps r.0 u h r.2 in (z.0, ap (λ m. part_at m ps) (r.1 ∙ zero-add r.0) ∙ z.1, z.2)
  step-to (Some (callmessage qs es)) (a_callmessage caller call) ps j u h i = let r = parameters-contents j 0 u qs i in let z = fits-at (parameter_contents qs) ps r.0 u h r.2 in (z.0, ap (λ m. part_at m ps) (r.1 ∙ zero-add r.0) ∙ z.1, z.2)
  step-to (Some (fields ts)) k ps j u h i = absurd h
  step-to (Some (callmessage qs es)) k ps j u h i = absurd h
  step-to o k ps j u h i = absurd i

  type-there : (o : Option Shape) (k : Kind) (ps : Parts N) → Fits table (layout_of whole o k) ps → IsTrue (is_some o)
  type-there None k ps h = absurd h
  type-there (Some s) k ps h = refl

  value-leads : (q : List ℕ) (i t : ℕ) (ps : Parts N) (c : Cell N) → part_at i ps ≡ Some c → IsOf whole table t c → IsTrue (has_value ps (i ∷ q)) → IsPartPath full_parts table t q
  value-leads [] i t ps (cell n k qs) e h v = type-there (slice_get table t) k qs h.0
  value-leads (j ∷ q) i t ps (cell n k qs) e h v =
      let w : IsTrue (has_value (cond (opens k) qs no_parts) (j ∷ q)) = subst (λ o. IsTrue (has_value (inside o) (j ∷ q))) e v in
      let s = step-down (slice_get table t) k qs j q h.0 w in (s.1, s.3, value-leads q j s.1 (cond (opens k) qs no_parts) s.0 s.2 s.4 w)

  leads-value : (q : List ℕ) (i t : ℕ) (ps : Parts N) (c : Cell N) → part_at i ps ≡ Some c → IsOf whole table t c → IsPartPath full_parts table t q → IsTrue (has_value ps (i ∷ q))
  leads-value [] i t ps c e h l = ap is_some e
  leads-value (j ∷ q) i t ps (cell n k qs) e h l =
      let s = step-to (slice_get table t) k qs j l.0 h.0 l.1 in
      subst (λ o. IsTrue (has_value (inside o) (j ∷ q))) (sym e) (leads-value q j l.0 (cond (opens k) qs no_parts) s.0 s.1 s.2 l.2)

  -- the same of a value alone
  pub full-leads : (q : List ℕ) (t : ℕ) (c : Cell N) → IsOf whole table t c → IsTrue (has_value (part c no_parts) (0 ∷ q)) → IsPartPath full_parts table t q
  full-leads q t c h v = value-leads q 0 t (part c no_parts) c refl h v

  pub leads-full : (q : List ℕ) (t : ℕ) (c : Cell N) → IsOf whole table t c → IsPartPath full_parts table t q → IsTrue (has_value (part c no_parts) (0 ∷ q))
  leads-full q t c h l = leads-value q 0 t (part c no_parts) c refl h l

-- the other way: a value of the type with values exactly there is full
module _ (table : TypeTable) where
  one-type : (o : Option Shape) (j u v : ℕ) → IsIn (j, u) (list_of full_parts o) → IsIn (j, v) (list_of full_parts o) → u ≡ v
  one-type o j u v h g = some-injective (sym (full-part o j u h) ∙ full-part o j v g)

  module _ {N : Type 0} where
    -- below these parts there are values exactly where full asks for them
    abbrev ExactIn : Option Shape → Parts N → Type 0
    ExactIn o ps = (i : ℕ) (q : List ℕ) → (IsTrue (has_value ps (i ∷ q)) → LeadsOf full_parts table o (i ∷ q)) × (LeadsOf full_parts table o (i ∷ q) → IsTrue (has_value ps (i ∷ q)))

    abbrev ExactAt : ℕ → Cell N → Type 0
    ExactAt t c = (i : ℕ) (q : List ℕ) → (IsTrue (has_value (inside (Some c)) (i ∷ q)) → IsPartPath full_parts table t (i ∷ q)) × (IsPartPath full_parts table t (i ∷ q) → IsTrue (has_value (inside (Some c)) (i ∷ q)))

    part-exact : (o : Option Shape) (ps : Parts N) (j u : ℕ) (d : Cell N) → ExactIn o ps → IsIn (j, u) (list_of full_parts o) → part_at j ps ≡ Some d → ExactAt u d
    part-exact o ps j u d E h e i q = (
      (λ v. let l = (E j (i ∷ q)).0 (subst (λ x. IsTrue (has_value (inside x) (i ∷ q))) (sym e) v) in subst (λ t. IsPartPath full_parts table t (i ∷ q)) (one-type o j l.0 u l.1 h) l.2),
      (λ l. subst (λ x. IsTrue (has_value (inside x) (i ∷ q))) e ((E j (i ∷ q)).1 (u, h, l))),
    )

    -- a whole value is asked for: it is there, and exact
    abbrev Exact : Option (Cell N) → ℕ → Type 0
    Exact o u = IsTrue (is_some o) × ((d : Cell N) → o ≡ Some d → ExactAt u d)

    abbrev Demand : Mode → Option (Cell N) → ℕ → Type 0
    Demand by_in o u = Exact o u
    Demand by_inout o u = Exact o u
    Demand by_out o u = IsTrue (is_none o)

    exact-at : (o : Option Shape) (ps : Parts N) (n j u : ℕ) → ExactIn o ps → IsIn (j, u) (list_of full_parts o) → IsTrue (is_within_depth n table u) → Exact (part_at j ps) u
    exact-at o ps n j u E h w = ((E j []).1 (u, h, within-known table n u w), λ d e. part-exact o ps j u d E h e)

    field-demand : (ts : List ℕ) (ps : Parts N) (n j u : ℕ) → ExactIn (Some (fields ts)) ps → IsTrue (all_pass (is_within_depth n table) ts) → slice_get ts j ≡ Some u → Exact (part_at j ps) u
    field-demand ts ps n j u E w e =
        let i = contents-fields 0 j u whole ts (slice_get-map (a_value whole) ts j ∙ ap (option_map (a_value whole)) e) in
        let h = subst (λ m. IsIn (m, u) (numbered 0 ts)) (zero-add j) i.0 in
        exact-at (Some (fields ts)) ps n j u E h (every-in (is_within_depth n table) u ts w (full-named (fields ts) j u h))

    parameter-demand : (qs : List Parameter) (es : List Raised) (ps : Parts N) (n j : ℕ) (p : Parameter) → ExactIn (Some (callmessage qs es)) ps → IsTrue (all_pass (is_within_depth n table) (map (λ q. q.content) qs)) → slice_get qs j ≡ Some p → Demand p.mode (part_at j ps) p.content
    parameter-demand qs es ps n j p E w e = by p.mode (slice_get-map (λ q. parameter_content whole q.mode q.content) qs j ∙ ap (option_map (λ q. parameter_content whole q.mode q.content)) e)
      where
        filled-demand : slice_get (parameter_contents qs) j ≡ Some (a_value whole p.content) → Exact (part_at j ps) p.content
        filled-demand f =
            let i = contents-parameters 0 j p.content whole qs f in
            let h = subst (λ m. IsIn (m, p.content) (filled 0 qs)) (zero-add j) i.0 in
            exact-at (Some (callmessage qs es)) ps n j p.content E h (every-in (is_within_depth n table) p.content (map (λ q. q.content) qs) w (full-named (callmessage qs es) j p.content h))

        not-asked : slice_get (parameter_contents qs) j ≡ Some nothing → (o : Option (Cell N)) → part_at j ps ≡ o → IsTrue (is_none o)
        not-asked f None g = refl
        not-asked f (Some d) g =
            let l = (E j []).0 (ap is_some g) in
            let r = parameters-contents j 0 l.0 qs l.1 in
            absurd (true≢false (sym (ap is_value (some-injective (sym f ∙ ap (slice_get (parameter_contents qs)) (r.1 ∙ zero-add r.0) ∙ r.2)))))

        by : (m : Mode) → slice_get (parameter_contents qs) j ≡ Some (parameter_content whole m p.content) → Demand m (part_at j ps) p.content
        by by_in f = filled-demand f
        by by_inout f = filled-demand f
        by by_out f = not-asked f (part_at j ps) refl

    abbrev FieldsFull : Parts N → ℕ → Type 0
    FieldsFull ps n = (ts : List ℕ) → IsTrue (all_pass (is_within_depth n table) ts) → Fits table (exactly (map (a_value partly) ts)) ps → ((j u : ℕ) → slice_get ts j ≡ Some u → Exact (part_at j ps) u) → Fits table (exactly (field_contents ts)) ps

    abbrev ParametersFull : Parts N → ℕ → Type 0
    ParametersFull ps n = (qs : List Parameter) → IsTrue (all_pass (is_within_depth n table) (map (λ q. q.content) qs)) → Fits table (partly_parameters qs) ps → ((j : ℕ) (p : Parameter) → slice_get qs j ≡ Some p → Demand p.mode (part_at j ps) p.content) → Fits table (exactly (parameter_contents qs)) ps

    layout-full : (o : Option Shape) (k : Kind) (ps : Parts N) (n : ℕ) → IsTrue (map_or false (λ s. all_pass (is_within_depth n table) (named_types s)) o) → FieldsFull ps n → ParametersFull ps n → ExactIn o (cond (opens k) ps no_parts) → Fits table (layout_of partly o k) ps → Fits table (layout_of whole o k) ps
    layout-full (Some (fields ts)) a_record ps n w F G E h = F ts w h (λ j u e. field-demand ts ps n j u E w e)
    layout-full (Some (callmessage qs es)) (a_callmessage caller call) ps n w F G E h = G qs w h (λ j p e. parameter-demand qs es ps n j p E w e)
    layout-full o k ps n w F G E h = h

    gap-full : (m : Mode) (u : ℕ) (xs ys : List Content) (ps : Parts N) → Demand m None u → (Fits table (exactly xs) ps → Fits table (exactly ys) ps) → Fits table (exactly (parameter_content partly m u ∷ xs)) (gap ps) → Fits table (exactly (parameter_content whole m u ∷ ys)) (gap ps)
    gap-full by_in u xs ys ps D f h = not_true D.0
    gap-full by_inout u xs ys ps D f h = not_true D.0
    gap-full by_out u xs ys ps D f h = (tt, f h.1)

    part-full : (m : Mode) (u : ℕ) (xs ys : List Content) (c : Cell N) (ps : Parts N) → Demand m (Some c) u → (IsOf partly table u c → ExactAt u c → IsOf whole table u c) → (Fits table (exactly xs) ps → Fits table (exactly ys) ps) → Fits table (exactly (parameter_content partly m u ∷ xs)) (part c ps) → Fits table (exactly (parameter_content whole m u ∷ ys)) (part c ps)
    part-full by_in u xs ys c ps D e f h = (e h.0 (D.1 c refl), f h.1)
    part-full by_inout u xs ys c ps D e f h = (e h.0 (D.1 c refl), f h.1)
    part-full by_out u xs ys c ps D e f h = not_true D

    mutual
      pub exact-full : (c : Cell N) (n t : ℕ) → IsTrue (is_within_depth n table t) → IsOf partly table t c → ExactAt t c → IsOf whole table t c
      exact-full (cell m k ps) zero t w h E = not_true w
      exact-full (cell m k ps) (suc n) t w h E = (layout-full (slice_get table t) k ps n w (fields-full ps n) (parameters-full ps n) E h.0, h.1)

      fields-full : (ps : Parts N) (n : ℕ) → FieldsFull ps n
      fields-full no_parts n [] w h D = h
      fields-full no_parts n (t ∷ ts) w h D = h
      fields-full (gap ps) n [] w h D = h
      fields-full (gap ps) n (t ∷ ts) w h D = not_true (D 0 t refl).0
      fields-full (part c ps) n [] w h D = h
      fields-full (part c ps) n (t ∷ ts) w h D = let b = and-both (is_within_depth n table t) _ w in (exact-full c n t b.0 h.0 ((D 0 t refl).1 c refl), fields-full ps n ts b.1 h.1 (λ j u e. D (suc j) u e))

      parameters-full : (ps : Parts N) (n : ℕ) → ParametersFull ps n
      parameters-full no_parts n [] w h D = h
      parameters-full no_parts n (q ∷ qs) w h D = h
      parameters-full (gap ps) n [] w h D = h
      parameters-full (gap ps) n (q ∷ qs) w h D = let b = and-both (is_within_depth n table q.content) _ w in gap-full q.mode q.content _ _ ps (D 0 q refl) (λ r. parameters-full ps n qs b.1 r (λ j p e. D (suc j) p e)) h
      parameters-full (part c ps) n [] w h D = h
      parameters-full (part c ps) n (q ∷ qs) w h D = let b = and-both (is_within_depth n table q.content) _ w in part-full q.mode q.content _ _ c ps (D 0 q refl) (λ r x. exact-full c n q.content b.0 r x) (λ r. parameters-full ps n qs b.1 r (λ j p e. D (suc j) p e)) h
