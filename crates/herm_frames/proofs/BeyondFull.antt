-- What a value holds beyond a full one is what stands at out parameters.
use Rattle.std.proofs.Common.{◌≡◌, ◌<◌, ℕ, zero, suc, ◌+◌, List, [], ◌∷◌, ◌++◌, map, flat_map, Bool, true, false, cond, not, ◌&&◌, ◌||◌, nat_eq, Option, Some, None, slice_get, refl, sym, ap, ap₂, subst, ◌∙◌, append_assoc, append-nil, arith}
use Rattle.std.proofs.lemmas.Bool.{eq-eqb, ne_eqb}
use Rattle.herm_model.specs.Lists.{any_pass, map_or, numbered}
use Rattle.herm_model.specs.Paths.{Path, same_path}
use Rattle.herm_model.specs.Types.{TypeTable, Shape, boolean, integer, text, polymorph, names, fields, cases, rows, inport, outport, callmessage, Mode, by_in, by_inout, by_out, Parameter, Raised, if_filled, filled, full_parts, held_parts, part_paths_within}
use Rattle.herm_model.specs.Finalising.{excess_from}
use Rattle.herm_forms.specs.Excess.{below}
use Rattle.herm_frames.specs.Excesses.{if_here, if_here_within, of_mode, beyond_parameters, beyond_fields, beyond_parts, beyond}

pub and-true : (b : Bool) → (b && true) ≡ b
and-true true = refl
and-true false = refl

and-false : (b : Bool) → (b && false) ≡ false
and-false true = refl
and-false false = refl

or-false : (b : Bool) → (b || false) ≡ b
or-false true = refl
or-false false = refl

or-more : (b all a c : Bool) → all ≡ (a || c) → (b || all) ≡ ((b || a) || c)
or-more true all a c h = refl
or-more false all a c h = h

any-joined : {X : Type 0} (test : X → Bool) (xs ys : List X) → any_pass test (xs ++ ys) ≡ (any_pass test xs || any_pass test ys)
any-joined test [] ys = refl
any-joined test (x ∷ xs) ys = or-more (test x) (any_pass test (xs ++ ys)) (any_pass test xs) (any_pass test ys) (any-joined test xs ys)

map-joined : {X Y : Type 0} (f : X → Y) (xs ys : List X) → map f (xs ++ ys) ≡ map f xs ++ map f ys
map-joined f [] ys = refl
map-joined f (x ∷ xs) ys = ap (f x ∷◌) (map-joined f xs ys)

nothing-mapped : {X Y : Type 0} (f : X → List Y) (xs : List X) → ((x : X) → f x ≡ []) → flat_map f xs ≡ []
nothing-mapped f [] h = refl
nothing-mapped f (x ∷ xs) h = ap₂ ◌++◌ (h x) (nothing-mapped f xs h)

-- paths that begin with a step
any-stepped : (b : Bool) (i k : ℕ) (r : Path) (qs : List Path) → nat_eq i k ≡ b → any_pass (same_path (i ∷ r)) (map (k ∷◌) qs) ≡ (b && any_pass (same_path r) qs)
any-stepped b i k r [] is = sym (and-false b)
any-stepped b i k r (q ∷ qs) is =
    ap₂ ◌||◌ (ap (λ e. e && same_path r q) is) (any-stepped b i k r qs is)
    ∙ by b
  where
    by : (b : Bool) → ((b && same_path r q) || (b && any_pass (same_path r) qs)) ≡ (b && (same_path r q || any_pass (same_path r) qs))
    by true = refl
    by false = refl

module _ (f : ℕ → List Path) where
  abbrev stepped : ℕ × ℕ → List Path
  stepped part = map (part.0 ∷◌) (f part.1)

  field-later : (i k : ℕ) (r : Path) (ts : List ℕ) → i < k → any_pass (same_path (i ∷ r)) (flat_map stepped (numbered k ts)) ≡ false
  field-later i k r [] less = refl
  field-later i k r (t ∷ ts) less =
      any-joined (same_path (i ∷ r)) (stepped (k, t)) (flat_map stepped (numbered (suc k) ts))
      ∙ ap₂ ◌||◌ (any-stepped false i k r (f t) (ne_eqb i k (λ e. omega (arith, e, less)))) (field-later i (suc k) r ts (omega (arith, less)))

  field-paths : (k j i : ℕ) (r : Path) (ts : List ℕ) (u : ℕ) → i ≡ k + j → slice_get ts j ≡ Some u → any_pass (same_path (i ∷ r)) (flat_map stepped (numbered k ts)) ≡ any_pass (same_path r) (f u)
  field-paths k j i r [] u is at = cc
  field-paths k zero i r (t ∷ ts) u is at =
      any-joined (same_path (i ∷ r)) (stepped (k, t)) (flat_map stepped (numbered (suc k) ts))
      ∙ ap₂ ◌||◌ (any-stepped true i k r (f t) (eq-eqb i k (omega (arith, is)))) (field-later i (suc k) r ts (omega (arith, is)))
      ∙ or-false (any_pass (same_path r) (f t))
      ∙ ap (λ v. any_pass (same_path r) (f v)) (let e : t ≡ u = cc (at) in e)
  field-paths k (suc j) i r (t ∷ ts) u is at =
      any-joined (same_path (i ∷ r)) (stepped (k, t)) (flat_map stepped (numbered (suc k) ts))
      ∙ ap₂ ◌||◌ (any-stepped false i k r (f t) (ne_eqb i k (λ e. omega (arith, e, is)))) (field-paths (suc k) j i r ts u (omega (arith, is)) at)

  -- one filled parameter more
  param-more : (b : Bool) (i k : ℕ) (r : Path) (p : Parameter) (ps : List Parameter) → nat_eq i k ≡ b → any_pass (same_path (i ∷ r)) (stepped (k, p.content) ++ flat_map stepped (filled (suc k) ps)) ≡ ((b && any_pass (same_path r) (f p.content)) || any_pass (same_path (i ∷ r)) (flat_map stepped (filled (suc k) ps)))
  param-more b i k r p ps is =
      any-joined (same_path (i ∷ r)) (stepped (k, p.content)) (flat_map stepped (filled (suc k) ps))
      ∙ ap (λ e. e || any_pass (same_path (i ∷ r)) (flat_map stepped (filled (suc k) ps))) (any-stepped b i k r (f p.content) is)

  other-param : (i k : ℕ) (r : Path) (p : Parameter) (ps : List Parameter) (m : Mode) (b : Bool) → nat_eq i k ≡ false → any_pass (same_path (i ∷ r)) (flat_map stepped (filled (suc k) ps)) ≡ b
      → any_pass (same_path (i ∷ r)) (flat_map stepped (if_filled m (k, p.content) (filled (suc k) ps))) ≡ b
  other-param i k r p ps by_in b other rest = param-more false i k r p ps other ∙ rest
  other-param i k r p ps by_inout b other rest = param-more false i k r p ps other ∙ rest
  other-param i k r p ps by_out b other rest = rest

  param-later : (i k : ℕ) (r : Path) (ps : List Parameter) → i < k → any_pass (same_path (i ∷ r)) (flat_map stepped (filled k ps)) ≡ false
  param-later i k r [] less = refl
  param-later i k r (p ∷ ps) less = other-param i k r p ps p.mode false (ne_eqb i k (λ e. omega (arith, e, less))) (param-later i (suc k) r ps (omega (arith, less)))

  -- whether a path that begins with a parameter is full
  abbrev in_param : Path → ℕ → Mode → Bool
  in_param r t by_in = any_pass (same_path r) (f t)
  in_param r t by_inout = any_pass (same_path r) (f t)
  in_param r t by_out = false

  this-param : (i k : ℕ) (r : Path) (p : Parameter) (ps : List Parameter) (m : Mode) → nat_eq i k ≡ true → any_pass (same_path (i ∷ r)) (flat_map stepped (filled (suc k) ps)) ≡ false
      → any_pass (same_path (i ∷ r)) (flat_map stepped (if_filled m (k, p.content) (filled (suc k) ps))) ≡ in_param r p.content m
  this-param i k r p ps by_in this rest = param-more true i k r p ps this ∙ ap (λ b. any_pass (same_path r) (f p.content) || b) rest ∙ or-false (any_pass (same_path r) (f p.content))
  this-param i k r p ps by_inout this rest = param-more true i k r p ps this ∙ ap (λ b. any_pass (same_path r) (f p.content) || b) rest ∙ or-false (any_pass (same_path r) (f p.content))
  this-param i k r p ps by_out this rest = rest

  param-paths : (k j i : ℕ) (r : Path) (ps : List Parameter) (x : Parameter) → i ≡ k + j → slice_get ps j ≡ Some x → any_pass (same_path (i ∷ r)) (flat_map stepped (filled k ps)) ≡ in_param r x.content x.mode
  param-paths k j i r [] x is at = cc
  param-paths k zero i r (p ∷ ps) x is at =
      this-param i k r p ps p.mode (eq-eqb i k (omega (arith, is))) (param-later i (suc k) r ps (omega (arith, is)))
      ∙ ap (λ (y : Parameter). in_param r y.content y.mode) (let e : p ≡ x = cc (at) in e)
  param-paths k (suc j) i r (p ∷ ps) x is at = other-param i k r p ps p.mode (in_param r x.content x.mode) (ne_eqb i k (λ e. omega (arith, e, is))) (param-paths (suc k) j i r ps x (omega (arith, is)) at)

module _ (here left : Path → Bool) (x : Path) (table : TypeTable) (closed : (q r : Path) → here (x ++ q) ≡ false → here ((x ++ q) ++ r) ≡ false) where
  abbrev parts_excess : ℕ → Path → Shape → List Path
  parts_excess n p s = flat_map (λ part. excess_from left n table (p ++ part.0 ∷ []) part.1) (held_parts s)

  in-parts : (n : ℕ) (p : Path) (o : Option Shape) → ((part : ℕ × ℕ) → excess_from left n table (p ++ part.0 ∷ []) part.1 ≡ []) → map_or [] (parts_excess n p) o ≡ []
  in-parts n p None h = refl
  in-parts n p (Some s) h = nothing-mapped (λ part. excess_from left n table (p ++ part.0 ∷ []) part.1) (held_parts s) h

  pub nothing-left : (n : ℕ) (p : Path) (t : ℕ) → ((r : Path) → left (p ++ r) ≡ false) → excess_from left n table p t ≡ []
  nothing-left zero p t h = refl
  nothing-left (suc n) p t h =
      ap (λ b. cond b (p ∷ []) (map_or [] (parts_excess n p) (slice_get table t))) (ap left (sym (append-nil p)) ∙ h [])
      ∙ in-parts n p (slice_get table t) (λ part. nothing-left n (p ++ part.0 ∷ []) part.1 (λ r. ap left (append_assoc p (part.0 ∷ []) r) ∙ h (part.0 ∷ r)))

  -- where all that is there is left, nothing below it is looked at
  itself-left : (n : ℕ) (q : Path) (t : ℕ) → ((r : Path) → left (0 ∷ (q ++ r)) ≡ here (x ++ (q ++ r))) → map (below x) (excess_from left n table (0 ∷ q) t) ≡ if_here_within here n (x ++ q)
  itself-left zero q t h = refl
  itself-left (suc n) q t h = by (here (x ++ q)) refl
    where
      first : left (0 ∷ q) ≡ here (x ++ q)
      first = ap (λ p. left (0 ∷ p)) (sym (append-nil q)) ∙ h [] ∙ ap (λ p. here (x ++ p)) (append-nil q)

      by : (b : Bool) → here (x ++ q) ≡ b → map (below x) (excess_from left (suc n) table (0 ∷ q) t) ≡ if_here here (x ++ q)
      by true is =
          ap (λ b. map (below x) (cond b ((0 ∷ q) ∷ []) (map_or [] (parts_excess n (0 ∷ q)) (slice_get table t)))) (first ∙ is)
          ∙ ap (λ b. cond b ((x ++ q) ∷ []) []) (sym is)
      by false is =
          ap (map (below x)) (nothing-left (suc n) (0 ∷ q) t (λ r. h r ∙ ap here (sym (append_assoc x q r)) ∙ closed q r is))
          ∙ ap (λ b. cond b ((x ++ q) ∷ []) []) (sym is)

  abbrev paths : ℕ → ℕ → List Path
  paths n t = part_paths_within full_parts n table t

  -- of a path at which the value of this type is full, what is left at it and below it
  abbrev Known : ℕ → Path → ℕ → Type 0
  Known n q t = (r : Path) → left (0 ∷ (q ++ r)) ≡ (here (x ++ (q ++ r)) && not (any_pass (same_path r) (paths n t)))

  -- the same of a part, by whether paths that begin with it are full
  part-known : (n : ℕ) (q : Path) (t i : ℕ) (full : Path → Bool) → Known n q t → ((r : Path) → any_pass (same_path (i ∷ r)) (paths n t) ≡ full r) → (r : Path) → left (0 ∷ ((q ++ i ∷ []) ++ r)) ≡ (here (x ++ ((q ++ i ∷ []) ++ r)) && not (full r))
  part-known n q t i full h same r =
      ap (λ p. left (0 ∷ p)) (append_assoc q (i ∷ []) r)
      ∙ h (i ∷ r)
      ∙ ap₂ (λ p b. here (x ++ p) && not b) (sym (append_assoc q (i ∷ []) r)) (same r)

  -- all fields from a place on
  each-field : (n : ℕ) (q : Path) (k : ℕ) (ts : List ℕ) → ((j u : ℕ) → slice_get ts j ≡ Some u → map (below x) (excess_from left n table (0 ∷ (q ++ (k + j) ∷ [])) u) ≡ beyond here table n (x ++ (q ++ (k + j) ∷ [])) u)
      → map (below x) (flat_map (λ part. excess_from left n table ((0 ∷ q) ++ part.0 ∷ []) part.1) (numbered k ts)) ≡ beyond_fields (beyond here table n) (x ++ q) k ts
  each-field n q k [] h = refl
  each-field n q k (t ∷ ts) h =
      map-joined (below x) (excess_from left n table (0 ∷ (q ++ k ∷ [])) t) (flat_map (λ part. excess_from left n table ((0 ∷ q) ++ part.0 ∷ []) part.1) (numbered (suc k) ts))
      ∙ ap₂ ◌++◌
      (subst (λ i. map (below x) (excess_from left n table (0 ∷ (q ++ i ∷ [])) t) ≡ beyond here table n (x ++ (q ++ i ∷ [])) t) (let e : k + 0 ≡ k = omega arith in e) (h 0 t refl) ∙ ap (λ p. beyond here table n p t) (sym (append_assoc x q (k ∷ []))))
      (each-field n q (suc k) ts (λ j u at. subst (λ i. map (below x) (excess_from left n table (0 ∷ (q ++ i ∷ [])) u) ≡ beyond here table n (x ++ (q ++ i ∷ [])) u) (let e : k + suc j ≡ suc k + j = omega arith in e) (h (suc j) u at)))

  -- all parameters from a place on
  abbrev of_param : ℕ → Path → Parameter → List Path
  of_param n p y = of_mode (beyond here table n p y.content) (if_here_within here n p) y.mode

  each-param : (n : ℕ) (q : Path) (k : ℕ) (ps : List Parameter) → ((j : ℕ) (y : Parameter) → slice_get ps j ≡ Some y → map (below x) (excess_from left n table (0 ∷ (q ++ (k + j) ∷ [])) y.content) ≡ of_param n (x ++ (q ++ (k + j) ∷ [])) y)
      → map (below x) (flat_map (λ part. excess_from left n table ((0 ∷ q) ++ part.0 ∷ []) part.1) (numbered k (map (λ p. p.content) ps))) ≡ beyond_parameters here n (beyond here table n) (x ++ q) k ps
  each-param n q k [] h = refl
  each-param n q k (y ∷ ps) h =
      map-joined (below x) (excess_from left n table (0 ∷ (q ++ k ∷ [])) y.content) (flat_map (λ part. excess_from left n table ((0 ∷ q) ++ part.0 ∷ []) part.1) (numbered (suc k) (map (λ p. p.content) ps)))
      ∙ ap₂ ◌++◌
      (subst (λ i. map (below x) (excess_from left n table (0 ∷ (q ++ i ∷ [])) y.content) ≡ of_param n (x ++ (q ++ i ∷ [])) y) (let e : k + 0 ≡ k = omega arith in e) (h 0 y refl) ∙ ap (λ p. of_param n p y) (sym (append_assoc x q (k ∷ []))))
      (each-param n q (suc k) ps (λ j z at. subst (λ i. map (below x) (excess_from left n table (0 ∷ (q ++ i ∷ [])) z.content) ≡ of_param n (x ++ (q ++ i ∷ [])) z) (let e : k + suc j ≡ suc k + j = omega arith in e) (h (suc j) z at)))

  abbrev Goes : ℕ → Path → Type 0
  Goes n q = (i u : ℕ) → Known n (q ++ i ∷ []) u → map (below x) (excess_from left n table (0 ∷ (q ++ i ∷ [])) u) ≡ beyond here table n (x ++ (q ++ i ∷ [])) u

  by-mode : (n : ℕ) (q : Path) (i u : ℕ) (m : Mode) → Goes n q → ((r : Path) → left (0 ∷ ((q ++ i ∷ []) ++ r)) ≡ (here (x ++ ((q ++ i ∷ []) ++ r)) && not (in_param (paths n) r u m)))
      → map (below x) (excess_from left n table (0 ∷ (q ++ i ∷ [])) u) ≡ of_mode (beyond here table n (x ++ (q ++ i ∷ [])) u) (if_here_within here n (x ++ (q ++ i ∷ []))) m
  by-mode n q i u by_in again known = again i u known
  by-mode n q i u by_inout again known = again i u known
  by-mode n q i u by_out again known = itself-left n (q ++ i ∷ []) u (λ r. known r ∙ and-true (here (x ++ ((q ++ i ∷ []) ++ r))))

  abbrev paths_in : ℕ → Option Shape → List Path
  paths_in n o = map_or [] (λ s. [] ∷ flat_map (λ part. map (part.0 ∷◌) (paths n part.1)) (full_parts s)) o

  by-shape : (n : ℕ) (q : Path) (t : ℕ) (s : Shape) → slice_get table t ≡ Some s → Known (suc n) q t → Goes n q → map (below x) (parts_excess n (0 ∷ q) s) ≡ beyond_parts here n (beyond here table n) (x ++ q) s
  by-shape n q t (fields ts) is h again =
      each-field n q 0 ts (λ j u at. again (0 + j) u (part-known (suc n) q t (0 + j) (λ r. any_pass (same_path r) (paths n u)) h
      (λ r. ap (λ o. any_pass (same_path ((0 + j) ∷ r)) (paths_in n o)) is ∙ field-paths (paths n) 0 j (0 + j) r ts u refl at)))
  by-shape n q t (callmessage ps raises) is h again =
      each-param n q 0 ps (λ j y at. by-mode n q (0 + j) y.content y.mode again (part-known (suc n) q t (0 + j) (λ r. in_param (paths n) r y.content y.mode) h
      (λ r. ap (λ o. any_pass (same_path ((0 + j) ∷ r)) (paths_in n o)) is ∙ param-paths (paths n) 0 j (0 + j) r ps y refl at)))
  by-shape n q t boolean is h again = refl
  by-shape n q t integer is h again = refl
  by-shape n q t text is h again = refl
  by-shape n q t polymorph is h again = refl
  by-shape n q t (names count) is h again = refl
  by-shape n q t (cases ts) is h again = refl
  by-shape n q t (rows row key) is h again = refl
  by-shape n q t (inport message declared) is h again = refl
  by-shape n q t (outport port) is h again = refl

  first-known : (n : ℕ) (q : Path) (t : ℕ) (o : Option Shape) → slice_get table t ≡ o → Known (suc n) q t → left (0 ∷ q) ≡ (here (x ++ q) && not (any_pass (same_path []) (paths_in n o)))
  first-known n q t o is h = ap (λ p. left (0 ∷ p)) (sym (append-nil q)) ∙ h [] ∙ ap₂ (λ p o. here (x ++ p) && not (any_pass (same_path []) (paths_in n o))) (append-nil q) is

  one-below : (b : Bool) (q : Path) → map (below x) (cond b ((0 ∷ q) ∷ []) []) ≡ cond b ((x ++ q) ∷ []) []
  one-below true q = refl
  one-below false q = refl

  by-type : (n : ℕ) (q : Path) (t : ℕ) (o : Option Shape) → slice_get table t ≡ o → Known (suc n) q t → Goes n q → map (below x) (excess_from left (suc n) table (0 ∷ q) t) ≡ beyond here table (suc n) (x ++ q) t
  by-type n q t None is h again =
      ap₂ (λ b o. map (below x) (cond b ((0 ∷ q) ∷ []) (map_or [] (parts_excess n (0 ∷ q)) o))) (first-known n q t None is h ∙ and-true (here (x ++ q))) is
      ∙ one-below (here (x ++ q)) q
      ∙ ap (map_or (if_here here (x ++ q)) (beyond_parts here n (beyond here table n) (x ++ q))) (sym is)
  by-type n q t (Some s) is h again =
      ap₂ (λ b o. map (below x) (cond b ((0 ∷ q) ∷ []) (map_or [] (parts_excess n (0 ∷ q)) o))) (first-known n q t (Some s) is h ∙ and-false (here (x ++ q))) is
      ∙ by-shape n q t s is h again
      ∙ ap (map_or (if_here here (x ++ q)) (beyond_parts here n (beyond here table n) (x ++ q))) (sym is)

  pub beyond-excess : (n : ℕ) (q : Path) (t : ℕ) → Known n q t → map (below x) (excess_from left n table (0 ∷ q) t) ≡ beyond here table n (x ++ q) t
  beyond-excess zero q t h = refl
  beyond-excess (suc n) q t h = by-type n q t (slice_get table t) refl h (λ i u k. beyond-excess n (q ++ i ∷ []) u k)
