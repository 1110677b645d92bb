-- Typed values of which each cell at a place with a type has a property, listed and as parts.
use Rattle.std.proofs.Common.{◌≡◌, inl, inr, ℕ, List, [], ◌∷◌, ◌++◌, map, Bool, true, false, Option, Some, None, refl, sym, subst}
use Rattle.std.specs.Prelude.{slice_get, IsTrue, ⊤}
use Rattle.herm_model.specs.Lists.{IsIn, map_or, list_of}
use Rattle.herm_model.specs.Types.{TypeTable, Shape, boolean, integer, text, polymorph, names, fields, cases, rows, inport, outport, callmessage, Mode, by_in, by_inout, by_out, Parameter}
use Rattle.herm_model.specs.Values.{a_boolean, an_integer, a_text, a_tag, Kind, a_scalar, a_record, a_variant, a_table, a_polymorph, a_callmessage, an_inport, an_outport, Cell, cell, Parts, no_parts, gap, part}
use Rattle.herm_model.specs.Typed.{Degree, whole, partly, Content, a_value, nothing, Layout, exactly, many, unfit, leaf_if, one_whole, parameter_content, layout, layout_at, IsOf, Fits}
use Rattle.herm_model.proofs.Lists.{in-append_left, in-append_right}
use Rattle.herm_journal.specs.PartTypes.{PartTypes, each, all_of, part_types, part_types_at, is_kind_of, is_kind_at, IsPlaced, ArePlaced}
use Rattle.herm_journal.specs.Messages.{AreFull}
use Rattle.herm_forms.proofs.placed.PlacedWants.{AreListed}
use Rattle.herm_system.specs.Kinds.{typed_of, typed_in, typed_list}

module _ (types : TypeTable) (P : ℕ → Kind → Type 0) where
  -- with a kind of the type
  abbrev pub With : ℕ → Kind → Type 0
  With t k = P t k × IsTrue (is_kind_at (slice_get types t) k)

  abbrev pub AllAre : List (ℕ × Kind) → Type 0
  AllAre xs = (t : ℕ) (k : Kind) → IsIn (t, k) xs → P t k

  -- a layout has parts at places of these types
  abbrev Contents : List Content → List ℕ → Type 0
  Contents [] [] = ⊤
  Contents [] (t ∷ ts) = ⊥
  Contents (x ∷ xs) [] = ⊥
  Contents (a_value d u ∷ xs) (t ∷ ts) = (u ≡ t) × Contents xs ts
  Contents (nothing ∷ xs) (t ∷ ts) = Contents xs ts

  abbrev Matches : Layout → PartTypes → Type 0
  Matches (exactly xs) (each ts) = Contents xs ts
  Matches (exactly xs) (all_of t) = ⊥
  Matches (many u) (each ts) = ⊥
  Matches (many u) (all_of t) = u ≡ t
  Matches unfit l = ⊤

  fields-match : (d : Degree) (ts : List ℕ) → Contents (map (a_value d) ts) ts
  fields-match d [] = tt
  fields-match d (t ∷ ts) = (refl, fields-match d ts)

  one-match : (d : Degree) (p : Parameter) (m : Mode) (xs : List Content) (ts : List ℕ) → Contents xs ts → Contents (parameter_content d m p.content ∷ xs) (p.content ∷ ts)
  one-match whole p by_in xs ts h = (refl, h)
  one-match whole p by_inout xs ts h = (refl, h)
  one-match whole p by_out xs ts h = h
  one-match partly p m xs ts h = (refl, h)

  parameters-match : (d : Degree) (ps : List Parameter) → Contents (map (λ (p : Parameter). parameter_content d p.mode p.content) ps) (map (λ (p : Parameter). p.content) ps)
  parameters-match d [] = tt
  parameters-match d (p ∷ ps) = one-match d p p.mode _ _ (parameters-match d ps)

  whole-match : (o : Option ℕ) → Matches (one_whole o) (each (list_of (λ t. t ∷ []) o))
  whole-match None = tt
  whole-match (Some u) = (refl, tt)

  leaf-match : (b : Bool) → Matches (leaf_if b) (each [])
  leaf-match true = tt
  leaf-match false = tt

  layout-match : (d : Degree) (s : Shape) (k : Kind) → Matches (layout d s k) (part_types s k)
  layout-match d boolean (a_scalar (a_boolean b)) = tt
  layout-match d integer (a_scalar (an_integer z)) = leaf-match _
  layout-match d text (a_scalar (a_text bytes)) = leaf-match _
  layout-match d (names count) (a_scalar (a_tag i)) = leaf-match _
  layout-match d (fields ts) a_record = fields-match d ts
  layout-match d (cases ts) (a_variant c) = whole-match (slice_get ts c)
  layout-match d (rows row key) a_table = refl
  layout-match d polymorph (a_polymorph u) = (refl, tt)
  layout-match d (callmessage ps raises) (a_callmessage caller call) = parameters-match d ps
  layout-match d (inport message declared) (an_inport port) = tt
  layout-match d (outport inport_type) (an_outport port) = tt
  layout-match d s k = tt

  kind-match : {N : Type 0} (d : Degree) (s : Shape) (k : Kind) (ps : Parts N) → Fits types (layout d s k) ps → IsTrue (is_kind_of s k)
  kind-match d boolean (a_scalar (a_boolean b)) ps h = refl
  kind-match d integer (a_scalar (an_integer z)) ps h = refl
  kind-match d text (a_scalar (a_text bytes)) ps h = refl
  kind-match d (names count) (a_scalar (a_tag i)) ps h = refl
  kind-match d (fields ts) a_record ps h = refl
  kind-match d (cases ts) (a_variant c) ps h = refl
  kind-match d (rows row key) a_table ps h = refl
  kind-match d polymorph (a_polymorph u) ps h = refl
  kind-match d (callmessage qs raises) (a_callmessage caller call) ps h = refl
  kind-match d (inport message declared) (an_inport port) ps h = refl
  kind-match d (outport inport_type) (an_outport port) ps h = refl
  kind-match d s k ps h = absurd h

  at-match : {N : Type 0} (d : Degree) (t : ℕ) (k : Kind) (ps : Parts N) → Fits types (layout_at d types t k) ps → IsTrue (is_kind_at (slice_get types t) k) × Matches (layout_at d types t k) (part_types_at (slice_get types t) k)
  at-match d t k ps h = by (slice_get types t) h
    where
      by : (o : Option Shape) → Fits types (map_or unfit (λ s. layout d s k) o) ps → IsTrue (is_kind_at o k) × Matches (map_or unfit (λ s. layout d s k) o) (part_types_at o k)
      by None h = absurd h
      by (Some s) h = (kind-match d s k ps h, layout-match d s k)

  mutual
    pub typed-placed : {N : Type 0} (d : Degree) (t : ℕ) (c : Cell N) → IsOf d types t c → AllAre (typed_of types t c) → IsPlaced types With t c
    typed-placed d t (cell n k ps) h all =
        let m = at-match d t k ps h.0 in
        ((all t k (inl refl), m.0), fits-placed (layout_at d types t k) (part_types_at (slice_get types t) k) ps m.1 h.0 (λ u j i. all u j (inr i)))

    pub fits-placed : {N : Type 0} (l : Layout) (ts : PartTypes) (ps : Parts N) → Matches l ts → Fits types l ps → AllAre (typed_in types ts ps) → ArePlaced types With ts ps
    fits-placed unfit ts ps m h all = absurd h
    fits-placed (exactly xs) (all_of t) ps m h all = absurd m
    fits-placed (many u) (each ts) ps m h all = absurd m
    fits-placed (exactly []) (each []) no_parts m h all = tt
    fits-placed (exactly []) (each []) (gap ps) m h all = absurd h
    fits-placed (exactly []) (each []) (part c ps) m h all = absurd h
    fits-placed (exactly []) (each (t ∷ ts)) ps m h all = absurd m
    fits-placed (exactly (x ∷ xs)) (each []) ps m h all = absurd m
    fits-placed (exactly (x ∷ xs)) (each (t ∷ ts)) no_parts m h all = absurd h
    fits-placed (exactly (a_value d u ∷ xs)) (each (t ∷ ts)) (gap ps) m h all = fits-placed (exactly xs) (each ts) ps m.1 h.1 all
    fits-placed (exactly (nothing ∷ xs)) (each (t ∷ ts)) (gap ps) m h all = fits-placed (exactly xs) (each ts) ps m h.1 all
    fits-placed (exactly (nothing ∷ xs)) (each (t ∷ ts)) (part c ps) m h all = absurd h
    fits-placed (exactly (a_value d u ∷ xs)) (each (t ∷ ts)) (part c ps) m h all = (
      typed-placed d t c (subst (λ t. IsOf d types t c) m.0 h.0) (λ v j i. all v j (in-append_left (v, j) (typed_of types t c) (typed_in types (each ts) ps) i)),
      fits-placed (exactly xs) (each ts) ps m.1 h.1 (λ v j i. all v j (in-append_right (v, j) (typed_of types t c) (typed_in types (each ts) ps) i)),
    )
    fits-placed (many u) (all_of t) no_parts m h all = tt
    fits-placed (many u) (all_of t) (gap ps) m h all = absurd h
    fits-placed (many u) (all_of t) (part c ps) m h all = (
      typed-placed whole t c (subst (λ t. IsOf whole types t c) m h.0) (λ v j i. all v j (in-append_left (v, j) (typed_of types t c) (typed_in types (all_of t) ps) i)),
      fits-placed (many u) (all_of t) ps m h.1 (λ v j i. all v j (in-append_right (v, j) (typed_of types t c) (typed_in types (all_of t) ps) i)),
    )

  -- and the other way
  either : (x : ℕ × Kind) (xs ys : List (ℕ × Kind)) → IsIn x (xs ++ ys) → (A : Type 0) → (IsIn x xs → A) → (IsIn x ys → A) → A
  either x [] ys h A f g = g h
  either x (z ∷ xs) ys (inl e) A f g = f (inl e)
  either x (z ∷ xs) ys (inr h) A f g = either x xs ys h A (λ i. f (inr i)) g

  mutual
    pub placed-typed : {N : Type 0} (t : ℕ) (c : Cell N) → IsPlaced types With t c → AllAre (typed_of types t c)
    placed-typed t (cell n k ps) h u j (inl e) = subst (λ (x : ℕ × Kind). P x.0 x.1) (sym e) h.0.0
    placed-typed t (cell n k ps) h u j (inr i) = are-typed (part_types_at (slice_get types t) k) ps h.1 u j i

    pub are-typed : {N : Type 0} (ts : PartTypes) (ps : Parts N) → ArePlaced types With ts ps → AllAre (typed_in types ts ps)
    are-typed (each []) ps h u j i = absurd i
    are-typed (each (t ∷ ts)) no_parts h u j i = absurd i
    are-typed (each (t ∷ ts)) (gap ps) h u j i = are-typed (each ts) ps h u j i
    are-typed (each (t ∷ ts)) (part c ps) h u j i = either (u, j) (typed_of types t c) (typed_in types (each ts) ps) i (P u j) (λ m. placed-typed t c h.0 u j m) (λ m. are-typed (each ts) ps h.1 u j m)
    are-typed (all_of t) no_parts h u j i = absurd i
    are-typed (all_of t) (gap ps) h u j i = are-typed (all_of t) ps h u j i
    are-typed (all_of t) (part c ps) h u j i = either (u, j) (typed_of types t c) (typed_in types (all_of t) ps) i (P u j) (λ m. placed-typed t c h.0 u j m) (λ m. are-typed (all_of t) ps h.1 u j m)

  -- variables, and rows
  pub variables-placed : {N : Type 0} (ts : List ℕ) (ps : Parts N) → Fits types (exactly (map (a_value partly) ts)) ps → AllAre (typed_in types (each ts) ps) → ArePlaced types With (each ts) ps
  variables-placed ts ps h all = fits-placed (exactly (map (a_value partly) ts)) (each ts) ps (fields-match partly ts) h all

  pub rows-placed : {N : Type 0} (t : ℕ) (ps : Parts N) → Fits types (many t) ps → AllAre (typed_in types (all_of t) ps) → ArePlaced types With (all_of t) ps
  rows-placed t ps h all = fits-placed (many t) (all_of t) ps refl h all

  -- values by a list of types
  pub list-placed : {N : Type 0} (ts : List ℕ) (cs : List (Cell N)) → AreFull types ts cs → AllAre (typed_list types ts cs) → AreListed types With ts cs
  list-placed [] cs h all = tt
  list-placed (t ∷ ts) [] h all = tt
  list-placed (t ∷ ts) (c ∷ cs) h all = (
    typed-placed whole t c h.0 (λ u j i. all u j (in-append_left (u, j) (typed_of types t c) (typed_list types ts cs) i)),
    list-placed ts cs h.1 (λ u j i. all u j (in-append_right (u, j) (typed_of types t c) (typed_list types ts cs) i)),
  )

  pub list-typed : {N : Type 0} (ts : List ℕ) (cs : List (Cell N)) → AreListed types With ts cs → AllAre (typed_list types ts cs)
  list-typed [] cs h u j i = absurd i
  list-typed (t ∷ ts) [] h u j i = absurd i
  list-typed (t ∷ ts) (c ∷ cs) h u j i = either (u, j) (typed_of types t c) (typed_list types ts cs) i (P u j) (λ m. placed-typed t c h.0 u j m) (λ m. list-typed ts cs h.1 u j m)
