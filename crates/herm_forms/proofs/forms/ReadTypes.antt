-- What is read at a path, which may pass through components, has the path's type to the degree of the value that it is read
-- in; and the rows of a table are full.
use Rattle.std.proofs.Common.{◌≡◌, ℕ, zero, suc, List, [], ◌∷◌, map, Bool, true, false, cond, Option, Some, None, option_map, refl, sym, ap, ◌∙◌, subst, subst₂, true≢false}
use Rattle.std.proofs.lemmas.Bool.{eq-eqb}
use Rattle.std.specs.Prelude.{slice_get}
use Rattle.herm_model.specs.Lists.{map_or}
use Rattle.herm_model.specs.Paths.{Path}
use Rattle.herm_model.specs.Types.{Mode, by_in, by_inout, by_out, Parameter, TypeTable, Shape, fields, cases, callmessage, rows, part_type, part_of, type_below, type_at, is_cases, is_variant}
use Rattle.herm_model.specs.Values.{Kind, a_scalar, a_record, a_variant, a_table, a_polymorph, a_callmessage, an_inport, an_outport, Cell, cell, Parts, no_parts, gap, part, part_at, parts_of, opens, inside, behind_gaps, readable_of, read_at}
use Rattle.herm_model.specs.FactsOfValues.{is_component}
use Rattle.herm_model.specs.Typed.{Degree, whole, partly, Content, a_value, nothing, many, unfit, one_whole, parameter_content, layout, Fits, IsOf, HasType, HaveTypes, IsFull}
use Rattle.herm_model.proofs.Lists.{slice_get-map}
use Rattle.herm_model.proofs.Options.{none-not_some, some-injective, map-some}
use Rattle.herm_model.proofs.NothingThere.{none-read}
use Rattle.herm_model.proofs.Places.{read_below, read-below}
use Rattle.herm_model.proofs.Typing.{full-typed}
use Rattle.herm_model.proofs.FullFacts.{type_of, degree_of, at-fits}
use Rattle.herm_forms.proofs.TypedReading.{typed-part}

abbrev is_value : Content → Bool
is_value (a_value d u) = true
is_value nothing = false

module _ {N : Type 0} where
  -- of a variant's parts only the place of its component has anything
  pub behind-only : (m j : ℕ) (content d : Cell N) → part_at j (behind_gaps m (part content no_parts)) ≡ Some d → (j ≡ m) × (content ≡ d)
  behind-only zero zero content d h = (refl, some-injective h)
  behind-only zero (suc j) content d h = none-not_some h
  behind-only (suc m) zero content d h = none-not_some h
  behind-only (suc m) (suc j) content d h = let r = behind-only m j content d h in (ap suc r.0, r.1)

  pub behind-there : (m : ℕ) (content : Cell N) → part_at m (behind_gaps m (part content no_parts)) ≡ Some content
  behind-there zero content = refl
  behind-there (suc m) content = behind-there m content

  pub read-nothing : (r : Path) → read_below {N = N} r None ≡ None
  read-nothing [] = refl
  read-nothing (j ∷ r) = none-read (j ∷ r)

module _ (N : Type 0) (table : TypeTable) where
  -- the one part of a variant, in a type of components
  pub record Component (t m : ℕ) (qs : Parts N) : Type 0 where
    pub types : List ℕ
    pub found : slice_get table t ≡ Some (cases types)
    pub type : ℕ
    pub at : slice_get types m ≡ Some type
    pub content : Cell N
    pub alone : qs ≡ part content no_parts
    pub whole' : IsOf whole table type content

  one-part : (t m : ℕ) (ts : List ℕ) (qs : Parts N) → slice_get table t ≡ Some (cases ts) → (o : Option ℕ) → slice_get ts m ≡ o → Fits table (one_whole o) qs → Component t m qs
  one-part t m ts qs found None at h = absurd h
  one-part t m ts no_parts found (Some w) at h = absurd h
  one-part t m ts (gap qs) found (Some w) at h = absurd h.0
  one-part t m ts (part content no_parts) found (Some w) at h = record { types = ts; found = found; type = w; at = at; content = content; alone = refl; whole' = h.0 }
  one-part t m ts (part content (gap qs)) found (Some w) at h = absurd h.1
  one-part t m ts (part content (part d qs)) found (Some w) at h = absurd h.1

  shape-component : (d : Degree) (t m : ℕ) (qs : Parts N) (s : Shape) → slice_get table t ≡ Some s → Fits table (layout d s (a_variant m)) qs → Component t m qs
  shape-component d t m qs (cases ts) found h = one-part t m ts qs found (slice_get ts m) refl h
  shape-component d t m qs s found h = absurd h

  pub variant-component : (d : Degree) (t m : ℕ) (n : N) (qs : Parts N) → IsOf d table t (cell n (a_variant m) qs) → Component t m qs
  variant-component d t m n qs h = by (slice_get table t) refl h.0
    where
      by : (o : Option Shape) → slice_get table t ≡ o → Fits table (elim o [ None ↦ unfit | Some s ↦ layout d s (a_variant m) ]) qs → Component t m qs
      by None found h = absurd h
      by (Some s) found h = shape-component d t m qs s found h

  value-of : (g e : Degree) (t u : ℕ) (d : Cell N) → a_value g t ≡ a_value e u → IsOf e table u d → IsOf g table t d
  value-of g e t u d is h = subst₂ (λ g u. IsOf g table u d) (sym (ap degree_of is)) (sym (ap type_of is)) h

  parameter-of : (g e : Degree) (m : Mode) (t u : ℕ) (d : Cell N) → parameter_content g m t ≡ a_value e u → IsOf e table u d → IsOf g table t d
  parameter-of whole e by_in t u d is h = value-of whole e t u d is h
  parameter-of whole e by_inout t u d is h = value-of whole e t u d is h
  parameter-of whole e by_out t u d is h = absurd (true≢false (sym (ap is_value is)))
  parameter-of partly e m t u d is h = value-of partly e t u d is h

  full-of : (g : Degree) (t : ℕ) (c : Cell N) → IsFull table t c → IsOf g table t c
  full-of whole t c h = h
  full-of partly t c h = full-typed table t c h

  -- a part of a record or callmessage of this shape, to the degree of the whole
  abbrev ShapePart : Degree → Shape → ℕ → Cell N → Type 0
  ShapePart g s j d = (u : ℕ) × (part_type s j ≡ Some u) × (is_cases s ≡ false) × IsOf g table u d

  record-part : (g : Degree) (j : ℕ) (qs : Parts N) (d : Cell N) (s : Shape) → Fits table (layout g s a_record) qs → part_at j qs ≡ Some d → ShapePart g s j d
  record-part g j qs d (fields ts) h at =
      let a = at-fits table (map (a_value g) ts) qs j d h at in
      let v = map-some (a_value g) (slice_get ts j) (a_value a.0 a.1) (sym (slice_get-map (a_value g) ts j) ∙ a.2) in
      (v.0, v.1, refl, value-of g a.0 v.0 a.1 d v.2 a.3)
  record-part g j qs d s h at = absurd h

  message-part : (g : Degree) (x y j : ℕ) (qs : Parts N) (d : Cell N) (s : Shape) → Fits table (layout g s (a_callmessage x y)) qs → part_at j qs ≡ Some d → ShapePart g s j d
  message-part g x y j qs d (callmessage ps raises) h at =
      let content : Parameter → Content = λ p. parameter_content g p.mode p.content in
      let a = at-fits table (map content ps) qs j d h at in
      let v = map-some content (slice_get ps j) (a_value a.0 a.1) (sym (slice_get-map content ps j) ∙ a.2) in
      let p : Parameter = v.0 in
      (p.content, ap (option_map (λ (p : Parameter). p.content)) v.1, refl, parameter-of g a.0 p.mode p.content a.1 d v.2 a.3)
  message-part g x y j qs d s h at = absurd h

  -- A part that is read, of a value of a type to this degree, has the type of its place to the same degree. Of a variant it is
  -- the component that is there, and full; else it is a part of the cell itself.
  pub record ReadPart (g : Degree) (t j : ℕ) (c d : Cell N) : Type 0 where
    pub type : ℕ
    pub there : part_of table (Some t) j ≡ Some type
    pub typed : IsOf g table type d
    pub component : is_variant table (Some t) ≡ true → (is_component (Some c) j ≡ true) × IsFull table type d
    pub direct : is_variant table (Some t) ≡ false → part_at j (inside (Some c)) ≡ Some d

  open-part : (g : Degree) (t j : ℕ) (n : N) (k : Kind) (qs : Parts N) (d : Cell N) → opens k ≡ true → ((s : Shape) → Fits table (layout g s k) qs → ShapePart g s j d) → part_at j qs ≡ Some d
      → (o : Option Shape) → slice_get table t ≡ o → Fits table (map_or unfit (λ s. layout g s k) o) qs → ReadPart g t j (cell n k qs) d
  open-part g t j n k qs d is by at None found h = absurd h
  open-part g t j n k qs d is by at (Some s) found h =
      let x = by s h in
      let closed : is_variant table (Some t) ≡ false = ap (map_or false (λ s. is_cases s)) found ∙ x.2 in
      record {
        type = x.0;
        there = ap (map_or None (λ s. part_type s j)) found ∙ x.1;
        typed = x.3;
        component = λ v. absurd (true≢false (sym v ∙ closed));
        direct = λ v. ap (λ b. part_at j (cond b qs no_parts)) is ∙ at;
      }

  case-part : (g : Degree) (t j m : ℕ) (n : N) (qs : Parts N) (d : Cell N) → IsOf g table t (cell n (a_variant m) qs) → part_at j (behind_gaps m qs) ≡ Some d → ReadPart g t j (cell n (a_variant m) qs) d
  case-part g t j m n qs d h at =
      let x = variant-component g t m n qs h in
      let only = behind-only m j x.content d (subst (λ qs. part_at j (behind_gaps m qs) ≡ Some d) x.alone at) in
      let full' : IsFull table x.type d = subst (IsFull table x.type) only.1 x.whole' in
      let opens' : is_variant table (Some t) ≡ true = ap (map_or false (λ s. is_cases s)) x.found in
      record {
        type = x.type;
        there = ap (map_or None (λ s. part_type s j)) x.found ∙ ap (slice_get x.types) only.0 ∙ x.at;
        typed = full-of g x.type d full';
        component = λ v. (eq-eqb m j (sym only.0), full');
        direct = λ v. absurd (true≢false (sym opens' ∙ v));
      }

  pub readable-part : (g : Degree) (t j : ℕ) (c d : Cell N) → IsOf g table t c → part_at j (readable_of (Some c)) ≡ Some d → ReadPart g t j c d
  readable-part g t j (cell n a_record qs) d h at = open-part g t j n a_record qs d refl (λ s h. record-part g j qs d s h at) at (slice_get table t) refl h.0
  readable-part g t j (cell n (a_callmessage x y) qs) d h at = open-part g t j n (a_callmessage x y) qs d refl (λ s h. message-part g x y j qs d s h at) at (slice_get table t) refl h.0
  readable-part g t j (cell n (a_variant m) qs) d h at = case-part g t j m n qs d h at
  readable-part g t j (cell n (a_scalar x) qs) d h at = none-not_some at
  readable-part g t j (cell n a_table qs) d h at = none-not_some at
  readable-part g t j (cell n (a_polymorph x) qs) d h at = none-not_some at
  readable-part g t j (cell n (an_inport x) qs) d h at = none-not_some at
  readable-part g t j (cell n (an_outport x) qs) d h at = none-not_some at

  -- what is read below a cell of a type
  below-typed : (g : Degree) (r : Path) (t : ℕ) (c d : Cell N) → IsOf g table t c → read_below r (Some c) ≡ Some d → (u : ℕ) × (type_below table (Some t) r ≡ Some u) × IsOf g table u d
  below-typed g [] t c d h at = (t, refl, subst (IsOf g table t) (some-injective at) h)
  below-typed g (j ∷ r) t c d h at = by (part_at j (readable_of (Some c))) refl (sym (read-below j r (readable_of (Some c))) ∙ at) (below-typed g r)
    where
      by : (o : Option (Cell N)) → part_at j (readable_of (Some c)) ≡ o → read_below r o ≡ Some d → ((t : ℕ) (c d : Cell N) → IsOf g table t c → read_below r (Some c) ≡ Some d → (u : ℕ) × (type_below table (Some t) r ≡ Some u) × IsOf g table u d)
          → (u : ℕ) × (type_below table (part_of table (Some t) j) r ≡ Some u) × IsOf g table u d
      by None e at again = none-not_some (sym (read-nothing r) ∙ at)
      by (Some c') e at again = let x = readable-part g t j c c' h e in let y = again x.type c' d x.typed at in (y.0, ap (λ o. type_below table o r) x.there ∙ y.1, y.2)

  pub cell-typed : (g : Degree) (r : Path) (t u : ℕ) (c d : Cell N) → IsOf g table t c → read_below r (Some c) ≡ Some d → type_below table (Some t) r ≡ Some u → IsOf g table u d
  cell-typed g r t u c d h at type = let x = below-typed g r t c d h at in subst (λ u. IsOf g table u d) (some-injective (sym x.1 ∙ type)) x.2

  -- so of variables
  pub type-read : (variables : List ℕ) (i : ℕ) (q : Path) (ps : Parts N) (d : Cell N) → HaveTypes table variables ps → read_at (i ∷ q) ps ≡ Some d → (u : ℕ) × (type_at table variables (i ∷ q) ≡ Some u) × HasType table u d
  type-read variables i q ps d h at = by (part_at i ps) refl (sym (read-below i q ps) ∙ at)
    where
      by : (o : Option (Cell N)) → part_at i ps ≡ o → read_below q o ≡ Some d → (u : ℕ) × (type_at table variables (i ∷ q) ≡ Some u) × HasType table u d
      by None e at = none-not_some (sym (read-nothing q) ∙ at)
      by (Some c) e at =
          let x = typed-part N table variables ps i c h e in
          let y = below-typed partly q x.type c d x.typed at in
          (y.0, ap (λ o. type_below table o q) x.there ∙ y.1, y.2)

  pub read-typed : (variables : List ℕ) (i : ℕ) (q : Path) (u : ℕ) (ps : Parts N) (d : Cell N) → HaveTypes table variables ps → type_at table variables (i ∷ q) ≡ Some u → read_at (i ∷ q) ps ≡ Some d → HasType table u d
  read-typed variables i q u ps d h type at = let x = type-read variables i q ps d h at in subst (λ u. HasType table u d) (some-injective (sym x.1 ∙ type)) x.2

  many-full : (row i : ℕ) (ps : Parts N) (d : Cell N) → Fits table (many row) ps → part_at i ps ≡ Some d → IsFull table row d
  many-full row i no_parts d h e = none-not_some e
  many-full row i (gap ps) d h e = absurd h
  many-full row zero (part c ps) d h e = subst (IsFull table row) (some-injective e) h.0
  many-full row (suc i) (part c ps) d h e = many-full row i ps d h.1 e

  -- a value of a table's type is a table, whose rows are full
  pub record TableOf (row : ℕ) (d : Cell N) : Type 0 where
    pub name : N
    pub rows' : Parts N
    pub is : d ≡ cell name a_table rows'
    pub fits : Fits table (many row) rows'

  pub is-table : (u row : ℕ) (key : List ℕ) (d : Cell N) → slice_get table u ≡ Some (rows row key) → HasType table u d → TableOf row d
  is-table u row key (cell n k ps) shape h = by k (subst (λ (o : Option Shape). Fits table (elim o [ None ↦ unfit | Some s ↦ layout partly s k ]) ps) shape h.0)
    where
      by : (k : Kind) → Fits table (layout partly (rows row key) k) ps → TableOf row (cell n k ps)
      by a_table h = record { name = n; rows' = ps; is = refl; fits = h }
      by k h = absurd h

  pub row-full : (u row : ℕ) (key : List ℕ) (i : ℕ) (d e : Cell N) → slice_get table u ≡ Some (rows row key) → HasType table u d → part_at i (parts_of d) ≡ Some e → IsFull table row e
  row-full u row key i d e shape h at =
      let x = is-table u row key d shape h in
      many-full row i x.rows' e x.fits (ap (λ d. part_at i (parts_of d)) (sym x.is) ∙ at)
