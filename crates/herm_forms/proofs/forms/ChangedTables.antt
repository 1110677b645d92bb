-- A change of a table's rows, wherever the table stands, keeps typed variables typed, and their facts.
use Rattle.std.proofs.Common.{◌≡◌, ◌≢◌, ℕ, zero, suc, List, [], ◌∷◌, map, Bool, true, false, Option, Some, None, option_map, refl, sym, ap, ◌∙◌, subst}
use Rattle.std.specs.Prelude.{slice_get, IsTrue, is_some, nat_eq}
use mathlib.Core.Bool.{true≢false, false≢true}
use borrow.Author.Tests.{eqb-true, eq-eqb}
use Rattle.herm_model.specs.Paths.{Path, Fact}
use Rattle.herm_model.specs.Types.{Mode, by_in, by_inout, by_out, Parameter, TypeTable, Shape, fields, cases, rows, callmessage, part_type, part_of, type_below, type_at}
use Rattle.herm_model.specs.Values.{Kind, a_scalar, a_record, a_variant, a_table, a_polymorph, a_callmessage, an_inport, an_outport, Cell, cell, Parts, no_parts, gap, part, part_at, inside, has_value, behind_gaps, readable_of, read_at, change_part, change_readable, change_behind, change_from, change_at}
use Rattle.herm_model.specs.FactsOfValues.{is_component}
use Rattle.herm_model.specs.Typed.{Degree, whole, partly, Content, a_value, nothing, exactly, many, unfit, one_whole, parameter_content, layout, layout_at, is_bounded, is_bounded_at, Fits, IsOf, HaveTypes}
use Rattle.herm_model.proofs.Lists.{slice_get-map}
use Rattle.herm_model.proofs.Options.{map-some, some-injective}
use Rattle.herm_model.proofs.FullFacts.{type_of}
use Rattle.herm_model.proofs.Places.{cell_below, cell-below, read_below, read-below, part_at-change_same, part_at-change_other, change_behind_same}
use Rattle.herm_forms.specs.Frames.{Name}
use Rattle.herm_forms.specs.InsertForm.{with_parts}
use Rattle.herm_forms.specs.Modules.{Module}
use Rattle.herm_forms.specs.laws.EdgeLaws.{AreSound}
use Rattle.herm_forms.proofs.forms.ReadTypes.{behind-there, variant-component}
use Rattle.herm_model.proofs.ChangesThrough.{behind_other, changed, from-behind}

module _ {N : Type 0} where
  -- two cells with the same facts
  pub record Alike (c d : Cell N) : Type 0 where
    pub has : (p : Path) → has_value (inside (Some c)) p ≡ has_value (inside (Some d)) p
    pub component : (k : ℕ) → is_component (Some c) k ≡ is_component (Some d) k
    pub reads : (p : Path) (k : ℕ) → is_component (read_at p (readable_of (Some c))) k ≡ is_component (read_at p (readable_of (Some d))) k

  self-alike : (c : Cell N) → Alike c c
  self-alike c = record { has = λ p. refl; component = λ k. refl; reads = λ p k. refl }

  module _ (g : Cell N → Cell N) where
    option-has : (r : Path) (o : Option (Cell N)) → ((d : Cell N) → o ≡ Some d → Alike (g d) d) → is_some (cell_below r (option_map g o)) ≡ is_some (cell_below r o)
    option-has r None alike = refl
    option-has [] (Some d) alike = refl
    option-has (s ∷ r) (Some d) alike = (alike d refl).has (s ∷ r)

    option-reads : (r : Path) (k : ℕ) (o : Option (Cell N)) → ((d : Cell N) → o ≡ Some d → Alike (g d) d) → is_component (read_below r (option_map g o)) k ≡ is_component (read_below r o) k
    option-reads r k None alike = refl
    option-reads [] k (Some d) alike = (alike d refl).component k
    option-reads (s ∷ r) k (Some d) alike = (alike d refl).reads (s ∷ r) k

    pub same-has : (j : ℕ) (ps : Parts N) → ((d : Cell N) → part_at j ps ≡ Some d → Alike (g d) d) → (p : Path) → has_value (change_part j g ps) p ≡ has_value ps p
    same-has j ps alike [] = refl
    same-has j ps alike (i ∷ r) = ap is_some (cell-below i r (change_part j g ps)) ∙ by (nat_eq j i) refl ∙ sym (ap is_some (cell-below i r ps))
      where
        by : (b : Bool) → nat_eq j i ≡ b → is_some (cell_below r (part_at i (change_part j g ps))) ≡ is_some (cell_below r (part_at i ps))
        by true e = subst (λ i. is_some (cell_below r (part_at i (change_part j g ps))) ≡ is_some (cell_below r (part_at i ps))) (eqb-true j i e) (ap (λ o. is_some (cell_below r o)) (part_at-change_same j g ps) ∙ option-has r (part_at j ps) alike)
        by false e = ap (λ o. is_some (cell_below r o)) (part_at-change_other j i g ps (λ s. true≢false (sym (eq-eqb j i s) ∙ e)))

    pub same-reads : (m j : ℕ) (ps : Parts N) → ((d : Cell N) → part_at j (behind_gaps m ps) ≡ Some d → Alike (g d) d) → (p : Path) (k : ℕ)
        → is_component (read_at p (behind_gaps m (change_behind m j g ps))) k ≡ is_component (read_at p (behind_gaps m ps)) k
    same-reads m j ps alike [] k = refl
    same-reads m j ps alike (i ∷ r) k =
        ap (λ o. is_component o k) (read-below i r (behind_gaps m (change_behind m j g ps))) ∙ by (nat_eq j i) refl ∙ sym (ap (λ o. is_component o k) (read-below i r (behind_gaps m ps)))
      where
        by : (b : Bool) → nat_eq j i ≡ b → is_component (read_below r (part_at i (behind_gaps m (change_behind m j g ps)))) k ≡ is_component (read_below r (part_at i (behind_gaps m ps))) k
        by true e =
            subst (λ i. is_component (read_below r (part_at i (behind_gaps m (change_behind m j g ps)))) k ≡ is_component (read_below r (part_at i (behind_gaps m ps))) k) (eqb-true j i e)
            (ap (λ o. is_component (read_below r o) k) (change_behind_same m j g ps) ∙ option-reads r k (part_at j (behind_gaps m ps)) alike)
        by false e = ap (λ o. is_component (read_below r o) k) (behind_other m j i g ps (λ s. true≢false (sym (eq-eqb j i s) ∙ e)))

  -- a cell changed inside has the same facts, where what is changed has
  changed-alike : (r : Path) (g : Cell N → Cell N) (d : Cell N) → ((e : Cell N) → read_below r (Some d) ≡ Some e → Alike (g e) e) → Alike (changed r g d) d
  changed-alike [] g d keep = keep d refl
  changed-alike (j ∷ r) g d keep = by d keep (changed-alike r g)
    where
      Again : Type 0
      Again = (d : Cell N) → ((e : Cell N) → read_below r (Some d) ≡ Some e → Alike (g e) e) → Alike (changed r g d) d

      inner : (m : ℕ) (qs : Parts N) → ((e : Cell N) → read_at (j ∷ r) (behind_gaps m qs) ≡ Some e → Alike (g e) e) → Again → (d : Cell N) → part_at j (behind_gaps m qs) ≡ Some d → Alike (changed r g d) d
      inner m qs keep again d at = again d (λ e h. keep e (read-below j r (behind_gaps m qs) ∙ ap (read_below r) at ∙ h))

      by : (d : Cell N) → ((e : Cell N) → read_at (j ∷ r) (readable_of (Some d)) ≡ Some e → Alike (g e) e) → Again → Alike (change_readable (change_from (j ∷ r) g) d) d
      by (cell n a_record qs) keep again = record {
        has = λ p. ap (λ qs. has_value qs p) (from-behind j r g 0 qs) ∙ same-has (changed r g) j qs (inner 0 qs keep again) p;
        component = λ k. refl;
        reads = λ p k. ap (λ qs. is_component (read_at p qs) k) (from-behind j r g 0 qs) ∙ same-reads (changed r g) 0 j qs (inner 0 qs keep again) p k;
      }
      by (cell n (a_callmessage x y) qs) keep again = record {
        has = λ p. ap (λ qs. has_value qs p) (from-behind j r g 0 qs) ∙ same-has (changed r g) j qs (inner 0 qs keep again) p;
        component = λ k. refl;
        reads = λ p k. ap (λ qs. is_component (read_at p qs) k) (from-behind j r g 0 qs) ∙ same-reads (changed r g) 0 j qs (inner 0 qs keep again) p k;
      }
      by (cell n (a_variant m) qs) keep again = record {
        has = λ p. refl;
        component = λ k. refl;
        reads = λ p k. ap (λ qs. is_component (read_at p (behind_gaps m qs)) k) (from-behind j r g m qs) ∙ same-reads (changed r g) m j qs (inner m qs keep again) p k;
      }
      by (cell n (a_scalar x) qs) keep again = self-alike (cell n (a_scalar x) qs)
      by (cell n a_table qs) keep again = self-alike (cell n a_table qs)
      by (cell n (a_polymorph x) qs) keep again = self-alike (cell n (a_polymorph x) qs)
      by (cell n (an_inport x) qs) keep again = self-alike (cell n (an_inport x) qs)
      by (cell n (an_outport x) qs) keep again = self-alike (cell n (an_outport x) qs)

-- types
abbrev is_value : Content → Bool
is_value (a_value d u) = true
is_value nothing = false

parameter-type : (d d' : Degree) (m : Mode) (u w : ℕ) → parameter_content d m u ≡ a_value d' w → u ≡ w
parameter-type whole d' by_in u w e = ap type_of e
parameter-type whole d' by_inout u w e = ap type_of e
parameter-type whole d' by_out u w e = absurd (false≢true (ap is_value e))
parameter-type partly d' m u w e = ap type_of e

module _ (N : Type 0) (table : TypeTable) where
  change-fits : (g : Cell N → Cell N) (xs : List Content) (j : ℕ) (ps : Parts N) → Fits table (exactly xs) ps
      → ((d : Degree) (t : ℕ) (c : Cell N) → slice_get xs j ≡ Some (a_value d t) → part_at j ps ≡ Some c → IsOf d table t c → IsOf d table t (g c)) → Fits table (exactly xs) (change_part j g ps)
  change-fits g [] j no_parts h keep = h
  change-fits g [] j (gap ps) h keep = absurd h
  change-fits g [] j (part c ps) h keep = absurd h
  change-fits g (x ∷ xs) j no_parts h keep = absurd h
  change-fits g (x ∷ xs) zero (gap ps) h keep = h
  change-fits g (x ∷ xs) (suc j) (gap ps) h keep = (h.0, change-fits g xs j ps h.1 keep)
  change-fits g (nothing ∷ xs) j (part c ps) h keep = absurd h
  change-fits g (a_value d t ∷ xs) zero (part c ps) h keep = (keep d t c refl refl h.0, h.1)
  change-fits g (a_value d t ∷ xs) (suc j) (part c ps) h keep = (h.0, change-fits g xs j ps h.1 keep)

  changed-one : (g : Cell N → Cell N) (m j w : ℕ) (c : Cell N) → IsOf whole table w c → (j ≡ m → IsOf whole table w (g c)) → Fits table (exactly (a_value whole w ∷ [])) (change_behind m j g (part c no_parts))
  changed-one g zero zero w c h keep = (keep refl, tt)
  changed-one g zero (suc j) w c h keep = (h, tt)
  changed-one g (suc m) zero w c h keep = (h, tt)
  changed-one g (suc m) (suc j) w c h keep = changed-one g m j w c h (λ e. keep (ap suc e))

  -- what stands in a record or a callmessage, of a value to any degree
  record Inner (d : Degree) (t : ℕ) (k : Kind) : Type 0 where
    contents : List Content
    is : layout_at d table t k ≡ exactly contents
    types : (j : ℕ) (d' : Degree) (w : ℕ) → slice_get contents j ≡ Some (a_value d' w) → part_of table (Some t) j ≡ Some w
    bounded : (ps : Parts N) → IsTrue (is_bounded_at table t ps)

  part-is : (t j : ℕ) (s : Shape) → slice_get table t ≡ Some s → part_of table (Some t) j ≡ part_type s j
  part-is t j s e = ap (λ (o : Option Shape). elim o [ None ↦ None | Some s ↦ part_type s j ]) e

  layout-is : (d : Degree) (t : ℕ) (k : Kind) (s : Shape) → slice_get table t ≡ Some s → layout_at d table t k ≡ layout d s k
  layout-is d t k s e = ap (λ (o : Option Shape). elim o [ None ↦ unfit | Some s ↦ layout d s k ]) e

  bounds-are : (t : ℕ) (s : Shape) (ps : Parts N) → slice_get table t ≡ Some s → is_bounded_at table t ps ≡ is_bounded s ps
  bounds-are t s ps e = ap (λ (o : Option Shape). elim o [ None ↦ false | Some s ↦ is_bounded s ps ]) e

  inner-record : (d : Degree) (t : ℕ) (qs : Parts N) (s : Shape) → slice_get table t ≡ Some s → Fits table (layout d s a_record) qs → Inner d t a_record
  inner-record d t qs (fields ts) e h = record {
    contents = map (a_value d) ts;
    is = layout-is d t a_record (fields ts) e;
    types = λ j d' w at.
        (let x = map-some (a_value d) (slice_get ts j) (a_value d' w) (sym (slice_get-map (a_value d) ts j) ∙ at) in
        part-is t j (fields ts) e ∙ x.1 ∙ ap Some (ap type_of x.2));
    bounded = λ ps. bounds-are t (fields ts) ps e;
  }
  inner-record d t qs s e h = absurd h

  inner-message : (d : Degree) (t x y : ℕ) (qs : Parts N) (s : Shape) → slice_get table t ≡ Some s → Fits table (layout d s (a_callmessage x y)) qs → Inner d t (a_callmessage x y)
  inner-message d t x y qs (callmessage parameters raises) e h = record {
    contents = map (λ (p : Parameter). parameter_content d p.mode p.content) parameters;
    is = layout-is d t (a_callmessage x y) (callmessage parameters raises) e;
    types = λ j d' w at.
        (let p = map-some (λ (p : Parameter). parameter_content d p.mode p.content) (slice_get parameters j) (a_value d' w) (sym (slice_get-map (λ (p : Parameter). parameter_content d p.mode p.content) parameters j) ∙ at) in
        part-is t j (callmessage parameters raises) e ∙ ap (option_map (λ (p : Parameter). p.content)) p.1 ∙ ap Some (parameter-type d d' p.0.mode p.0.content w p.2));
    bounded = λ ps. bounds-are t (callmessage parameters raises) ps e;
  }
  inner-message d t x y qs s e h = absurd h

  by_shape : (d : Degree) (t : ℕ) (k : Kind) (qs : Parts N) → ((s : Shape) → slice_get table t ≡ Some s → Fits table (layout d s k) qs → Inner d t k) → (o : Option Shape) → slice_get table t ≡ o
      → Fits table (elim o [ None ↦ unfit | Some s ↦ layout d s k ]) qs → Inner d t k
  by_shape d t k qs by None e h = absurd h
  by_shape d t k qs by (Some s) e h = by s e h

  -- a change at the end of these steps, where what is there keeps its type
  abbrev Keeps : Path → (Cell N → Cell N) → ℕ → Cell N → Type 0
  Keeps r g u c = (d : Degree) (e : Cell N) → read_below r (Some c) ≡ Some e → IsOf d table u e → IsOf d table u (g e)

  changed-typed : (r : Path) (g : Cell N → Cell N) (d : Degree) (t u : ℕ) (c : Cell N) → IsOf d table t c → type_below table (Some t) r ≡ Some u → Keeps r g u c → IsOf d table t (changed r g c)
  changed-typed [] g d t u c h type keep =
      let same : t ≡ u = some-injective type in
      subst (λ t. IsOf d table t (g c)) (sym same) (keep d c refl (subst (λ t. IsOf d table t c) same h))
  changed-typed (j ∷ r) g d t u c h type keep = by c h keep (changed-typed r g)
    where
      Again : Type 0
      Again = (d : Degree) (t u : ℕ) (c : Cell N) → IsOf d table t c → type_below table (Some t) r ≡ Some u → Keeps r g u c → IsOf d table t (changed r g c)

      open_parts : (n : N) (k : Kind) (qs : Parts N) → Inner d t k → Fits table (layout_at d table t k) qs → ((d : Degree) (e : Cell N) → read_at (j ∷ r) qs ≡ Some e → IsOf d table u e → IsOf d table u (g e)) → Again → IsOf d table t (cell n k (change_from (j ∷ r) g 0 qs))
      open_parts n k qs inner fits keep again = (
        subst (λ l. Fits table l (change_from (j ∷ r) g 0 qs)) (sym inner.is) (subst (Fits table (exactly inner.contents)) (sym (from-behind j r g 0 qs))
            (change-fits (changed r g) inner.contents j qs (subst (λ l. Fits table l qs) inner.is fits)
            (λ d' w e at here typed. again d' w u e typed (ap (λ o. type_below table o r) (sym (inner.types j d' w at)) ∙ type) (λ d x k. keep d x (read-below j r qs ∙ ap (read_below r) here ∙ k))))),
        inner.bounded (change_from (j ∷ r) g 0 qs),
      )

      variant : (n : N) (m : ℕ) (qs : Parts N) → IsOf d table t (cell n (a_variant m) qs) → ((d : Degree) (e : Cell N) → read_at (j ∷ r) (behind_gaps m qs) ≡ Some e → IsOf d table u e → IsOf d table u (g e)) → Again
          → IsOf d table t (cell n (a_variant m) (change_from (j ∷ r) g m qs))
      variant n m qs h keep again =
          let x = variant-component N table d t m n qs h in
          let is : layout_at d table t (a_variant m) ≡ exactly (a_value whole x.type ∷ []) = layout-is d t (a_variant m) (cases x.types) x.found ∙ ap one_whole x.at in
          let one : Fits table (exactly (a_value whole x.type ∷ [])) (change_behind m j (changed r g) (part x.content no_parts)) =
          changed-one (changed r g) m j x.type x.content x.whole'
          (λ e. again whole x.type u x.content x.whole' (ap (λ o. type_below table o r) (sym (part-is t j (cases x.types) x.found ∙ ap (slice_get x.types) e ∙ x.at)) ∙ type)
          (λ d y k. keep d y (read-below j r (behind_gaps m qs) ∙ ap (read_below r) (ap (λ qs. part_at j (behind_gaps m qs)) x.alone ∙ ap (λ j. part_at j (behind_gaps m (part x.content no_parts))) e ∙ behind-there m x.content) ∙ k))) in
          (subst (λ l. Fits table l (change_from (j ∷ r) g m qs)) (sym is) (subst (Fits table (exactly (a_value whole x.type ∷ []))) (sym (from-behind j r g m qs ∙ ap (change_behind m j (changed r g)) x.alone)) one), bounds-are t (cases x.types) (change_from (j ∷ r) g m qs) x.found)

      by : (c : Cell N) → IsOf d table t c → ((d : Degree) (e : Cell N) → read_at (j ∷ r) (readable_of (Some c)) ≡ Some e → IsOf d table u e → IsOf d table u (g e)) → Again → IsOf d table t (change_readable (change_from (j ∷ r) g) c)
      by (cell n a_record qs) h keep again = open_parts n a_record qs (by_shape d t a_record qs (λ s e h. inner-record d t qs s e h) (slice_get table t) refl h.0) h.0 keep again
      by (cell n (a_callmessage x y) qs) h keep again = open_parts n (a_callmessage x y) qs (by_shape d t (a_callmessage x y) qs (λ s e h. inner-message d t x y qs s e h) (slice_get table t) refl h.0) h.0 keep again
      by (cell n (a_variant m) qs) h keep again = variant n m qs h keep again
      by (cell n (a_scalar x) qs) h keep again = h
      by (cell n a_table qs) h keep again = h
      by (cell n (a_polymorph x) qs) h keep again = h
      by (cell n (an_inport x) qs) h keep again = h
      by (cell n (an_outport x) qs) h keep again = h

-- the rows of a table of these variables changed, where they stay rows of its type
pub change-sound : (c : Module) (has : Fact → Bool) (ps : Parts Name) → AreSound c has ps → (i : ℕ) (q : List ℕ) (u row : ℕ) (key : List ℕ) → type_at c.types c.variables (i ∷ q) ≡ Some u → slice_get c.types u ≡ Some (rows row key) → (f : Parts Name → Parts Name)
    → ((n : Name) (rs : Parts Name) → read_at (i ∷ q) ps ≡ Some (cell n a_table rs) → Fits c.types (many row) rs → IsTrue (is_bounded (rows row key) rs) → Fits c.types (many row) (f rs) × IsTrue (is_bounded (rows row key) (f rs)))
    → (n : Name) (rs : Parts Name) → read_at (i ∷ q) ps ≡ Some (cell n a_table rs) → AreSound c has (change_at (i ∷ q) (with_parts f) ps)
change-sound c has ps sound i q u row key type shape f keep n rs at = record {
  types = subst (HaveTypes c.types c.variables) (sym is) typed;
  facts = record {
    values = λ p. (
      (λ h. (sound.facts.values p).0 (sym (has_same p) ∙ h)),
      (λ h. has_same p ∙ (sound.facts.values p).1 h),
    );
    components = λ p k h. reads_same p k ∙ sound.facts.components p k h;
  };
}
  where
    is : change_at (i ∷ q) (with_parts f) ps ≡ change_part i (changed q (with_parts f)) ps
    is = from-behind i q (with_parts f) 0 ps

    below-is : (d : Cell Name) → part_at i ps ≡ Some d → (e : Cell Name) → read_below q (Some d) ≡ Some e → cell n a_table rs ≡ e
    below-is d here e h = some-injective (sym at ∙ read-below i q ps ∙ ap (read_below q) here ∙ h)

    table-alike : Alike (with_parts f (cell n a_table rs)) (cell n a_table rs)
    table-alike = record { has = λ p. refl; component = λ k. refl; reads = λ p k. refl }

    alike : (d : Cell Name) → part_at i ps ≡ Some d → Alike (changed q (with_parts f) d) d
    alike d here = changed-alike q (with_parts f) d (λ e h. subst (λ e. Alike (with_parts f e) e) (below-is d here e h) table-alike)

    has_same : (p : Path) → has_value (change_at (i ∷ q) (with_parts f) ps) p ≡ has_value ps p
    has_same p = ap (λ ps. has_value ps p) is ∙ same-has (changed q (with_parts f)) i ps alike p

    reads_same : (p : Path) (k : ℕ) → is_component (read_at p (change_at (i ∷ q) (with_parts f) ps)) k ≡ is_component (read_at p ps) k
    reads_same p k = ap (λ ps. is_component (read_at p ps) k) is ∙ same-reads (changed q (with_parts f)) 0 i ps alike p k

    table-keeps : (d : Degree) → IsOf d c.types u (cell n a_table rs) → IsOf d c.types u (cell n a_table (f rs))
    table-keeps d h =
        let l = layout-is Name c.types d u a_table (rows row key) shape in
        let k = keep n rs at (subst (λ l. Fits c.types l rs) l h.0) (sym (bounds-are Name c.types u (rows row key) rs shape) ∙ h.1) in
        (subst (λ l. Fits c.types l (f rs)) (sym l) k.0, bounds-are Name c.types u (rows row key) (f rs) shape ∙ k.1)

    typed : HaveTypes c.types c.variables (change_part i (changed q (with_parts f)) ps)
    typed =
        change-fits Name c.types (changed q (with_parts f)) (map (a_value partly) c.variables) i ps sound.types
        (λ d w e here there typed.
        (let x = map-some (a_value partly) (slice_get c.variables i) (a_value d w) (sym (slice_get-map (a_value partly) c.variables i) ∙ here) in
        let first : slice_get c.variables i ≡ Some w = x.1 ∙ ap Some (ap type_of x.2) in
        changed-typed Name c.types q (with_parts f) d w u e typed (ap (λ o. type_below c.types o q) (sym first) ∙ type)
        (λ d y k. subst (λ e. IsOf d c.types u e → IsOf d c.types u (with_parts f e)) (below-is e there y k) (table-keeps d))))
