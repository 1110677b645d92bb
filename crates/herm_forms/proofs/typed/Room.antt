-- In sound values there is a place at a target whose parent is there, and a value at a source that is held.
use Rattle.std.proofs.Common.{◌≡◌, ℕ, zero, suc, ◌<◌, arith, List, [], ◌∷◌, ◌++◌, map, Bool, true, false, not, ◌&&◌, ◌||◌, Option, Some, None, slice_get, refl, sym, ap, ◌∙◌, subst, true≢false, nat_lt}
use Rattle.std.specs.Prelude.{IsTrue, IsFalse}
use Rattle.std.proofs.lemmas.Bool.{lt-ltb}
use Rattle.herm_model.specs.Lists.{IsIn, map_or}
use Rattle.herm_model.specs.Paths.{Path, Fact, init, parent, are_apart, is_at_or_below}
use Rattle.herm_model.specs.Types.{TypeTable, Shape, Parameter, Raised, fields, cases, callmessage, part_type, part_of, type_at, is_cases, is_variant, passes_component}
use Rattle.herm_model.specs.FactsOfStatements.{room_for}
use Rattle.herm_model.specs.Values.{Kind, a_scalar, a_record, a_variant, a_table, a_polymorph, a_callmessage, an_inport, an_outport, Cell, cell, Parts, no_parts, gap, part, part_at, opens, inside, size, cell_at, has_place}
use Rattle.herm_model.specs.Typed.{Content, a_value, partly, unfit, exactly, layout, Fits, HasType}
use Rattle.herm_model.proofs.Lists.{slice_get-map}
use Rattle.herm_model.proofs.Options.{none-not_some}
use Rattle.herm_model.proofs.Beginnings.{above-longer, below-trans}
use Rattle.herm_model.proofs.TypedPaths.{at-append, passes-append, or-falses, some-of, parent-split}
use Rattle.herm_forms.specs.Frames.{Name}
use Rattle.herm_forms.specs.Modules.{Module}
use Rattle.herm_forms.specs.laws.EdgeLaws.{AreSound, without}
use Rattle.herm_forms.proofs.TypedReading.{opening, typed-read}
use Rattle.herm_forms.proofs.Arrived.{to-direct}
use Rattle.herm_forms.proofs.called.ApartPaths.{apart-not_below}

module _ (N : Type 0) (types : TypeTable) where
  -- typed parts have a place for each type
  sized : (cs : List Content) (ps : Parts N) (i : ℕ) (x : Content) → Fits types (exactly cs) ps → slice_get cs i ≡ Some x → i < size ps
  sized [] ps i x h e = none-not_some e
  sized (y ∷ cs) no_parts i x h e = absurd h
  sized (y ∷ cs) (gap ps) zero x h e = omega arith
  sized (y ∷ cs) (gap ps) (suc i) x h e = let more = sized cs ps i x h.1 e in omega (arith, more)
  sized (a_value d u ∷ cs) (part c ps) zero x h e = omega arith
  sized (a_value d u ∷ cs) (part c ps) (suc i) x h e = let more = sized cs ps i x h.1 e in omega (arith, more)
  sized (Content.nothing ∷ cs) (part c ps) i x h e = absurd h

  typed-size : (ts : List ℕ) (ps : Parts N) (i t : ℕ) → Fits types (exactly (map (a_value partly) ts)) ps → slice_get ts i ≡ Some t → IsTrue (nat_lt i (size ps))
  typed-size ts ps i t h e = lt-ltb i (size ps) (sized (map (a_value partly) ts) ps i (a_value partly t) h (slice_get-map (a_value partly) ts i ∙ ap (Rattle.std.specs.Prelude.option_map (a_value partly)) e))

  open-size : (u k t : ℕ) (n : N) (kind : Kind) (qs : Parts N) → opens kind ≡ true → HasType types u (cell n kind qs) → part_of types (Some u) k ≡ Some t → IsTrue (nat_lt k (size qs))
  open-size u k t n kind qs is h e =
      let o = opening N types u n kind qs is h in
      let same : part_of types (Some u) k ≡ part_type o.shape k = ap (map_or None (λ s. part_type s k)) o.found in
      typed-size o.types qs k t (subst (λ l. Fits types l qs) o.contents h.0) (sym (o.parts k) ∙ sym same ∙ e)

  -- a value of another kind has no parts of its own that a path could name
  no-part : (u k t : ℕ) (kind : Kind) (qs : Parts N) {A : Type 0} → ((ts : List ℕ) → Fits types (layout partly (fields ts) kind) qs → ⊥) → ((ps : List Parameter) (rs : List Raised) → Fits types (layout partly (callmessage ps rs) kind) qs → ⊥)
      → Fits types (map_or unfit (λ s. layout partly s kind) (slice_get types u)) qs → part_of types (Some u) k ≡ Some t → is_variant types (Some u) ≡ false → A
  no-part u k t kind qs {A} not_fields not_message h e v = by (slice_get types u) h e v
    where
      by : (o : Option Shape) → Fits types (map_or unfit (λ s. layout partly s kind) o) qs → map_or None (λ s. part_type s k) o ≡ Some t → map_or false (λ s. is_cases s) o ≡ false → A
      by None h e v = absurd h
      by (Some (fields ts)) h e v = absurd (not_fields ts h)
      by (Some (callmessage ps rs)) h e v = absurd (not_message ps rs h)
      by (Some (cases ts)) h e v = absurd (true≢false v)
      by (Some s) h e v = none-not_some e

  inside-size : (u k t : ℕ) (d : Cell N) → HasType types u d → part_of types (Some u) k ≡ Some t → is_variant types (Some u) ≡ false → IsTrue (nat_lt k (size (inside (Some d))))
  inside-size u k t (cell n a_record qs) h e v = open-size u k t n a_record qs refl h e
  inside-size u k t (cell n (a_callmessage x y) qs) h e v = open-size u k t n (a_callmessage x y) qs refl h e
  inside-size u k t (cell n (a_scalar x) qs) h e v = no-part u k t (a_scalar x) qs (λ ts h. h) (λ ps rs h. h) h.0 e v
  inside-size u k t (cell n (a_variant x) qs) h e v = no-part u k t (a_variant x) qs (λ ts h. h) (λ ps rs h. h) h.0 e v
  inside-size u k t (cell n a_table qs) h e v = no-part u k t a_table qs (λ ts h. h) (λ ps rs h. h) h.0 e v
  inside-size u k t (cell n (a_polymorph x) qs) h e v = no-part u k t (a_polymorph x) qs (λ ts h. h) (λ ps rs h. h) h.0 e v
  inside-size u k t (cell n (an_inport x) qs) h e v = no-part u k t (an_inport x) qs (λ ts h. h) (λ ps rs h. h) h.0 e v
  inside-size u k t (cell n (an_outport x) qs) h e v = no-part u k t (an_outport x) qs (λ ts h. h) (λ ps rs h. h) h.0 e v

  place-on : (i k : ℕ) (q : List ℕ) (ps : Parts N) → has_place ps ((i ∷ q) ++ k ∷ []) ≡ nat_lt k (size (inside (cell_at (i ∷ q) ps)))
  place-on i k [] ps = refl
  place-on i k (j ∷ q) ps = place-on j k q (inside (part_at i ps))

-- the parent of a target that is not a whole variable is there
abbrev pub HasParent : (Fact → Bool) → Path → Type 0
HasParent has [] = ⊥
HasParent has (i ∷ []) = Rattle.std.specs.Prelude.⊤
HasParent has (i ∷ j ∷ p) = IsTrue (has (init (i ∷ parent (j ∷ p))))

module _ (c : Module) where
  parent-direct : (i j : ℕ) (p : List ℕ) → passes_component c.types c.variables (i ∷ j ∷ p) ≡ false → passes_component c.types c.variables (i ∷ parent (j ∷ p)) ≡ false
  parent-direct i j p direct =
      let k = parent-split i j p in
      (or-falses (passes_component c.types c.variables (i ∷ parent (j ∷ p))) _ (sym (passes-append c.types c.variables i (parent (j ∷ p)) (k.0 ∷ [])) ∙ sym (ap (passes_component c.types c.variables) k.1) ∙ direct)).0

  pub has-parent : (has : Fact → Bool) (x : Path) (t : ℕ) → type_at c.types c.variables x ≡ Some t → passes_component c.types c.variables x ≡ false → ((f : Fact) → IsIn f (room_for c.types c.variables x) → IsTrue (has f)) → HasParent has x
  has-parent has [] t e direct held = none-not_some e
  has-parent has (i ∷ []) t e direct held = tt
  has-parent has (i ∷ j ∷ p) t e direct held = held (init (i ∷ parent (j ∷ p))) (to-direct c.types c.variables i (parent (j ∷ p)) (parent-direct i j p direct))

  -- what is taken from a path that is apart leaves the parent
  pub parent-left : (has : Fact → Bool) (y x : Path) → IsTrue (are_apart y x) → HasParent has x → HasParent (without y has) x
  parent-left has y [] apart h = h
  parent-left has y (i ∷ []) apart h = h
  parent-left has y (i ∷ j ∷ p) apart h = by (is_at_or_below y (i ∷ parent (j ∷ p))) refl
    where
      by : (b : Bool) → is_at_or_below y (i ∷ parent (j ∷ p)) ≡ b → IsTrue (not b && has (init (i ∷ parent (j ∷ p))))
      by false e = h
      by true e =
          let k = parent-split i j p in
          absurd (apart-not_below y (i ∷ j ∷ p) apart (below-trans y (i ∷ parent (j ∷ p)) (i ∷ j ∷ p) e (subst (λ z. is_at_or_below (i ∷ parent (j ∷ p)) z ≡ true) (sym k.1) (above-longer (i ∷ parent (j ∷ p)) (k.0 ∷ [])))))

  module _ (has : Fact → Bool) (ps : Parts Name) (sound : AreSound c has ps) where
    -- a value that is held, and through no component, is there
    pub value-there : (i : ℕ) (q : List ℕ) → IsTrue (has (init (i ∷ q))) → (d : Cell Name) × (cell_at (i ∷ q) ps ≡ Some d)
    value-there i q h = some-of (cell_at (i ∷ q) ps) ((sound.facts.values (i ∷ q)).1 h)

    pub place-there : (x : Path) (t : ℕ) → type_at c.types c.variables x ≡ Some t → passes_component c.types c.variables x ≡ false → HasParent has x → IsTrue (has_place ps x)
    place-there [] t e direct h = absurd h
    place-there (i ∷ []) t e direct h = typed-size Name c.types c.variables ps i t sound.types e
    place-there (i ∷ j ∷ p) t e direct h =
        let q = parent (j ∷ p) in
        let k = parent-split i j p in
        let d = value-there i q h in
        let r = typed-read Name c.types c.variables i q ps d.0 sound.types d.1 in
        let type : type_at c.types c.variables (i ∷ q) ≡ Some r.type = ap (λ o. Rattle.herm_model.specs.Types.type_below c.types o q) r.there ∙ r.below in
        let part' : part_of c.types (Some r.type) k.0 ≡ Some t =
        sym (at-append c.types c.variables i q (k.0 ∷ []) ∙ ap (λ o. part_of c.types o k.0) type) ∙ sym (ap (type_at c.types c.variables) k.1) ∙ e in
        let variant : is_variant c.types (Some r.type) ≡ false =
        (or-falses (is_variant c.types (Some r.type)) _
        (subst (λ o. IsFalse (is_variant c.types o || false)) type
        ((or-falses (passes_component c.types c.variables (i ∷ q)) _ (sym (passes-append c.types c.variables i q (k.0 ∷ [])) ∙ sym (ap (passes_component c.types c.variables) k.1) ∙ direct)).1))).0 in
        subst (λ x. IsTrue (has_place ps x)) (sym k.1)
        (place-on Name c.types i k.0 q ps ∙ ap (λ o. nat_lt k.0 (size (inside o))) d.1 ∙ inside-size Name c.types r.type k.0 t d.0 r.typed part' variant)
