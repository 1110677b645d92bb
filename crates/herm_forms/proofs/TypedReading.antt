-- What is read at a path of typed variables has the path's type, and the path passes through no component.
use Rattle.std.proofs.Common.{◌≡◌, ℕ, List, [], ◌∷◌, map, Bool, true, false, cond, ◌||◌, Option, Some, None, refl, sym, ap, ap₂, ◌∙◌, subst, subst₂}
use Rattle.std.specs.Prelude.{slice_get, is_some, IsTrue}
use mathlib.Core.Bool.{false≢true}
use Rattle.herm_model.specs.Lists.{IsIn, list_of, numbered}
use Rattle.herm_model.specs.Types.{Parameter, TypeTable, Shape, fields, callmessage, part_type, part_of, type_below, is_cases, is_variant, enters_component, held_parts, IsPartPath, is_within_depth, greatest_depth, part_paths, variable_paths}
use Rattle.herm_model.specs.Values.{Kind, a_scalar, a_record, a_variant, a_table, a_polymorph, a_callmessage, an_inport, an_outport, Cell, cell, Parts, no_parts, part_at, inside, opens, cell_at}
use Rattle.herm_model.specs.Typed.{partly, a_value, exactly, unfit, parameter_content, layout, layout_at, is_bounded, is_bounded_at, Fits, HasType, HaveTypes, IsOf}
use Rattle.herm_model.proofs.Lists.{in-map, in-flat_map, slice_get-map}
use Rattle.herm_model.proofs.FactTests.{at-numbered, got-IsIn}
use Rattle.herm_model.proofs.Steps.{held-named, steps-listed}
use Rattle.herm_model.proofs.Options.{none-not_some, map-some}
use Rattle.herm_model.proofs.NothingThere.{none-there}
use Rattle.herm_model.proofs.FullFacts.{type_of, degree_of, at-fits}

pub contents-of : (ps : List Parameter) → map (λ (p : Parameter). parameter_content partly p.mode p.content) ps ≡ map (a_value partly) (map (λ (p : Parameter). p.content) ps)
contents-of [] = refl
contents-of (p ∷ ps) = ap (a_value partly p.content ∷◌) (contents-of ps)

module _ (table : TypeTable) where
  at_shape : (t : ℕ) (k : Kind) (s : Shape) → slice_get table t ≡ Some s → layout_at partly table t k ≡ layout partly s k
  at_shape t k s e = ap (λ (o : Option Shape). elim o [ None ↦ unfit | Some s ↦ layout partly s k ]) e

module _ (N : Type 0) (table : TypeTable) where
  -- a type whose values are opened by paths, with the types of its parts
  pub record Opening (t : ℕ) (k : Kind) : Type 0 where
    pub shape : Shape
    pub types : List ℕ
    pub found : slice_get table t ≡ Some shape
    pub held : held_parts shape ≡ numbered 0 types
    pub parts : (i : ℕ) → part_type shape i ≡ slice_get types i
    pub closed : is_cases shape ≡ false
    pub contents : layout_at partly table t k ≡ exactly (map (a_value partly) types)
    pub bounded : (ps : Parts N) → IsTrue (is_bounded_at table t ps)

  bounded_shape : (t : ℕ) (s : Shape) (ps : Parts N) → slice_get table t ≡ Some s → is_bounded s ps ≡ true → IsTrue (is_bounded_at table t ps)
  bounded_shape t s ps e h = ap (λ (o : Option Shape). elim o [ None ↦ false | Some s ↦ is_bounded s ps ]) e ∙ h

  opened-record : (t : ℕ) (s : Shape) (ps : Parts N) → slice_get table t ≡ Some s → Fits table (layout partly s a_record) ps → Opening t a_record
  opened-record t (fields ts) ps e h = record {
    shape = fields ts;
    types = ts;
    found = e;
    held = refl;
    parts = λ i. refl;
    closed = refl;
    contents = at_shape table t a_record (fields ts) e;
    bounded = λ qs. bounded_shape t (fields ts) qs e refl;
  }
  opened-record t s ps e h = absurd h

  opened-message : (t caller call : ℕ) (s : Shape) (ps : Parts N) → slice_get table t ≡ Some s → Fits table (layout partly s (a_callmessage caller call)) ps → Opening t (a_callmessage caller call)
  opened-message t caller call (callmessage params raises) ps e h = record {
    shape = callmessage params raises;
    types = map (λ (p : Parameter). p.content) params;
    found = e;
    held = refl;
    parts = λ i. sym (slice_get-map (λ (p : Parameter). p.content) params i);
    closed = refl;
    contents = at_shape table t (a_callmessage caller call) (callmessage params raises) e ∙ ap exactly (contents-of params);
    bounded = λ qs. bounded_shape t (callmessage params raises) qs e refl;
  }
  opened-message t caller call s ps e h = absurd h

  opened_at : (t : ℕ) (k : Kind) (ps : Parts N) → ((s : Shape) → slice_get table t ≡ Some s → Fits table (layout partly s k) ps → Opening t k) → (o : Option Shape) → slice_get table t ≡ o
      → Fits table (elim o [ None ↦ unfit | Some s ↦ layout partly s k ]) ps → Opening t k
  opened_at t k ps by None e h = absurd h
  opened_at t k ps by (Some s) e h = by s e h

  pub opening : (t : ℕ) (n : N) (k : Kind) (ps : Parts N) → opens k ≡ true → HasType table t (cell n k ps) → Opening t k
  opening t n a_record ps o h = opened_at t a_record ps (λ s e h. opened-record t s ps e h) (slice_get table t) refl h.0
  opening t n (a_callmessage caller call) ps o h = opened_at t (a_callmessage caller call) ps (λ s e h. opened-message t caller call s ps e h) (slice_get table t) refl h.0
  opening t n (a_scalar s) ps o h = absurd (false≢true o)
  opening t n (a_variant c) ps o h = absurd (false≢true o)
  opening t n a_table ps o h = absurd (false≢true o)
  opening t n (a_polymorph u) ps o h = absurd (false≢true o)
  opening t n (an_inport port) ps o h = absurd (false≢true o)
  opening t n (an_outport port) ps o h = absurd (false≢true o)

  -- the type at a place of a typed list
  pub record TypedPart (ts : List ℕ) (i : ℕ) (c : Cell N) : Type 0 where
    pub type : ℕ
    pub there : slice_get ts i ≡ Some type
    pub typed : HasType table type c

  pub typed-part : (ts : List ℕ) (ps : Parts N) (i : ℕ) (c : Cell N) → Fits table (exactly (map (a_value partly) ts)) ps → part_at i ps ≡ Some c → TypedPart ts i c
  typed-part ts ps i c h e =
      let a = at-fits table (map (a_value partly) ts) ps i c h e in
      let t = map-some (a_value partly) (slice_get ts i) (a_value a.0 a.1) (sym (slice_get-map (a_value partly) ts i) ∙ a.2) in
      record { type = t.0; there = t.1; typed = subst₂ (λ d u. IsOf d table u c) (sym (ap degree_of t.2)) (sym (ap type_of t.2)) a.3 }

  -- what is read at steps below a typed list
  pub record Reading (ts : List ℕ) (i : ℕ) (q : List ℕ) (c : Cell N) : Type 0 where
    pub first : ℕ
    pub there : slice_get ts i ≡ Some first
    pub type : ℕ
    pub below : type_below table (Some first) q ≡ Some type
    pub typed : HasType table type c
    pub leads : IsPartPath held_parts table first q
    pub direct : enters_component table (Some first) q ≡ false

  is_there : (t : ℕ) (n : N) (k : Kind) (ps : Parts N) (o : Option Shape) → slice_get table t ≡ o → Fits table (elim o [ None ↦ unfit | Some s ↦ layout partly s k ]) ps → IsTrue (is_some (slice_get table t))
  is_there t n k ps None e h = absurd h
  is_there t n k ps (Some s) e h = ap is_some e

  type_there : (t : ℕ) (c : Cell N) → HasType table t c → IsTrue (is_some (slice_get table t))
  type_there t (cell n k ps) h = is_there t n k ps (slice_get table t) refl h.0

  pub typed-read : (ts : List ℕ) (i : ℕ) (q : List ℕ) (ps : Parts N) (c : Cell N) → Fits table (exactly (map (a_value partly) ts)) ps → cell_at (i ∷ q) ps ≡ Some c → Reading ts i q c
  typed-read ts i [] ps c h e =
      let r = typed-part ts ps i c h e in
      record { first = r.type; there = r.there; type = r.type; below = refl; typed = r.typed; leads = type_there r.type c r.typed; direct = refl }
  typed-read ts i (j ∷ r) ps c h e = read_below (λ types qs. typed-read types j r qs c) (part_at i ps) refl e
    where
      read_open : ((types : List ℕ) (qs : Parts N) → Fits table (exactly (map (a_value partly) types)) qs → cell_at (j ∷ r) qs ≡ Some c → Reading types j r c) → (t : ℕ) (there : slice_get ts i ≡ Some t) (n : N) (k : Kind) (qs : Parts N) → HasType table t (cell n k qs) → (b : Bool) → opens k ≡ b → cell_at (j ∷ r) (cond b qs no_parts) ≡ Some c → Reading ts i (j ∷ r) c
      read_open again t there n k qs typed false b e = none-not_some (sym (none-there (j ∷ r)) ∙ e)
      read_open again t there n k qs typed true b e =
          let o = opening t n k qs b typed in
          let fits : Fits table (exactly (map (a_value partly) o.types)) qs = subst (λ l. Fits table l qs) o.contents typed.0 in
          let x = again o.types qs fits e in
          let next : part_of table (Some t) j ≡ Some x.first = ap (λ (s : Option Shape). elim s [ None ↦ None | Some s ↦ part_type s j ]) o.found ∙ o.parts j ∙ x.there in
          let listed : IsIn (j, x.first) (list_of held_parts (slice_get table t)) =
          subst (λ s. IsIn (j, x.first) (list_of held_parts s)) (sym o.found) (subst (IsIn (j, x.first)) (sym o.held) (at-numbered o.types j x.first x.there)) in
          let no_variant : is_variant table (Some t) ≡ false = ap (λ (s : Option Shape). elim s [ None ↦ false | Some s ↦ is_cases s ]) o.found ∙ o.closed in
          record {
            first = t;
            there = there;
            type = x.type;
            below = ap (λ u. type_below table u r) next ∙ x.below;
            typed = x.typed;
            leads = (x.first, listed, x.leads);
            direct = ap₂ (λ a u. a || enters_component table u r) no_variant next ∙ x.direct;
          }

      read_below : ((types : List ℕ) (qs : Parts N) → Fits table (exactly (map (a_value partly) types)) qs → cell_at (j ∷ r) qs ≡ Some c → Reading types j r c) → (d : Option (Cell N)) → part_at i ps ≡ d → cell_at (j ∷ r) (inside d) ≡ Some c → Reading ts i (j ∷ r) c
      read_below again None at e = none-not_some (sym (none-there (j ∷ r)) ∙ e)
      read_below again (Some (cell n k qs)) at e =
          let x = typed-part ts ps i (cell n k qs) h at in read_open again x.type x.there n k qs x.typed (opens k) refl e

  -- so it is one of the listed paths
  pub read-listed : (variables : List ℕ) → ((t : ℕ) → IsIn t variables → IsTrue (is_within_depth greatest_depth table t)) → (i : ℕ) (q : List ℕ) (ps : Parts N) (c : Cell N)
      → HaveTypes table variables ps → cell_at (i ∷ q) ps ≡ Some c → IsIn (i ∷ q) (variable_paths held_parts table variables)
  read-listed variables deep i q ps c h e =
      let r = typed-read variables i q ps c h e in
      let at = at-numbered variables i r.first r.there in
      in-flat_map (λ (v : ℕ × ℕ). map (v.0 ∷◌) (part_paths held_parts table v.1)) (i, r.first) (i ∷ q) (numbered 0 variables) at
      (in-map (i ∷◌) q (part_paths held_parts table r.first) (steps-listed held_parts table held-named greatest_depth r.first (deep r.first (got-IsIn variables i r.first r.there)) q r.leads))
