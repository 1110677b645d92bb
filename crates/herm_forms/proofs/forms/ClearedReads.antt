-- What is left where paths are cleared: tables as they were, and the scalars of the fields that stay.
use Rattle.std.proofs.Common.{◌≡◌, inl, inr, ℕ, List, [], ◌∷◌, ◌++◌, Bool, true, false, Option, Some, None, option_map, refl, sym, ap, ◌∙◌, subst}
use Rattle.std.specs.Prelude.{IsTrue, is_some, nat_eq}
use mathlib.Core.Bool.{false≢true}
use borrow.Author.Tests.{eqb-true}
use Rattle.herm_model.specs.Lists.{IsIn, list_of}
use Rattle.herm_model.specs.Paths.{Path}
use Rattle.herm_model.specs.Values.{Scalar, Kind, a_scalar, a_record, a_variant, a_table, a_polymorph, a_callmessage, an_inport, an_outport, Cell, cell, kind_of, Parts, part_at, inside, cell_at, read_at, set_at, change_inside, clear_at}
use Rattle.herm_model.specs.Tables.{scalars_of}
use Rattle.herm_model.specs.Finalising.{clear_all}
use Rattle.herm_model.proofs.Options.{none-not_some, some-injective, is_some-map}
use Rattle.herm_model.proofs.Places.{read_below, read-below, part_at-change_same, set_at-none, inside-change, cell_at-set_above}
use Rattle.herm_forms.proofs.Dropped.{same_test, cleared_part, set-other}
use Rattle.herm_forms.proofs.forms.ReadTypes.{read-nothing}

abbrev is_table : Kind → Bool
is_table a_table = true
is_table k = false

module _ (N : Type 0) where
  table-inside : (h : Parts N → Parts N) (d : Cell N) (n : N) (rs : Parts N) → change_inside h d ≡ cell n a_table rs → d ≡ cell n a_table rs
  table-inside h (cell m a_table qs) n rs e = e
  table-inside h (cell m k qs) n rs e = absurd (false≢true (ap (λ (c : Cell N). is_table (kind_of c)) e))

  below-inside : (f : Parts N → Parts N) (s : Path) (o : Option (Cell N)) (n : N) (rs : Parts N) → ((l : ℕ) (s : Path) (qs : Parts N) → read_at (l ∷ s) (f qs) ≡ Some (cell n a_table rs) → read_at (l ∷ s) qs ≡ Some (cell n a_table rs))
      → read_below s (option_map (change_inside f) o) ≡ Some (cell n a_table rs) → read_below s o ≡ Some (cell n a_table rs)
  below-inside f s None n rs again h = h
  below-inside f [] (Some d) n rs again h = ap Some (table-inside f d n rs (some-injective h))
  below-inside f (l ∷ s) (Some (cell m a_record qs)) n rs again h = again l s qs h
  below-inside f (l ∷ s) (Some (cell m (a_callmessage x y) qs)) n rs again h = again l s qs h
  below-inside f (l ∷ s) (Some (cell m (a_variant x) qs)) n rs again h = h
  below-inside f (l ∷ s) (Some (cell m (a_scalar x) qs)) n rs again h = h
  below-inside f (l ∷ s) (Some (cell m a_table qs)) n rs again h = h
  below-inside f (l ∷ s) (Some (cell m (a_polymorph x) qs)) n rs again h = h
  below-inside f (l ∷ s) (Some (cell m (an_inport x) qs)) n rs again h = h
  below-inside f (l ∷ s) (Some (cell m (an_outport x) qs)) n rs again h = h

  first-step : (q : Path) (i k : ℕ) (s : Path) (ps : Parts N) (c : Cell N) → (read_below s (part_at i (set_at (i ∷ q) None ps)) ≡ Some c → read_below s (part_at i ps) ≡ Some c)
      → (b : Bool) → nat_eq i k ≡ b → read_below s (part_at k (set_at (i ∷ q) None ps)) ≡ Some c → read_below s (part_at k ps) ≡ Some c
  first-step q i k s ps c same true e h = subst (λ k. read_below s (part_at k (set_at (i ∷ q) None ps)) ≡ Some c → read_below s (part_at k ps) ≡ Some c) (eqb-true i k e) same h
  first-step q i k s ps c same false e h = sym (ap (read_below s) (set-other N i q k None ps (same_test i k e))) ∙ h

  -- a table that is read where a path was cleared was there
  reads-cleared : (q : Path) (i k : ℕ) (s : Path) (ps : Parts N) (n : N) (rs : Parts N) → read_at (k ∷ s) (set_at (i ∷ q) None ps) ≡ Some (cell n a_table rs) → read_at (k ∷ s) ps ≡ Some (cell n a_table rs)
  reads-cleared [] i k s ps n rs h =
      read-below k s ps ∙ first-step [] i k s ps (cell n a_table rs) (λ g. none-not_some (sym (read-nothing s) ∙ sym (ap (read_below s) (cleared_part N i ps)) ∙ g)) (nat_eq i k) refl (sym (read-below k s (set_at (i ∷ []) None ps)) ∙ h)
  reads-cleared (j ∷ q) i k s ps n rs h =
      read-below k s ps
      ∙ first-step (j ∷ q) i k s ps (cell n a_table rs)
      (λ g. below-inside (set_at (j ∷ q) None) s (part_at i ps) n rs (λ l s qs. reads-cleared q j l s qs n rs) (sym (ap (read_below s) (part_at-change_same i (change_inside (set_at (j ∷ q) None)) ps)) ∙ g))
      (nat_eq i k) refl (sym (read-below k s (set_at (i ∷ j ∷ q) None ps)) ∙ h)

  pub all-reads : (lost : List Path) (k : ℕ) (s : Path) (ps : Parts N) (n : N) (rs : Parts N) → read_at (k ∷ s) (clear_all lost ps) ≡ Some (cell n a_table rs) → read_at (k ∷ s) ps ≡ Some (cell n a_table rs)
  all-reads [] k s ps n rs h = h
  all-reads ([] ∷ lost) k s ps n rs h = all-reads lost k s ps n rs h
  all-reads ((i ∷ q) ∷ lost) k s ps n rs h = reads-cleared q i k s ps n rs (all-reads lost k s (clear_at (i ∷ q) ps) n rs h)

  -- the scalar at a field of a cell
  abbrev pub field : ℕ → Cell N → List Scalar
  field i c = list_of scalars_of (part_at i (inside (Some c)))

  -- a field of a cell that is there was there with the same scalar
  abbrev pub Kept : ℕ → Cell N → Cell N → Type 0
  Kept i e d = IsTrue (is_some (part_at i (inside (Some e)))) → IsTrue (is_some (part_at i (inside (Some d)))) × (field i e ≡ field i d)

  same-scalars : (h : Parts N → Parts N) (o : Option (Cell N)) → list_of scalars_of (option_map (change_inside h) o) ≡ list_of scalars_of o
  same-scalars h None = refl
  same-scalars h (Some (cell m (a_scalar x) qs)) = refl
  same-scalars h (Some (cell m k qs)) = refl

  part-kept : (i j : ℕ) (s : Path) (ps : Parts N) → IsTrue (is_some (part_at i (set_at (j ∷ s) None ps))) → IsTrue (is_some (part_at i ps)) × (list_of scalars_of (part_at i (set_at (j ∷ s) None ps)) ≡ list_of scalars_of (part_at i ps))
  part-kept i j s ps h = by (nat_eq j i) refl h
    where
      Same : ℕ → Type 0
      Same i = IsTrue (is_some (part_at i (set_at (j ∷ s) None ps))) → IsTrue (is_some (part_at i ps)) × (list_of scalars_of (part_at i (set_at (j ∷ s) None ps)) ≡ list_of scalars_of (part_at i ps))

      here : (s : Path) → IsTrue (is_some (part_at j (set_at (j ∷ s) None ps))) → IsTrue (is_some (part_at j ps)) × (list_of scalars_of (part_at j (set_at (j ∷ s) None ps)) ≡ list_of scalars_of (part_at j ps))
      here [] h = absurd (false≢true (sym (ap is_some (cleared_part N j ps)) ∙ h))
      here (l ∷ s) h =
          let same = part_at-change_same j (change_inside (set_at (l ∷ s) None)) ps in
          (sym (is_some-map (change_inside (set_at (l ∷ s) None)) (part_at j ps)) ∙ sym (ap is_some same) ∙ h, ap (list_of scalars_of) same ∙ same-scalars (set_at (l ∷ s) None) (part_at j ps))

      by : (b : Bool) → nat_eq j i ≡ b → Same i
      by true e = subst Same (eqb-true j i e) (here s)
      by false e = λ h. let same = set-other N j s i None ps (same_test j i e) in (sym (ap is_some same) ∙ h, ap (list_of scalars_of) same)

  field-kept : (i j : ℕ) (s : Path) (d : Cell N) → Kept i (change_inside (set_at (j ∷ s) None) d) d
  field-kept i j s d h =
      let is = inside-change (set_at (j ∷ s) None) (Some d) (set_at-none (j ∷ s) None) in
      let r = part-kept i j s (inside (Some d)) (sym (ap (λ qs. is_some (part_at i qs)) is) ∙ h) in
      (r.0, ap (λ qs. list_of scalars_of (part_at i qs)) is ∙ r.1)

  -- the fields of what is at a path, where paths below it were cleared
  pub fields-kept : (i : ℕ) (q : Path) (lost : List Path) → ((p : Path) → IsIn p lost → (j : ℕ) × (s : Path) × (p ≡ (i ∷ q) ++ j ∷ s)) → (ps : Parts N) (d e : Cell N) → cell_at (i ∷ q) ps ≡ Some d → cell_at (i ∷ q) (clear_all lost ps) ≡ Some e → (k : ℕ) → Kept k e d
  fields-kept i q [] below ps d e at at' k h =
      let same : d ≡ e = some-injective (sym at ∙ at') in
      subst (λ d. IsTrue (is_some (part_at k (inside (Some d)))) × (field k e ≡ field k d)) (sym same) (h, refl)
  fields-kept i q (p ∷ lost) below ps d e at at' k h =
      let b = below p (inl refl) in
      let first : cell_at (i ∷ q) (clear_at p ps) ≡ Some (change_inside (set_at (b.0 ∷ b.1) None) d) =
      ap (λ p. cell_at (i ∷ q) (clear_at p ps)) b.2 ∙ cell_at-set_above i q b.0 b.1 None ps ∙ ap (option_map (change_inside (set_at (b.0 ∷ b.1) None))) at in
      let r = fields-kept i q lost (λ p h. below p (inr h)) (clear_at p ps) (change_inside (set_at (b.0 ∷ b.1) None) d) e first at' k h in
      let s = field-kept k b.0 b.1 d r.0 in (s.0, r.1 ∙ s.1)
