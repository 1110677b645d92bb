-- Tables that are read where paths were cleared are as they were.
use Rattle.std.proofs.Common.{◌≡◌, ℕ, List, [], ◌∷◌, Bool, true, false, Option, Some, None, option_map, refl, sym, ap, ◌∙◌, subst}
use Rattle.std.specs.Prelude.{nat_eq}
use borrow.Author.Tests.{eqb-true}
use Rattle.herm_model.specs.Paths.{Path}
use Rattle.herm_model.specs.Values.{Kind, a_scalar, a_record, a_variant, a_table, a_polymorph, a_callmessage, an_inport, an_outport, Cell, cell, kind_of, Parts, part_at, read_at, set_at, change_inside, clear_at}
use Rattle.herm_model.specs.Finalising.{clear_all}
use Rattle.herm_model.proofs.Options.{none-not_some, some-injective}
use Rattle.herm_model.proofs.Places.{read_below, read-below, part_at-change_same}
use Rattle.herm_forms.proofs.Dropped.{same_test, cleared_part, set-other}
use Rattle.herm_forms.proofs.forms.ReadTypes.{read-nothing}
use Rattle.herm_forms.proofs.forms.ClearedReads.{all-reads}

module _ (N : Type 0) where
  -- there is a cell of this kind
  abbrev Had : Option (Cell N) → Kind → Type 0
  Had o k = (c : Cell N) × (o ≡ Some c) × (kind_of c ≡ k)

  kind-inside : (h : Parts N → Parts N) (d : Cell N) → kind_of (change_inside h d) ≡ kind_of d
  kind-inside h (cell m k qs) = refl

  had-inside : (f : Parts N → Parts N) (s : Path) (o : Option (Cell N)) (c : Cell N) → ((l : ℕ) (s : Path) (qs : Parts N) → read_at (l ∷ s) (f qs) ≡ Some c → Had (read_at (l ∷ s) qs) (kind_of c))
      → read_below s (option_map (change_inside f) o) ≡ Some c → Had (read_below s o) (kind_of c)
  had-inside f s None c again h = (c, h, refl)
  had-inside f [] (Some d) c again h = (d, refl, sym (kind-inside f d) ∙ ap kind_of (some-injective h))
  had-inside f (l ∷ s) (Some (cell m a_record qs)) c again h = again l s qs h
  had-inside f (l ∷ s) (Some (cell m (a_callmessage x y) qs)) c again h = again l s qs h
  had-inside f (l ∷ s) (Some (cell m (a_variant x) qs)) c again h = (c, h, refl)
  had-inside f (l ∷ s) (Some (cell m (a_scalar x) qs)) c again h = (c, h, refl)
  had-inside f (l ∷ s) (Some (cell m a_table qs)) c again h = (c, h, refl)
  had-inside f (l ∷ s) (Some (cell m (a_polymorph x) qs)) c again h = (c, h, refl)
  had-inside f (l ∷ s) (Some (cell m (an_inport x) qs)) c again h = (c, h, refl)
  had-inside f (l ∷ s) (Some (cell m (an_outport x) qs)) c again h = (c, h, refl)

  first-had : (q : Path) (i k : ℕ) (s : Path) (ps : Parts N) (c : Cell N) → (read_below s (part_at i (set_at (i ∷ q) None ps)) ≡ Some c → Had (read_below s (part_at i ps)) (kind_of c))
      → (b : Bool) → nat_eq i k ≡ b → read_below s (part_at k (set_at (i ∷ q) None ps)) ≡ Some c → Had (read_below s (part_at k ps)) (kind_of c)
  first-had q i k s ps c same true e h = subst (λ k. read_below s (part_at k (set_at (i ∷ q) None ps)) ≡ Some c → Had (read_below s (part_at k ps)) (kind_of c)) (eqb-true i k e) same h
  first-had q i k s ps c same false e h = (c, sym (ap (read_below s) (set-other N i q k None ps (same_test i k e))) ∙ h, refl)

  -- what is read where a path was cleared was there with its kind
  had-cleared : (q : Path) (i k : ℕ) (s : Path) (ps : Parts N) (c : Cell N) → read_at (k ∷ s) (set_at (i ∷ q) None ps) ≡ Some c → Had (read_at (k ∷ s) ps) (kind_of c)
  had-cleared [] i k s ps c h =
      subst (λ o. Had o (kind_of c)) (sym (read-below k s ps))
      (first-had [] i k s ps c (λ g. none-not_some (sym (read-nothing s) ∙ sym (ap (read_below s) (cleared_part N i ps)) ∙ g)) (nat_eq i k) refl (sym (read-below k s (set_at (i ∷ []) None ps)) ∙ h))
  had-cleared (j ∷ q) i k s ps c h =
      subst (λ o. Had o (kind_of c)) (sym (read-below k s ps))
      (first-had (j ∷ q) i k s ps c
      (λ g. had-inside (set_at (j ∷ q) None) s (part_at i ps) c (λ l s qs. had-cleared q j l s qs c) (sym (ap (read_below s) (part_at-change_same i (change_inside (set_at (j ∷ q) None)) ps)) ∙ g))
      (nat_eq i k) refl (sym (read-below k s (set_at (i ∷ j ∷ q) None ps)) ∙ h))

  all-had : (lost : List Path) (k : ℕ) (s : Path) (ps : Parts N) (c : Cell N) → read_at (k ∷ s) (clear_all lost ps) ≡ Some c → Had (read_at (k ∷ s) ps) (kind_of c)
  all-had [] k s ps c h = (c, h, refl)
  all-had ([] ∷ lost) k s ps c h = all-had lost k s ps c h
  all-had ((i ∷ q) ∷ lost) k s ps c h =
      let later = all-had lost k s (clear_at (i ∷ q) ps) c h in
      let first = had-cleared q i k s ps later.0 later.1 in
      (first.0, first.1, first.2 ∙ later.2)

  -- a table is as it was, where it is still there
  stays-all : (lost : List Path) (k : ℕ) (s : Path) (ps : Parts N) (n : N) (rs : Parts N) (c : Cell N) → read_at (k ∷ s) ps ≡ Some (cell n a_table rs) → read_at (k ∷ s) (clear_all lost ps) ≡ Some c → c ≡ cell n a_table rs
  stays-all lost k s ps n rs c at now =
      let had = all-had lost k s ps c now in
      by c (sym had.2 ∙ ap kind_of (some-injective (sym had.1 ∙ at))) now
    where
      by : (c : Cell N) → kind_of c ≡ a_table → read_at (k ∷ s) (clear_all lost ps) ≡ Some c → c ≡ cell n a_table rs
      by (cell m kind qs) is now =
          let e : cell m kind qs ≡ cell m a_table qs = ap (λ kind. cell m kind qs) is in
          e ∙ some-injective (sym (all-reads N lost k s ps m qs (now ∙ ap Some e)) ∙ at)

  -- what is read then was there
  pub table-had : (lost : List Path) (r : Path) (k : ℕ) (s : Path) (ps : Parts N) (c : Cell N) → read_at (k ∷ s) (clear_at r (clear_all lost ps)) ≡ Some c → (d : Cell N) × (read_at (k ∷ s) ps ≡ Some d)
  table-had lost r k s ps c now =
      let had = all-had (r ∷ []) k s (clear_all lost ps) c now in
      let first = all-had lost k s ps had.0 had.1 in (first.0, first.1)

  pub table-stays : (lost : List Path) (r : Path) (k : ℕ) (s : Path) (ps : Parts N) (n : N) (rs : Parts N) (c : Cell N) → read_at (k ∷ s) ps ≡ Some (cell n a_table rs) → read_at (k ∷ s) (clear_at r (clear_all lost ps)) ≡ Some c → c ≡ cell n a_table rs
  table-stays lost r k s ps n rs c at now =
      let had = all-had (r ∷ []) k s (clear_all lost ps) c now in
      let first = stays-all lost k s ps n rs had.0 at had.1 in
      stays-all (r ∷ []) k s (clear_all lost ps) n rs c (had.1 ∙ ap Some first) now
