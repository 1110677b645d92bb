-- What is taken out of paths that are apart is full, each without what it holds beyond.
use Rattle.std.proofs.Common.{◌≡◌, inl, inr, ℕ, List, [], ◌∷◌, Bool, Option, Some, None, refl, sym, ap, ◌∙◌, subst}
use Rattle.std.specs.Prelude.{flat_map, IsTrue}
use Rattle.herm_model.specs.Lists.{IsIn, list_of}
use Rattle.herm_model.specs.Paths.{Path, Fact}
use Rattle.herm_model.specs.Types.{type_at, is_within_depth, greatest_depth}
use Rattle.herm_model.specs.Facts.{full_facts}
use Rattle.herm_model.specs.FactsOfStatements.{full, full_of_each}
use Rattle.herm_model.specs.Values.{Cell, cell_at}
use Rattle.herm_model.specs.Typed.{IsFull}
use Rattle.herm_model.specs.Finalising.{clear_all}
use Rattle.herm_model.proofs.Lists.{in-flat_map, in-append_right}
use Rattle.herm_model.proofs.Places.{cell_at-set_apart}
use Rattle.herm_model.proofs.Options.{some-injective, none-not_some}
use Rattle.herm_forms.specs.Frames.{Name, Frame, cleared, drop, Taken, take_all}
use Rattle.herm_forms.specs.Excess.{excess_over_full}
use Rattle.herm_forms.specs.Modules.{Module}
use Rattle.herm_journal.specs.Messages.{AreFull}
use Rattle.herm_forms.specs.laws.EdgeLaws.{AreSound}
use Rattle.herm_forms.specs.laws.CallLaws.{HaveTypesAt}
use Rattle.herm_model.specs.TypedStatements.{AreApart}
use Rattle.herm_forms.proofs.Arrived.{drop-variables}
use Rattle.herm_forms.proofs.forms.SetTargets.{there-direct, in-full}
use Rattle.herm_forms.proofs.forms.ExcessDropped.{no-source, source-full}
use Rattle.herm_forms.proofs.forms.FullSources.{lost-below}
use Rattle.herm_forms.proofs.called.LostApart.{IsBelow, lost-own, first-taken}

module _ (c : Module) (has : Fact → Bool) (b : Frame Name) (sound : AreSound c has b.variables) where
  -- the path has a type within the limit, and its full facts are held
  pub record IsFit (x : Path) : Type 0 where
    pub first : ℕ
    pub more : List ℕ
    pub is : x ≡ first ∷ more
    pub type : ℕ
    pub typed : type_at c.types c.variables (first ∷ more) ≡ Some type
    pub deep : IsTrue (is_within_depth greatest_depth c.types type)
    pub needed : (f : Fact) → IsIn f (full c.types c.variables (first ∷ more)) → IsTrue (has f)

  pub fit-in : (xs : List Path) (ts : List ℕ) → HaveTypesAt c xs ts → ((f : Fact) → IsIn f (full_of_each c.types c.variables xs) → IsTrue (has f)) → (x : Path) → IsIn x xs → IsFit x
  fit-in [] ts at needed x h = absurd h
  fit-in (y ∷ xs) [] at needed x h = absurd at
  fit-in ([] ∷ xs) (t ∷ ts) at needed x (inl e) = none-not_some at.0
  fit-in ((i ∷ q) ∷ xs) (t ∷ ts) at needed x (inl e) =
      record { first = i; more = q; is = e; type = t; typed = at.0; deep = at.1; needed = λ f h. needed f (in-flat_map (full c.types c.variables) (i ∷ q) f ((i ∷ q) ∷ xs) (inl refl) h) }
  fit-in (y ∷ xs) (t ∷ ts) at needed x (inr h) = fit-in xs ts at.2 (λ f m. needed f (in-append_right f (full c.types c.variables y) (full_of_each c.types c.variables xs) m)) x h

  module _ (i : ℕ) (q : List ℕ) (t : ℕ) (type : type_at c.types c.variables (i ∷ q) ≡ Some t) (deep : IsTrue (is_within_depth greatest_depth c.types t)) (needed : (f : Fact) → IsIn f (full c.types c.variables (i ∷ q)) → IsTrue (has f)) where
    nothing-lost : cell_at (i ∷ q) b.variables ≡ None → excess_over_full c (i ∷ q) b ≡ []
    nothing-lost at = no-source c i q has b sound (type_at c.types c.variables (i ∷ q)) (list_of (λ t. full_facts c.types t (0 ∷ [])) (type_at c.types c.variables (i ∷ q))) at

    lost-under : (y : Option (Cell Name)) → cell_at (i ∷ q) b.variables ≡ y → (p : Path) → IsIn p (excess_over_full c (i ∷ q) b) → IsBelow (i ∷ q) p
    lost-under None at p h = absurd (subst (IsIn p) (nothing-lost at) h)
    lost-under (Some d) at p h = lost-below c i q t type deep has b sound needed d at p h

    left-full : (y : Option (Cell Name)) → cell_at (i ∷ q) b.variables ≡ y → (d : Cell Name) → cell_at (i ∷ q) (clear_all (excess_over_full c (i ∷ q) b) b.variables) ≡ Some d → IsFull c.types t d
    left-full None at d left = none-not_some (sym (ap (λ lost. cell_at (i ∷ q) (clear_all lost b.variables)) (nothing-lost at) ∙ at) ∙ left)
    left-full (Some e) at d left =
        let s = source-full c i q has b sound t type deep (λ f h. needed f (in-full c i q t type (there-direct c i q b.variables e sound.types at) f h)) e at in
        subst (IsFull c.types t) (some-injective (sym s.1 ∙ ap (cell_at (i ∷ q)) (drop-variables (excess_over_full c (i ∷ q) b) b) ∙ left)) s.2

  pub fit-below : (x : Path) → IsFit x → (p : Path) → IsIn p (excess_over_full c x b) → IsBelow x p
  fit-below x f p h =
      subst (λ x. IsBelow x p) (sym f.is)
      (lost-under f.first f.more f.type f.typed f.deep f.needed (cell_at (f.first ∷ f.more) b.variables) refl p (subst (λ x. IsIn p (excess_over_full c x b)) f.is h))

  takes-full : (xs : List Path) (ts : List ℕ) → HaveTypesAt c xs ts → AreApart xs → (cut : Frame Name) (t : Taken Name) → ((f : Fact) → IsIn f (full_of_each c.types c.variables xs) → IsTrue (has f))
      → ((x : Path) → IsIn x xs → cell_at x cut.variables ≡ cell_at x (clear_all (excess_over_full c x b) b.variables)) → take_all xs cut ≡ Some t → AreFull c.types ts t.cells
  takes-full [] [] at apart cut t needed same e = subst (AreFull c.types []) (ap (λ (t : Taken Name). t.cells) (some-injective e)) tt
  takes-full [] (u ∷ us) at apart cut t needed same e = absurd at
  takes-full (y ∷ xs) [] at apart cut t needed same e = absurd at
  takes-full ([] ∷ xs) (u ∷ us) at apart cut t needed same e = none-not_some at.0
  takes-full ((i ∷ q) ∷ xs) (u ∷ us) at apart cut t needed same e =
      let f = first-taken (i ∷ q) xs cut t e in
      subst (AreFull c.types (u ∷ us)) (sym f.cells) (
        left-full i q u at.0 at.1 (λ g h. needed g (in-flat_map (full c.types c.variables) (i ∷ q) g ((i ∷ q) ∷ xs) (inl refl) h)) (cell_at (i ∷ q) b.variables) refl f.cell (sym (same (i ∷ q) (inl refl)) ∙ f.at),
        takes-full xs us at.2 apart.1 (cleared (i ∷ q) cut) f.rest
            (λ g m. needed g (in-append_right g (full c.types c.variables (i ∷ q)) (full_of_each c.types c.variables xs) m))
            (λ x h. cell_at-set_apart (i ∷ q) x None cut.variables (apart.0 x h) ∙ same x (inr h)) f.next,
      )

  -- what is taken of paths that are apart and have their full facts is full
  pub apart-full : (xs : List Path) (ts : List ℕ) → HaveTypesAt c xs ts → AreApart xs → ((f : Fact) → IsIn f (full_of_each c.types c.variables xs) → IsTrue (has f)) → (cut : Frame Name) → cut.variables ≡ b.variables → (t : Taken Name)
      → take_all xs (drop (flat_map (λ p. excess_over_full c p b) xs) cut) ≡ Some t → AreFull c.types ts t.cells
  apart-full xs ts at apart needed cut before t e =
      let lost = flat_map (λ p. excess_over_full c p b) xs in
      takes-full xs ts at apart (drop lost cut) t needed
      (λ x h. ap (cell_at x) (drop-variables lost cut ∙ ap (clear_all lost) before)
      ∙ lost-own (λ p. excess_over_full c p b) xs (λ x h p l. fit-below x (fit-in xs ts at needed x h) p l) apart x h b.variables b.variables refl) e
