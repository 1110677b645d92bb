-- What is taken out of several parts of one value, each without what it holds beyond its facts.
use Rattle.std.proofs.Common.{◌≡◌, inl, inr, ℕ, List, [], ◌∷◌, ◌++◌, map, Bool, true, false, not, ◌&&◌, ◌||◌, Option, Some, None, refl, sym, ap, ◌∙◌, subst, nat_eq}
use Rattle.std.specs.Prelude.{IsTrue, is_some, ⊤}
use mathlib.Core.Bool.{true≢false}
use borrow.Author.Tests.{eqb-true, eq-eqb}
use Rattle.herm_model.specs.Lists.{IsIn}
use Rattle.herm_model.specs.Paths.{Path, are_apart}
use Rattle.herm_model.specs.Statements.{Differ}
use Rattle.herm_model.specs.Values.{Cell, Parts, cell_at, has_value, clear_at}
use Rattle.herm_model.proofs.Lists.{or-right, in-map_from}
use Rattle.herm_model.proofs.Beginnings.{below-self}
use Rattle.herm_model.proofs.Places.{cell_at-set_apart}
use Rattle.herm_model.proofs.Options.{some-injective, none-not_some}
use Rattle.herm_forms.specs.Frames.{Name, Frame, cleared, Taken, take_all}
use Rattle.herm_model.specs.TypedStatements.{AreApart}
use Rattle.herm_forms.proofs.Dropped.{cleared-has}
use Rattle.herm_forms.proofs.called.LostApart.{First, first-taken}

-- different parts of one value are apart, and what is below them
unlike : (n k : ℕ) (a : Bool) → (n ≡ k → ⊥) → IsTrue (not (nat_eq n k) || a)
unlike n k a differ = by (nat_eq n k) refl
  where
    by : (t : Bool) → nat_eq n k ≡ t → IsTrue (not t || a)
    by true e = absurd (differ (eqb-true n k e))
    by false e = refl

parts-apart : (p : Path) (n k : ℕ) → (n ≡ k → ⊥) → IsTrue (are_apart (p ++ n ∷ []) (p ++ k ∷ []))
parts-apart [] n k differ = unlike n k (are_apart [] []) differ
parts-apart (i ∷ p) n k differ = or-right (not (nat_eq i i)) (are_apart (p ++ n ∷ []) (p ++ k ∷ [])) (parts-apart p n k differ)

module _ (i : ℕ) (q : List ℕ) where
  -- the part at a place
  abbrev pub part_path : ℕ → Path
  part_path n = (i ∷ q) ++ n ∷ []

  -- different parts are apart
  pub parts-AreApart : (ns : List ℕ) → Differ ns → AreApart (map part_path ns)
  parts-AreApart [] differ = tt
  parts-AreApart (n ∷ ns) differ = (
    (λ y h. let k = in-map_from part_path y ns h in
        subst (λ y. IsTrue (are_apart (part_path n) y)) (sym k.2) (parts-apart (i ∷ q) n k.0 (λ e. differ.0 (subst (λ k. IsIn k ns) (sym e) k.1)))),
    parts-AreApart ns differ.1,
  )

  -- each cell that is taken is what the predicate says of its place
  abbrev pub AreGiven : (ℕ → Cell Name → Type 0) → List ℕ → List (Cell Name) → Type 0
  AreGiven Is [] [] = ⊤
  AreGiven Is [] (d ∷ ds) = ⊥
  AreGiven Is (n ∷ ns) [] = ⊥
  AreGiven Is (n ∷ ns) (d ∷ ds) = Is n d × AreGiven Is ns ds

  pub given-taken : (Is : ℕ → Cell Name → Type 0) (ns : List ℕ) → Differ ns → (b : Frame Name) (t : Taken Name) → ((n : ℕ) → IsIn n ns → (d : Cell Name) → cell_at (part_path n) b.variables ≡ Some d → Is n d)
      → take_all (map part_path ns) b ≡ Some t → AreGiven Is ns t.cells
  given-taken Is [] differ b t is e = subst (AreGiven Is []) (ap (λ (t : Taken Name). t.cells) (some-injective e)) tt
  given-taken Is (n ∷ ns) differ b t is e =
      let f = first-taken (part_path n) (map part_path ns) b t e in
      subst (AreGiven Is (n ∷ ns)) (sym f.cells) (
        is n (inl refl) f.cell f.at,
        given-taken Is ns differ.1 (cleared (part_path n) b) f.rest
            (λ k h d at. is k (inr h) d (sym (cell_at-set_apart (part_path n) (part_path k) None b.variables (parts-apart (i ∷ q) n k (λ e. differ.0 (subst (λ x. IsIn x ns) (sym e) h)))) ∙ at)) f.next,
      )

  and-nothing : (a : Bool) → a && false ≡ false
  and-nothing true = refl
  and-nothing false = refl

  cleared-none : (n : ℕ) (ps : Parts Name) → cell_at (part_path n) (clear_at (part_path n) ps) ≡ None
  cleared-none n ps =
      by (cell_at (part_path n) (clear_at (part_path n) ps))
      (cleared-has Name (q ++ n ∷ []) i (part_path n) ps ∙ ap (λ k. has_value ps (part_path n) && not k) (below-self (part_path n)) ∙ and-nothing (has_value ps (part_path n)))
    where
      by : (x : Option (Cell Name)) → is_some x ≡ false → x ≡ None
      by None e = refl
      by (Some d) e = absurd (true≢false e)

  -- where a part is not there, nothing is taken of it
  none-taken : (ns : List ℕ) (n : ℕ) → IsIn n ns → (b : Frame Name) (t : Taken Name) → cell_at (part_path n) b.variables ≡ None → take_all (map part_path ns) b ≡ Some t → ⊥
  none-taken [] n h b t none e = h
  none-taken (k ∷ ns) n (inl same) b t none e =
      let f = first-taken (part_path k) (map part_path ns) b t e in none-not_some (sym none ∙ ap (λ n. cell_at (part_path n) b.variables) same ∙ f.at)
  none-taken (k ∷ ns) n (inr h) b t none e =
      let f = first-taken (part_path k) (map part_path ns) b t e in
      by f (nat_eq n k) refl (λ differ. none-taken ns n h (cleared (part_path k) b) f.rest (cell_at-set_apart (part_path k) (part_path n) None b.variables (parts-apart (i ∷ q) k n differ) ∙ none) f.next)
    where
      by : First (part_path k) (map part_path ns) b t → (x : Bool) → nat_eq n k ≡ x → ((k ≡ n → ⊥) → ⊥) → ⊥
      by f true x on = none-not_some (sym none ∙ ap (λ n. cell_at (part_path n) b.variables) (eqb-true n k x) ∙ f.at)
      by f false x on = on (λ same. true≢false (sym (eq-eqb n k (sym same)) ∙ x))

  -- what was taken was taken at different places
  pub taken-differ : (ns : List ℕ) (b : Frame Name) (t : Taken Name) → take_all (map part_path ns) b ≡ Some t → Differ ns
  taken-differ [] b t e = tt
  taken-differ (n ∷ ns) b t e =
      let f = first-taken (part_path n) (map part_path ns) b t e in
      ((λ h. none-taken ns n h (cleared (part_path n) b) f.rest (cleared-none n b.variables) f.next), taken-differ ns (cleared (part_path n) b) f.rest f.next)
