-- What is lost of one of several paths that are apart, and what was taken first.
use Rattle.std.proofs.Common.{◌≡◌, ◌⊎◌, inl, inr, ℕ, List, [], ◌∷◌, ◌++◌, Bool, true, false, not, ◌||◌, nat_eq, Option, Some, None, option_map, refl, sym, ap, ◌∙◌, subst}
use Rattle.std.specs.Prelude.{flat_map, IsTrue}
use mathlib.Core.Bool.{false≢true}
use borrow.Author.Tests.{eqb-true, eq-eqb}
use Rattle.herm_model.specs.Lists.{IsIn}
use Rattle.herm_model.specs.Paths.{Path, are_apart}
use Rattle.herm_model.specs.Values.{Cell, Parts, cell_at, change_inside, set_at, clear_at}
use Rattle.herm_model.specs.Finalising.{clear_all}
use Rattle.herm_model.proofs.Lists.{or-either, or-left, or-right}
use Rattle.herm_model.proofs.Places.{cell_at-set_above, cell_at-set_apart}
use Rattle.herm_model.proofs.Options.{some-injective, none-not_some}
use Rattle.herm_forms.specs.Frames.{Name, Frame, cleared, Taken, with_taken, take_all}
use Rattle.herm_model.specs.TypedStatements.{AreApart}

pub clear-append : (xs ys : List Path) (ps : Parts Name) → clear_all (xs ++ ys) ps ≡ clear_all ys (clear_all xs ps)
clear-append [] ys ps = refl
clear-append (x ∷ xs) ys ps = clear-append xs ys (clear_at x ps)

-- what was taken first, and then the rest
pub record First (p : Path) (paths : List Path) (b : Frame Name) (t : Taken Name) : Type 0 where
  pub cell : Cell Name
  pub at : cell_at p b.variables ≡ Some cell
  pub rest : Taken Name
  pub next : take_all paths (cleared p b) ≡ Some rest
  pub cells : t.cells ≡ cell ∷ rest.cells

pub first-taken : (p : Path) (paths : List Path) (b : Frame Name) (t : Taken Name) → take_all (p ∷ paths) b ≡ Some t → First p paths b t
first-taken p paths b t e = by (cell_at p b.variables) refl e
  where
    more : (d : Cell Name) → cell_at p b.variables ≡ Some d → (x : Option (Taken Name)) → take_all paths (cleared p b) ≡ x → with_taken d x ≡ Some t → First p paths b t
    more d at None next e = none-not_some e
    more d at (Some u) next e = record { cell = d; at = at; rest = u; next = next; cells = ap (λ (t : Taken Name). t.cells) (sym (some-injective e)) }

    by : (x : Option (Cell Name)) → cell_at p b.variables ≡ x → elim x [ None ↦ None | Some d ↦ with_taken d (take_all paths (cleared p b)) ] ≡ Some t → First p paths b t
    by None at e = none-not_some e
    by (Some d) at e = more d at (take_all paths (cleared p b)) refl e

apart-longer : (x y r : Path) → IsTrue (are_apart x y) → IsTrue (are_apart (x ++ r) y)
apart-longer [] y r h = absurd (false≢true h)
apart-longer (i ∷ p) [] r h = absurd (false≢true h)
apart-longer (i ∷ p) (j ∷ q) r h = by (or-either (not (nat_eq i j)) (are_apart p q) h) (λ a. apart-longer p q r a)
  where
    by : IsTrue (not (nat_eq i j)) ⊎ IsTrue (are_apart p q) → (IsTrue (are_apart p q) → IsTrue (are_apart (p ++ r) q)) → IsTrue (not (nat_eq i j) || are_apart (p ++ r) q)
    by (inl n) again = or-left (not (nat_eq i j)) (are_apart (p ++ r) q) n
    by (inr a) again = or-right (not (nat_eq i j)) (are_apart (p ++ r) q) (again a)

unlike-back : (i j : ℕ) → IsTrue (not (nat_eq i j)) → IsTrue (not (nat_eq j i))
unlike-back i j n = by (nat_eq j i) refl
  where
    by : (b : Bool) → nat_eq j i ≡ b → IsTrue (not b)
    by false e = refl
    by true e = absurd (false≢true (sym (ap not (eq-eqb i j (sym (eqb-true j i e)))) ∙ n))

pub apart-back : (x y : Path) → IsTrue (are_apart x y) → IsTrue (are_apart y x)
apart-back [] y h = absurd (false≢true h)
apart-back (i ∷ p) [] h = absurd (false≢true h)
apart-back (i ∷ p) (j ∷ q) h = by (or-either (not (nat_eq i j)) (are_apart p q) h) (λ a. apart-back p q a)
  where
    by : IsTrue (not (nat_eq i j)) ⊎ IsTrue (are_apart p q) → (IsTrue (are_apart p q) → IsTrue (are_apart q p)) → IsTrue (not (nat_eq j i) || are_apart q p)
    by (inl n) again = or-left (not (nat_eq j i)) (are_apart q p) (unlike-back i j n)
    by (inr a) again = or-right (not (nat_eq j i)) (are_apart q p) (again a)

-- below a path, and not the path itself
abbrev pub IsBelow : Path → Path → Type 0
IsBelow x p = (j : ℕ) × (s : Path) × (p ≡ x ++ j ∷ s)

others-stay : (x y : Path) → IsTrue (are_apart x y) → (lost : List Path) → ((p : Path) → IsIn p lost → IsBelow x p) → (ps : Parts Name) → cell_at y (clear_all lost ps) ≡ cell_at y ps
others-stay x y apart [] below ps = refl
others-stay x y apart (p ∷ lost) below ps =
    let z = below p (inl refl) in
    others-stay x y apart lost (λ p h. below p (inr h)) (clear_at p ps)
    ∙ ap (λ p. cell_at y (clear_at p ps)) z.2
    ∙ cell_at-set_apart (x ++ z.0 ∷ z.1) y None ps (apart-longer x y (z.0 ∷ z.1) apart)

inside-cell : (i : ℕ) (q : List ℕ) (p : Path) (z : IsBelow (i ∷ q) p) (ps : Parts Name) → cell_at (i ∷ q) (clear_at p ps) ≡ option_map (change_inside (set_at (z.0 ∷ z.1) None)) (cell_at (i ∷ q) ps)
inside-cell i q p z ps = ap (λ p. cell_at (i ∷ q) (clear_at p ps)) z.2 ∙ cell_at-set_above i q z.0 z.1 None ps

same-inside : (x : Path) (lost : List Path) → ((p : Path) → IsIn p lost → IsBelow x p) → (ps qs : Parts Name) → cell_at x ps ≡ cell_at x qs → cell_at x (clear_all lost ps) ≡ cell_at x (clear_all lost qs)
same-inside [] lost below ps qs same = refl
same-inside (i ∷ q) [] below ps qs same = same
same-inside (i ∷ q) (p ∷ lost) below ps qs same =
    let z = below p (inl refl) in
    same-inside (i ∷ q) lost (λ p h. below p (inr h)) (clear_at p ps) (clear_at p qs)
    (inside-cell i q p z ps ∙ ap (option_map (change_inside (set_at (z.0 ∷ z.1) None))) same ∙ sym (inside-cell i q p z qs))

module _ (lost : Path → List Path) where
  abbrev AreBelow : List Path → Type 0
  AreBelow xs = (x : Path) → IsIn x xs → (p : Path) → IsIn p (lost x) → IsBelow x p

  all-apart : (xs : List Path) → AreBelow xs → (y : Path) → ((x : Path) → IsIn x xs → IsTrue (are_apart x y)) → (ps : Parts Name) → cell_at y (clear_all (flat_map lost xs) ps) ≡ cell_at y ps
  all-apart [] below y apart ps = refl
  all-apart (x ∷ xs) below y apart ps =
      ap (cell_at y) (clear-append (lost x) (flat_map lost xs) ps)
      ∙ all-apart xs (λ x h. below x (inr h)) y (λ x h. apart x (inr h)) (clear_all (lost x) ps)
      ∙ others-stay x y (apart x (inl refl)) (lost x) (below x (inl refl)) ps

  -- of a path that is apart from the others, what is lost of these makes no difference
  pub lost-own : (xs : List Path) → AreBelow xs → AreApart xs → (y : Path) → IsIn y xs → (ps qs : Parts Name) → cell_at y ps ≡ cell_at y qs → cell_at y (clear_all (flat_map lost xs) ps) ≡ cell_at y (clear_all (lost y) qs)
  lost-own [] below apart y h ps qs same = absurd h
  lost-own (x ∷ xs) below apart y (inl e) ps qs same =
      ap (λ x. cell_at y (clear_all (lost x ++ flat_map lost xs) ps)) (sym e)
      ∙ ap (cell_at y) (clear-append (lost y) (flat_map lost xs) ps)
      ∙ all-apart xs (λ x h. below x (inr h)) y (λ z h. subst (λ x. IsTrue (are_apart z x)) (sym e) (apart-back x z (apart.0 z h))) (clear_all (lost y) ps)
      ∙ same-inside y (lost y) (below y (inl e)) ps qs same
  lost-own (x ∷ xs) below apart y (inr h) ps qs same =
      ap (cell_at y) (clear-append (lost x) (flat_map lost xs) ps)
      ∙ lost-own xs (λ x h. below x (inr h)) apart.1 y h (clear_all (lost x) ps) qs (others-stay x y (apart.0 y h) (lost x) (below x (inl refl)) ps ∙ same)
