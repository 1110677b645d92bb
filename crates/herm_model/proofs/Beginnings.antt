-- Paths that begin others.
use Rattle.std.proofs.Common.{◌≡◌, ℕ, List, [], ◌∷◌, ◌++◌, true, nat_eq, refl, sym, ap₂, subst}
use Rattle.std.proofs.lemmas.Bool.{eq-eqb, eqb-true}
use Rattle.herm_model.specs.Paths.{Path, is_at_or_below}
use Rattle.herm_model.proofs.Lists.{not_true, and-both, both-and}

-- q is a beginning of p
abbrev pub Begins : List ℕ → List ℕ → Type 0
Begins q p = (r : List ℕ) × (p ≡ q ++ r)

pub below-self : (p : Path) → is_at_or_below p p ≡ true
below-self [] = refl
below-self (i ∷ p) = both-and (nat_eq i i) _ (eq-eqb i i refl) (below-self p)

-- a path that another is at or below begins it
pub begins-with : (q p : Path) → is_at_or_below q p ≡ true → Begins q p
begins-with [] p h = (p, refl)
begins-with (i ∷ q) [] h = not_true h
begins-with (i ∷ q) (j ∷ p) h =
    let both = and-both (nat_eq i j) _ h in
    let r = begins-with q p both.1 in (r.0, ap₂ ◌∷◌ (sym (eqb-true i j both.0)) r.1)

-- what is at a path or below it stays so when it is longer
pub longer-below : (p q r : Path) → is_at_or_below p q ≡ true → is_at_or_below p (q ++ r) ≡ true
longer-below [] q r h = refl
longer-below (i ∷ p) [] r h = not_true h
longer-below (i ∷ p) (j ∷ q) r h = let both = and-both (nat_eq i j) _ h in both-and (nat_eq i j) _ both.0 (longer-below p q r both.1)

pub above-longer : (p r : Path) → is_at_or_below p (p ++ r) ≡ true
above-longer p r = longer-below p p r (below-self p)

pub below-trans : (p q r : Path) → is_at_or_below p q ≡ true → is_at_or_below q r ≡ true → is_at_or_below p r ≡ true
below-trans p q r h k = let b = begins-with q r k in subst (λ r. is_at_or_below p r ≡ true) (sym b.1) (longer-below p q b.0 h)
