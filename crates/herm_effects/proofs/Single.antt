-- A fact before which there is none, twice, is its list with prefixes once.
use Rattle.std.proofs.Common.{◌≡◌, ◌≤◌, ◌<◌, ℕ, List, [], ◌∷◌, ◌++◌, length, map, take, get_or, cond, not, true, ap, subst, ◌∙◌, arith}
use Rattle.herm_model.specs.Paths.{Fact, same_fact}
use Rattle.herm_model.specs.Types.{TypeTable}
use Rattle.herm_model.specs.Facts.{prefixes, without_repeats}
use Rattle.herm_model.specs.FactsOfStatements.{closed}
use Rattle.herm_model.proofs.Equality.{same_fact-is, same_fact_self}

twice : (types : TypeTable) (variables : List ℕ) (f : Fact) → prefixes types variables f ≡ [] → closed types variables (f ∷ f ∷ []) ≡ f ∷ []
twice types variables f e =
    ap (λ ps. without_repeats ((ps ++ f ∷ []) ++ ((ps ++ f ∷ []) ++ []))) e
    ∙ ap (λ b. f ∷ cond (not b) (f ∷ []) []) (same_fact_self f)

closed_twice : (types : TypeTable) (variables : List ℕ) (f g : Fact) → prefixes types variables f ≡ [] → same_fact f g ≡ true → closed types variables (f ∷ g ∷ []) ≡ f ∷ []
closed_twice types variables f g e same = subst (λ h. closed types variables (f ∷ h ∷ []) ≡ f ∷ []) (same_fact-is f g same) (twice types variables f e)

pub closed_first : {X : Type 0} (types : TypeTable) (variables : List ℕ) (view : X → Fact) (xs : List X) (x y : X) → 2 ≤ length xs → length xs < 3 → x ≡ get_or xs 0 x → y ≡ get_or xs 1 y
    → prefixes types variables (view x) ≡ [] → same_fact (view x) (view y) ≡ true → closed types variables (map view xs) ≡ take 1 (map view xs)
closed_first types variables view [] x y some few p q e s = absurd (omega arith)
closed_first types variables view (a ∷ []) x y some few p q e s = absurd (omega arith)
closed_first types variables view (a ∷ b ∷ []) x y some few p q e s =
    subst (λ f. closed types variables (f ∷ view b ∷ []) ≡ f ∷ []) (ap view p)
    (subst (λ g. closed types variables (view x ∷ g ∷ []) ≡ view x ∷ []) (ap view q) (closed_twice types variables (view x) (view y) e s))
closed_first types variables view (a ∷ b ∷ d ∷ more) x y some few p q e s = absurd (omega arith)
