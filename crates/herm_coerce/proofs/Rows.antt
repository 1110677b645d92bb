-- What edges and points drop, one after another.
use Rattle.std.proofs.Common.{◌≡◌, ℕ, suc, ◌+◌, length, List, [], ◌∷◌, ◌++◌, Bool, subst, arith}
use Rattle.herm_model.specs.Paths.{Path, Fact}
use Rattle.herm_model.specs.ControlPaths.{Edge, Point}
use Rattle.herm_model.specs.Labels.{Labels}
use Rattle.herm_coerce.specs.Coerced.{IsDropped, AreDropped, ArePointsDropped}

pub edges-more : (labels : Labels) (before : Fact → Bool) (es : List Edge) (xss : List (List Path)) (e : Edge) (xs : List Path) → AreDropped labels before es xss → IsDropped labels before e xs → AreDropped labels before (es ++ e ∷ []) (xss ++ xs ∷ [])
edges-more labels before [] [] e xs h k = (k, tt)
edges-more labels before [] (ys ∷ more) e xs h k = absurd h
edges-more labels before (d ∷ es) [] e xs h k = absurd h
edges-more labels before (d ∷ es) (ys ∷ more) e xs h k = (h.0, edges-more labels before es more e xs h.1 k)

pub points-more : (labels : Labels) (i n : ℕ) (ps : List Point) (xsss : List (List (List Path))) (p : Point) (xss : List (List Path)) → n ≡ i + length ps → ArePointsDropped labels i ps xsss → AreDropped labels (labels n) p.edges xss → ArePointsDropped labels i (ps ++ p ∷ []) (xsss ++ xss ∷ [])
points-more labels i n [] [] p xss at h k = (subst (λ j. AreDropped labels (labels j) p.edges xss) (omega (arith, at)) k, tt)
points-more labels i n [] (yss ∷ more) p xss at h k = absurd h
points-more labels i n (q ∷ ps) [] p xss at h k = absurd h
points-more labels i n (q ∷ ps) (yss ∷ more) p xss at h k = (h.0, points-more labels (suc i) n ps more p xss (omega (arith, at)) h.1 k)
