-- What coercions drop on an edge, by the places of its point and of the edge there.
use Rattle.std.proofs.Common.{◌≡◌, ℕ, zero, suc, ◌+◌, List, [], ◌∷◌, Bool, Some, slice_get, refl, subst, arith}
use Rattle.herm_model.specs.Paths.{Path, Fact}
use Rattle.herm_model.specs.ControlPaths.{Edge, Point}
use Rattle.herm_model.specs.Labels.{Labels}
use Rattle.herm_model.proofs.Options.{some-injective, none-not_some}
use Rattle.herm_coerce.specs.Coerced.{IsDropped, AreDropped, ArePointsDropped}

pub edge-dropped : (labels : Labels) (before : Fact → Bool) (es : List Edge) (xss : List (List Path)) (j : ℕ) (e : Edge) → AreDropped labels before es xss → slice_get es j ≡ Some e → (paths : List Path) × (slice_get xss j ≡ Some paths) × IsDropped labels before e paths
edge-dropped labels before [] [] j e h at = none-not_some at
edge-dropped labels before [] (xs ∷ more) j e h at = absurd h
edge-dropped labels before (d ∷ es) [] j e h at = absurd h
edge-dropped labels before (d ∷ es) (xs ∷ more) zero e h at = (xs, refl, subst (λ f. IsDropped labels before f xs) (some-injective at) h.0)
edge-dropped labels before (d ∷ es) (xs ∷ more) (suc j) e h at = edge-dropped labels before es more j e h.1 at

pub point-dropped : (labels : Labels) (k i n : ℕ) (ps : List Point) (xsss : List (List (List Path))) (p : Point) → n ≡ k + i → ArePointsDropped labels k ps xsss → slice_get ps i ≡ Some p → (xss : List (List Path)) × (slice_get xsss i ≡ Some xss) × AreDropped labels (labels n) p.edges xss
point-dropped labels k i n [] [] p is h at = none-not_some at
point-dropped labels k i n [] (xss ∷ more) p is h at = absurd h
point-dropped labels k i n (q ∷ ps) [] p is h at = absurd h
point-dropped labels k zero n (q ∷ ps) (xss ∷ more) p is h at =
    let place : k ≡ n = omega (arith, is) in
    (xss, refl, subst (λ (r : Point). AreDropped labels (labels n) r.edges xss) (some-injective at) (subst (λ m. AreDropped labels (labels m) q.edges xss) place h.0))
point-dropped labels k (suc i) n (q ∷ ps) (xss ∷ more) p is h at = point-dropped labels (suc k) i n ps more p (omega (arith, is)) h.1 at
