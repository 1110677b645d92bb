-- Lists of lists, one behind the other.
use Rattle.std.proofs.Common.{◌≡◌, List, [], ◌∷◌, ◌++◌, map, flat_map, refl, sym, ap, ◌∙◌, append_assoc}
use Rattle.herm_model.specs.Paths.{Path}

module _ {X : Type 0} (view : X → Path) where
  viewed : (xs ys : List X) → map view (xs ++ ys) ≡ map view xs ++ map view ys
  viewed [] ys = refl
  viewed (x ∷ xs) ys = ap (view x ∷◌) (viewed xs ys)

  pub lost_joined : (f : Path → List Path) (old mid : List X) (new : List Path) (lost paths rest : List X) (first : X) → new ≡ map view mid ++ flat_map f (map view rest) → mid ≡ old ++ lost → map view lost ≡ f (view first) → paths ≡ first ∷ rest
      → new ≡ map view old ++ flat_map f (map view paths)
  lost_joined f old mid new lost paths rest first is more first-lost all =
      is
      ∙ ap (λ m. map view m ++ flat_map f (map view rest)) more
      ∙ ap (λ m. m ++ flat_map f (map view rest)) (viewed old lost)
      ∙ append_assoc (map view old) (map view lost) (flat_map f (map view rest))
      ∙ ap (λ x. map view old ++ (x ++ flat_map f (map view rest))) first-lost
      ∙ ap (λ ps. map view old ++ flat_map f (map view ps)) (sym all)
