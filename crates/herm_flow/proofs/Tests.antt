-- Tests of lists.
use Rattle.std.proofs.Common.{◌≡◌, List, [], ◌∷◌, ◌++◌, flat_map, Bool, true, false, ◌||◌, ℕ, inl, inr, refl, ap, ap₂, ◌∙◌}
use Rattle.herm_model.specs.Lists.{IsIn, any_pass}

module _ {X : Type 0} (test : X → Bool) where
  pub any-append : (xs ys : List X) → any_pass test (xs ++ ys) ≡ (any_pass test xs || any_pass test ys)
  any-append [] ys = refl
  any-append (x ∷ xs) ys = go (test x) (any-append xs ys)
    where
      go : (b : Bool) → any_pass test (xs ++ ys) ≡ (any_pass test xs || any_pass test ys) → (b || any_pass test (xs ++ ys)) ≡ ((b || any_pass test xs) || any_pass test ys)
      go true again = refl
      go false again = again

pub any-flat : {X Y : Type 0} (test : Y → Bool) (f : X → List Y) (xs : List X) → any_pass test (flat_map f xs) ≡ any_pass (λ x. any_pass test (f x)) xs
any-flat test f [] = refl
any-flat test f (x ∷ xs) = any-append test (f x) (flat_map f xs) ∙ ap (λ b. any_pass test (f x) || b) (any-flat test f xs)

-- tests that say the same of each element
pub any-same : {X : Type 0} (f g : X → Bool) (xs : List X) → ((x : X) → IsIn x xs → f x ≡ g x) → any_pass f xs ≡ any_pass g xs
any-same f g [] same = refl
any-same f g (x ∷ xs) same = ap₂ (λ a b. a || b) (same x (inl refl)) (any-same f g xs (λ y m. same y (inr m)))

pub none-passes : (ks : List ℕ) → any_pass (λ k. false) ks ≡ false
none-passes [] = refl
none-passes (k ∷ ks) = none-passes ks
