-- What is held at a path where there is a value.
use Rattle.std.proofs.Common.{◌≡◌, ℕ, zero, suc, ◌-◌, List, [], ◌∷◌, ◌++◌, map, Bool, true, false, ◌||◌, cond, refl, sym, ap, ap₂, ◌∙◌, append_assoc, arith}
use Rattle.std.proofs.lemmas.List.{map-append}
use Rattle.herm_model.specs.Paths.{Path, Fact, init}
use Rattle.herm_model.specs.Types.{TypeTable}
use Rattle.herm_fronts.specs.Held.{held_from, held_inside}

module _ (table : TypeTable) (has : Fact → Bool) where
  pub held_here : (n : ℕ) (within : Bool) (t : ℕ) (p : Path) (old mid new : List Fact) (f : Fact) → (n ≡ 0 → ⊥) → within ≡ false → f ≡ init p → has f ≡ true → mid ≡ old ++ f ∷ [] → new ≡ mid ++ held_inside table has (n - 1) within t p
      → new ≡ old ++ held_from table has n within t p
  held_here zero within t p old mid new f h w e k a b = absurd (h refl)
  held_here (suc m) within t p old mid new f h w e k a b =
      b ∙ (ap₂ (λ xs d. xs ++ held_inside table has d within t p) (a ∙ ap (λ g. old ++ g ∷ []) e) less
      ∙ (append_assoc old (init p ∷ []) (held_inside table has m within t p)
      ∙ ap (λ xs. old ++ xs) (by within (has (init p)) w (ap has (sym e) ∙ k))))
    where
      less : suc m - 1 ≡ m
      less = omega arith

      by : (b c : Bool) → b ≡ false → c ≡ true → init p ∷ held_inside table has m b t p ≡ cond (b || c) (cond b [] (init p ∷ []) ++ held_inside table has m b t p) []
      by false true x y = refl
      by true c x y = absurd cc
      by false false x y = absurd cc
