-- The type at the end of steps that are joined, and whether they pass a component.
use Rattle.std.proofs.Common.{◌≡◌, ℕ, List, [], ◌∷◌, ◌++◌, ◌||◌, Option, Some, None, is_some, IsTrue, refl, sym, ap, ◌∙◌, true≢false}
use Rattle.std.proofs.Math.Bool.{or-false, or_assoc}
use Rattle.herm_model.specs.Types.{TypeTable, part_of, is_variant, type_below, enters_component}

module _ (table : TypeTable) where
  pub type_below-append : (t : Option ℕ) (p q : List ℕ) → type_below table t (p ++ q) ≡ type_below table (type_below table t p) q
  type_below-append t [] q = refl
  type_below-append t (i ∷ p) q = type_below-append (part_of table t i) p q

  pub enters-append : (t : Option ℕ) (p q : List ℕ) → enters_component table t (p ++ q) ≡ (enters_component table t p || enters_component table (type_below table t p) q)
  enters-append t [] q = refl
  enters-append t (i ∷ p) q = ap (is_variant table t ||◌) (enters-append (part_of table t i) p q) ∙ sym (or_assoc (is_variant table t) (enters_component table (part_of table t i) p) (enters_component table (type_below table (part_of table t i) p) q))

  -- one step more
  pub enters-more : (t : Option ℕ) (p : List ℕ) (i : ℕ) → enters_component table t (p ++ i ∷ []) ≡ (enters_component table t p || is_variant table (type_below table t p))
  enters-more t p i = enters-append t p (i ∷ []) ∙ ap (enters_component table t p ||◌) (or-false (is_variant table (type_below table t p)))

  pub type_below-none : (p : List ℕ) → type_below table None p ≡ None
  type_below-none [] = refl
  type_below-none (i ∷ p) = type_below-none p

  -- a type from which steps lead to a type is there
  pub known-above : (t : Option ℕ) (p : List ℕ) → IsTrue (is_some (type_below table t p)) → IsTrue (is_some t)
  known-above None p h = absurd (true≢false (sym h ∙ ap is_some (type_below-none p)))
  known-above (Some t) p h = refl
