-- The test of copyable types is the smallest set; a greater bound on depth holds too.
use Rattle.std.proofs.Common.{◌≡◌, ℕ, zero, suc, ◌+◌, arith, Bool, false, ◌&&◌, ◌||◌, ◌⊎◌, inl, inr, IsTrue, Option, Some, None, slice_get, refl, sym, subst}
use Rattle.herm_model.specs.Lists.{all_pass, map_or}
use Rattle.herm_model.specs.Types.{Shape, TypeTable, named_types, is_within_depth}
use Rattle.herm_model.specs.Copyable.{is_plain, is_composed, IsCopyable, plain, composed, is_copyable_within}
use Rattle.herm_model.proofs.Lists.{not_true, and-both, both-and, or-either, or-left, or-right, every-in, in-every}

module _ (table : TypeTable) where
  abbrev copyable_by : (ℕ → Bool) → Option Shape → Bool
  copyable_by next o = map_or false (λ s. is_plain s || (is_composed s && all_pass next (named_types s))) o

  either-copyable : (next : ℕ → Bool) (t : ℕ) (s : Shape) → slice_get table t ≡ Some s → ((u : ℕ) → IsTrue (next u) → IsCopyable table u) → IsTrue (is_plain s) ⊎ IsTrue (is_composed s && all_pass next (named_types s)) → IsCopyable table t
  either-copyable next t s e again (inl p) = plain t s e p
  either-copyable next t s e again (inr c) = let both = and-both (is_composed s) _ c in composed t s e both.0 (λ u i. again u (every-in next u (named_types s) both.1 i))

  by-copyable : (next : ℕ → Bool) (t : ℕ) (o : Option Shape) → slice_get table t ≡ o → ((u : ℕ) → IsTrue (next u) → IsCopyable table u) → IsTrue (copyable_by next o) → IsCopyable table t
  by-copyable next t None e again k = not_true k
  by-copyable next t (Some s) e again k = either-copyable next t s e again (or-either (is_plain s) _ k)

  pub copyable-is : (n t : ℕ) → IsTrue (is_copyable_within n table t) → IsCopyable table t
  copyable-is zero t h = not_true h
  copyable-is (suc n) t h = by-copyable (is_copyable_within n table) t (slice_get table t) refl (copyable-is n) h

  within_of : (n : ℕ) (t : ℕ) (s : Shape) → slice_get table t ≡ Some s → IsTrue (is_within_depth (suc n) table t) → IsTrue (all_pass (is_within_depth n table) (named_types s))
  within_of n t s e w = subst (λ o. IsTrue (map_or false (λ s'. all_pass (is_within_depth n table) (named_types s')) o)) e w

  copyable_at : (n : ℕ) (t : ℕ) (s : Shape) → slice_get table t ≡ Some s → IsTrue (is_plain s || (is_composed s && all_pass (is_copyable_within n table) (named_types s))) → IsTrue (is_copyable_within (suc n) table t)
  copyable_at n t s e h = subst (λ o. IsTrue (copyable_by (is_copyable_within n table) o)) (sym e) h

  pub is-copyable : (n t : ℕ) → IsTrue (is_within_depth n table t) → IsCopyable table t → IsTrue (is_copyable_within n table t)
  is-copyable zero t w c = not_true w
  is-copyable (suc n) t w (plain t' s e p) = copyable_at n t s e (or-left (is_plain s) _ p)
  is-copyable (suc n) t w (composed t' s e p each) = copyable_at n t s e (or-right (is_plain s) _ (both-and (is_composed s) _ p (in-every (is_copyable_within n table) (named_types s) (λ u i. is-copyable n u (every-in (is_within_depth n table) u (named_types s) (within_of n t s e w) i) (each u i)))))

  -- a greater bound holds too
  deeper_by : (n m : ℕ) (o : Option Shape) → ((u : ℕ) → IsTrue (is_within_depth n table u) → IsTrue (is_within_depth m table u)) → IsTrue (map_or false (λ s. all_pass (is_within_depth n table) (named_types s)) o) → IsTrue (map_or false (λ s. all_pass (is_within_depth m table) (named_types s)) o)
  deeper_by n m None again w = w
  deeper_by n m (Some s) again w = in-every (is_within_depth m table) (named_types s) (λ u i. again u (every-in (is_within_depth n table) u (named_types s) w i))

  pub within-more : (n k t : ℕ) → IsTrue (is_within_depth n table t) → IsTrue (is_within_depth (n + k) table t)
  within-more zero k t w = not_true w
  within-more (suc n) k t w = subst (λ m. IsTrue (is_within_depth m table t)) {x = suc (n + k)} {y = suc n + k} (omega arith) (deeper_by n (n + k) (slice_get table t) (within-more n k) w)
