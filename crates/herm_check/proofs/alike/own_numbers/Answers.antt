use Rattle.std.proofs.Common.{◌≡◌, ◌⊎◌, inl, inr, ℕ, ◌+◌, length, Some, slice_get, sym, ◌∙◌, ap, subst, arith}
use Rattle.herm_check.proofs.Following.{old-or-last}
use Rattle.herm_check.proofs.Searched.{length-more}
use Rattle.herm_check.proofs.alike.own_numbers.Goals as goal

pub loop-n-preserved : goal.loop-n-preserved
loop-n-preserved c =
    let old = c.loop-n.own.items in
    let items = c.in_ok-push.ensures.items in
    let more = length-more old c.loop-n.n in
    (omega (arith, ap length items, more, c.loop-n.invariant.0), λ k m at. by k m (old-or-last old c.loop-n.n k m (subst (λ xs. slice_get xs k ≡ Some m) items at)))
  where
    by : (k m : ℕ) → (slice_get c.loop-n.own.items k ≡ Some m) ⊎ ((k ≡ length c.loop-n.own.items) × (m ≡ c.loop-n.n)) → k ≡ m
    by k m (inl before) = c.loop-n.invariant.1 k m before
    by k m (inr last) = omega (arith, last.0, last.1, c.loop-n.invariant.0)
