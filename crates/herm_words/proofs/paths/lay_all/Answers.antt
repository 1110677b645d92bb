use Rattle.std.proofs.Common.{◌≡◌, ◌⊎◌, inl, inr, ℕ, ◌<◌, sym, subst, ◌∙◌, arith}
use Rattle.herm_words.specs.Stretches.{IsLaid}
use Rattle.herm_words.proofs.Stretched.{upto}
use Rattle.herm_words.proofs.paths.lay_all.Goals as goal

pub loop-place-preserved : goal.loop-place-preserved
loop-place-preserved c = record {
  visits = c.in_ok-lay.ensures.visits ∙ c.loop-place.invariant.visits;
  laid = c.in_ok-lay.ensures.laid;
  all = λ k less. by k (upto k c.loop-place.place (omega (arith, less)));
}
  where
    by : (k : ℕ) → (k ≡ c.loop-place.place) ⊎ (k < c.loop-place.place) → IsLaid c.lay.new.paths.stretches.items k
    by k (inl e) = subst (IsLaid c.lay.new.paths.stretches.items) (sym e) c.in_ok-lay.ensures.here
    by k (inr less) = c.in_ok-lay.ensures.kept k (c.loop-place.invariant.all k less)
