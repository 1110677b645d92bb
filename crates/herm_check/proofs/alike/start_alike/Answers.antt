use Rattle.std.proofs.Common.{◌≡◌, ◌⊎◌, inl, inr, ◌≢◌, ℕ, ◌<◌, ◌≤◌, length, Some, slice_get, sym, subst, arith}
use Rattle.std.proofs.lemmas.Option.{slice_get_within}
use Rattle.herm_check.specs.Alike.{StartsAlike}
use Rattle.herm_check.proofs.Joined.{same_or_not}
use Rattle.herm_check.proofs.Searched.{le_or}
use Rattle.herm_check.proofs.alike.start_alike.Goals as goal

pub loop-n-preserved : goal.loop-n-preserved
loop-n-preserved c k before = by (same_or_not k c.loop-n.n)
  where
    by : (k ≡ c.loop-n.n) ⊎ (k ≢ c.loop-n.n) → StartsAlike c.args.facts.now c.args.firsts.now k
    by (inl e) = subst (StartsAlike c.args.facts.now c.args.firsts.now) (sym e) (c.starts_alike.ensures c.if-not-starts_alike.false)
    by (inr d) = c.loop-n.invariant k (omega (arith, before, d))

pub returns : goal.returns
returns c _ k = by (le_or (length c.args.firsts.now) k)
  where
    by : (length c.args.firsts.now ≤ k) ⊎ (k < length c.args.firsts.now) → StartsAlike c.args.facts.now c.args.firsts.now k
    by (inl past) = record {
      within = λ m at. absurd (let within = slice_get_within c.args.firsts.now k m at in omega (arith, within, past));
      alike = λ m f g at here there. absurd (let within = slice_get_within c.args.firsts.now k m at in omega (arith, within, past));
    }
    by (inr before) = c.loop-n.invariant k (omega (arith, before, c.loop-n-test.false))
