use Rattle.std.proofs.Common.{◌≡◌, ◌⊎◌, inl, inr, ◌≢◌, ℕ, ◌+◌, ◌*◌, ◌<◌, true, false, ◌∙◌, sym, subst, arith, true≢false}
use Rattle.herm_facts.specs.FactSets.{has}
use Rattle.herm_facts.specs.NumberSets.{has_number}
use Rattle.herm_check.specs.Alike.{IsCovered}
use Rattle.herm_check.proofs.Joined.{same_or_not}
use Rattle.herm_check.proofs.alike.is_word_covered.Goals as goal

pub returns-then-is_empty : goal.returns-then-is_empty
returns-then-is_empty c _ j less at = absurd (true≢false (sym at ∙ c.is_empty.ensures.none c.if-is_empty.true j))

pub loop-j-preserved : goal.loop-j-preserved
loop-j-preserved c j before at = by (same_or_not j c.loop-j.j)
  where
    by : (j ≡ c.loop-j.j) ⊎ (j ≢ c.loop-j.j) → IsCovered (has_number c.args.set.now) c.args.firsts.now c.args.groups.now (64 * c.args.at + j)
    by (inl e) = subst (λ k. has c.args.word k ≡ true → IsCovered (has_number c.args.set.now) c.args.firsts.now c.args.groups.now (64 * c.args.at + k)) (sym e) (c.is_bit_covered.ensures c.if-not-is_bit_covered.false) at
    by (inr d) = c.loop-j.invariant j (omega (arith, before, d)) at

pub returns : goal.returns
returns c _ j less at = c.loop-j.invariant j (omega (arith, less, c.loop-j-test.false)) at
