use Rattle.std.proofs.Common.{◌≡◌, ◌⊎◌, inl, inr, ◌≢◌, ℕ, ◌<◌, ◌≤◌, ◌+◌, false, length, sym, ◌∙◌, ap, arith}
use Rattle.std.proofs.lemmas.Option.{slice_get_past}
use Rattle.herm_model.specs.Lists.{map_or}
use Rattle.herm_facts.specs.declared.fact_set.FactSet.{FactSet}
use Rattle.herm_facts.specs.FactSets.{has}
use Rattle.herm_facts.specs.NumberSets.{has_at}
use Rattle.herm_check.proofs.Joined.{same_or_not}
use Rattle.herm_check.proofs.Searched.{le_or}
use Rattle.herm_check.proofs.effects.are_empty.Goals as goal

pub loop-i-preserved : goal.loop-i-preserved
loop-i-preserved c i j before = by (same_or_not i c.loop-i.i)
  where
    by : (i ≡ c.loop-i.i) ⊎ (i ≢ c.loop-i.i) → has_at c.args.words.now i j ≡ false
    by (inr d) = c.loop-i.invariant i j (omega (arith, before, d))
    by (inl e) =
        ap (λ n. has_at c.args.words.now n j) e ∙ (sym (c.word_at.ensures j) ∙ c.is_empty.ensures.none c.if-not-is_empty.false j)

pub returns : goal.returns
returns c _ i j = by (le_or (length c.args.words.now) i)
  where
    by : (length c.args.words.now ≤ i) ⊎ (i < length c.args.words.now) → has_at c.args.words.now i j ≡ false
    by (inl past) = ap (map_or false (λ (x : FactSet). has x j)) (slice_get_past c.args.words.now i past)
    by (inr before) = c.loop-i.invariant i j (omega (arith, before, c.loop-i-test.false))
