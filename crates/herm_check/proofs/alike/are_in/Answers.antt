use Rattle.std.proofs.Common.{◌≡◌, ◌⊎◌, inl, inr, ℕ, ◌<◌, List, ◌∷◌, [], length, take, get_or, true, sym, ◌∙◌, subst, ap, arith}
use Rattle.std.proofs.lemmas.List.{take_more}
use Rattle.herm_model.specs.Lists.{IsIn}
use Rattle.herm_model.proofs.Lists.{in-append_cases}
use Rattle.herm_facts.specs.NumberSets.{has_number}
use Rattle.herm_check.proofs.alike.are_in.Goals as goal

pub loop-m-preserved : goal.loop-m-preserved
loop-m-preserved c m member = by (in-append_cases m (take i xs) (get_or xs i 0 ∷ []) (subst (IsIn m) (take_more xs i 0 (omega (arith, c.loop-m-test.true))) member))
  where
    xs : List ℕ
    xs = c.args.numbers.now

    i : ℕ
    i = c.loop-m.m-index

    by : IsIn m (take i xs) ⊎ IsIn m (get_or xs i 0 ∷ []) → has_number c.args.set.now m ≡ true
    by (inl before) = c.loop-m.invariant m before
    by (inr (inl e)) = ap (has_number c.args.set.now) e ∙ (sym c.holds.ensures ∙ c.if-not-holds.false)
    by (inr (inr none)) = absurd none
