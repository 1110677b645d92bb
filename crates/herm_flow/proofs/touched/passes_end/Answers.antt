use Rattle.std.proofs.Common.{◌≡◌, ◌-◌, ℕ, false, is_some, sym, ap, subst, ◌∙◌, ⊎_elim, arith}
use Rattle.herm_flow.specs.NumberTables.{at_number}
use Rattle.herm_flow.proofs.Trails.{before-next, before-none}
use Rattle.herm_flow.proofs.touched.passes_end.Goals as goal

pub each-preserved : goal.each-preserved
each-preserved c = record {
  end = c.each.invariant.end;
  left = λ h. c.each.invariant.left (λ n b. ⊎_elim
      (λ e. subst (λ x. is_some (at_number c.args.ends.now x) ≡ false) (sym e) (ap is_some (sym c.number_at.ensures.entry) ∙ sym c.if-is_some.ensures))
      (λ r. h n r)
      (before-next c.args.numbers.now c.each.i 0 n c.each.auto.i c.each-test.true b));
}

pub returns : goal.returns
returns c = record { passes = λ t. c.each.invariant.left (λ n b. before-none c.args.numbers.now (c.each.i - 1) n (omega (arith, c.each-test.false, c.each.auto.i)) b) }
