use Rattle.std.proofs.Common.{◌≡◌, ℕ, true, is_some, Some, length, sym, subst, ◌∙◌, arith}
use Rattle.herm_flow.specs.NumberTables.{at_number}
use Rattle.herm_flow.specs.Touched.{last_of, numbers_at}
use Rattle.herm_flow.proofs.Trails.{each-next, each-place, numbers-here, numbers-behind, last-none}
use Rattle.herm_flow.proofs.touched.ends_of.Goals as goal

pub each-preserved : goal.each-preserved
each-preserved c = λ i n h l.
    each-next (λ j. (m : ℕ) → last_of (numbers_at c.args.trails.now j) ≡ Some m → is_some (at_number c.mark_last.new.ends.items m) ≡ true) c.each.numbers-index
    (λ j under m k. c.in_ok-mark_last.ensures.still m (c.each.invariant j m under k))
    (λ m k. c.in_ok-mark_last.ensures.marked m (subst (λ ns. last_of ns ≡ Some m) (numbers-here c.args.trails.now c.each.numbers-index c.numbers-item.result c.each-test.true c.numbers-item.is ∙ sym c.as_slice.ensures.value) k))
    i h n l

pub returns : goal.returns
returns c = record {
  marked =
      each-place (λ j. (m : ℕ) → last_of (numbers_at c.args.trails.now j) ≡ Some m → is_some (at_number c.each.ends.items m) ≡ true) (length c.args.trails.now)
      (λ j under m k. c.each.invariant j m (omega (arith, under, c.each-test.false)) k)
      (λ j over m k. last-none (numbers_at c.args.trails.now j) m (numbers-behind c.args.trails.now j over) k);
}
