use Rattle.std.proofs.Common.{◌≡◌, ℕ, true, false, is_some, length, sym, subst, ◌∙◌, arith}
use Rattle.herm_flow.specs.NumberTables.{at_number}
use Rattle.herm_flow.specs.Touched.{is_before_last, numbers_at}
use Rattle.herm_flow.proofs.Trails.{each-next, each-place, numbers-here, numbers-behind, so-not, before-nothing}
use Rattle.herm_flow.proofs.touched.are_apart.Goals as goal

pub each-preserved : goal.each-preserved
each-preserved c = λ j n h b.
    each-next (λ k. (m : ℕ) → is_before_last (numbers_at c.args.trails.now k) m ≡ true → is_some (at_number c.in_ok-ends.ends.items m) ≡ false) c.each.numbers-index
    (λ k under m d. c.each.invariant k m under d)
    (λ m d. subst (λ es. is_some (at_number es m) ≡ false) c.as_slice-in-each.ensures.value (c.passes_end.ensures.passes c.if-passes_end.false m (subst (λ ns. is_before_last ns m ≡ true) (numbers-here c.args.trails.now c.each.numbers-index c.numbers-item.result c.each-test.true c.numbers-item.is ∙ sym c.as_slice.ensures.value) d)))
    j h n b

pub returns : goal.returns
returns c = record {
  apart = λ t i j n l.
      so-not (is_before_last (numbers_at c.args.trails.now j) n) (is_some (at_number c.in_ok-ends.ends.items n)) (c.in_ok-ends.ensures.marked i n l)
      (λ b. each-place (λ k. (m : ℕ) → is_before_last (numbers_at c.args.trails.now k) m ≡ true → is_some (at_number c.in_ok-ends.ends.items m) ≡ false) (length c.args.trails.now)
      (λ k under m d. c.each.invariant k m (omega (arith, under, c.each-test.false)) d)
      (λ k over m d. before-nothing (numbers_at c.args.trails.now k) m (numbers-behind c.args.trails.now k over) d)
      j n b);
}
