use Rattle.std.proofs.Common.{◌≡◌, ◌⊎◌, inl, inr, ◌≢◌, ℕ, ◌<◌, ◌+◌, List, ◌∷◌, ◌++◌, [], length, Some, slice_get, get_or, refl, sym, subst, arith, ap, ◌∙◌}
use Rattle.std.proofs.lemmas.Option.{slice_get_within, slice_get-get_or}
use Rattle.herm_types.specs.declared.fact.Fact.{Fact as FactHere}
use Rattle.herm_types.specs.View.{fact_view}
use Rattle.herm_facts.specs.FactNumbers.{number_of}
use Rattle.herm_check.proofs.Joined.{same_or_not}
use Rattle.herm_check.proofs.Following.{kept-more, at-end}
use Rattle.herm_check.proofs.Searched.{length-more, one-at}
use Rattle.herm_check.proofs.alike.stand_for.Goals as goal

pub number_first-requires : goal.number_first-requires
number_first-requires c =
    let firsts = c.args.firsts.now in
    let n = c.loop-n.n in
    (c.requires.start n).within (get_or firsts n 0) (slice_get-get_or firsts n 0 (omega (arith, c.loop-n-test.true, c.requires.many)))

pub loop-n-preserved : goal.loop-n-preserved
loop-n-preserved c = record {
  many = let more = length-more old number in omega (arith, ap length items, more, c.loop-n.invariant.many);
  numbered = λ k m g before first at. by k m g before first at (same_or_not k c.loop-n.n);
  some = λ f k h. omega (arith, c.loop-n-test.true);
}
  where
    old : List ℕ
    old = c.loop-n.by.items

    number : ℕ
    number = c.in_ok-number.number

    items : c.push.new.self.items ≡ old ++ number ∷ []
    items = c.in_ok-push.ensures.items

    by : (k m : ℕ) (g : FactHere) → k < c.loop-n.n + 1 → slice_get c.args.firsts.now k ≡ Some m → slice_get c.args.facts.now m ≡ Some g → (k ≡ c.loop-n.n) ⊎ (k ≢ c.loop-n.n) → (x : ℕ) × (slice_get c.push.new.self.items k ≡ Some x) × (number_of c.number_first.new.numbers (fact_view g) ≡ Some x)
    by k m g before first at (inr d) =
        let h = c.loop-n.invariant.numbered k m g (omega (arith, before, d)) first at in
        (h.0, subst (λ xs. slice_get xs k ≡ Some h.0) (sym items) (kept-more old number k h.0 h.1), c.in_ok-number.ensures.kept (fact_view g) h.0 h.2)
    by k m g before first at (inl e) =
        let n = c.loop-n.n in
        let firsts = c.args.firsts.now in
        let read = slice_get-get_or firsts n 0 (omega (arith, c.loop-n-test.true, c.requires.many)) in
        let same : m ≡ get_or firsts n 0 = one-at (slice_get firsts n) m (get_or firsts n 0) (subst (λ i. slice_get firsts i ≡ Some m) e first) read in (
          number,
          subst (λ xs. slice_get xs k ≡ Some number) (sym items) (subst (λ i. slice_get (old ++ number ∷ []) i ≡ Some number) (c.loop-n.invariant.many ∙ sym e) (at-end old number)),
          c.in_ok-number.ensures.number g (subst (λ i. slice_get c.args.facts.now i ≡ Some g) same at),
        )

pub returns-clause-numbered : goal.returns-clause-numbered
returns-clause-numbered c n m g first at =
    let within = slice_get_within c.args.firsts.now n m first in
    c.loop-n.invariant.numbered n m g (omega (arith, within, c.requires.many, c.loop-n-test.false)) first at
