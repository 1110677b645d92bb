use Rattle.std.proofs.Common.{◌≡◌, ◌+◌, ◌*◌, ◌/◌, ◌%◌, ◌∙◌, true, sym, ap, subst}
use Rattle.herm_facts.specs.NumberSets.{has_at, has_number}
use Rattle.herm_facts.proofs.NumberSets.{at-number}
use Rattle.herm_facts.proofs.number_set.NumberSet.is_below.Goals as goal

pub returns-clause-below : goal.returns-clause-below
unfolding has_number
returns-clause-below c empty n here =
    subst (λ ws. has_at ws (n / 64) (n % 64) ≡ true) c.as_slice-2.ensures.value
    (c.excess.ensures.none (n / 64) (n % 64) (c.is_empty.ensures.none empty (n % 64)) (subst (λ ws. has_at ws (n / 64) (n % 64) ≡ true) (sym c.as_slice.ensures.value) here))

pub returns-clause-beyond : goal.returns-clause-beyond
unfolding has_number
returns-clause-beyond c filled =
    let bit = c.is_empty.ensures.some filled in
    let found = c.excess.ensures.some bit.0 bit.2 in (
      64 * found.0 + bit.0,
      at-number c.args.self.now.words.items found.0 bit.0 bit.1 ∙ (ap (λ ws. has_at ws found.0 bit.0) (sym c.as_slice.ensures.value) ∙ found.1),
      at-number c.args.other.now.words.items found.0 bit.0 bit.1 ∙ (ap (λ ws. has_at ws found.0 bit.0) (sym c.as_slice-2.ensures.value) ∙ found.2),
    )
