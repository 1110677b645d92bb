use Rattle.std.proofs.Common.{◌≡◌, ◌∙◌, ◌||◌, ◌∷◌, [], Bool, true, false, ap, ap₂, true≢false, sym, subst, refl}
use Rattle.herm_model.specs.Paths.{init, same_fact}
use Rattle.herm_check.specs.Numberings.{HasNumber}
use Rattle.herm_check.proofs.InSets.{none-in}
use Rattle.herm_check.proofs.labels.first_label.Goals as goal

or_false : (b : Bool) → (b || false) ≡ b
or_false true = refl
or_false false = refl

pub hold-requires-clause-number : goal.hold-requires-clause-number
hold-requires-clause-number c = subst (HasNumber c.args.numbers.now) (sym c.start_fact-start.ensures) c.requires.number

pub returns-clause-facts : goal.returns-clause-facts
returns-clause-facts c = λ f.
    c.in_ok-hold.ensures.facts f
    ∙ (ap₂ (λ g b. same_fact f g || b) c.start_fact-start.ensures (none-in c.args.numbers.now c.none-held.result c.none-held.ensures f)
    ∙ or_false (same_fact f (init (0 ∷ []))))

pub returns-clause-known : goal.returns-clause-known
returns-clause-known c = c.in_ok-hold.ensures.known (λ n h. absurd (true≢false (sym h ∙ c.none-held.ensures n)))
