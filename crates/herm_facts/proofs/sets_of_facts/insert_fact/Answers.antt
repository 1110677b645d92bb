use Rattle.std.proofs.Common.{◌≡◌, Some, sym, ◌∙◌, ap}
use Rattle.herm_model.proofs.Options.{some-injective, none-not_some}
use Rattle.herm_types.specs.View.{fact_view}
use Rattle.herm_facts.specs.FactNumbers.{number_of}
use Rattle.herm_facts.specs.NumberSets.{has_number}
use Rattle.herm_facts.proofs.FactsInSets.{gains_none, gains_one}
use Rattle.herm_facts.proofs.sets_of_facts.insert_fact.Goals as goal

pub returns-in-None : goal.returns-in-None
returns-in-None c = gains_none (λ n. number_of c.args.numbers.now (fact_view c.args.fact.now) ≡ Some n) (has_number c.args.set.now) (λ n e. none-not_some (sym c.in-None.is ∙ (c.number_of.ensures ∙ e)))

pub returns-in_ok-insert-in-Some : goal.returns-in_ok-insert-in-Some
returns-in_ok-insert-in-Some c =
    let number : number_of c.args.numbers.now (fact_view c.args.fact.now) ≡ Some c.in-Some.number = sym c.number_of.ensures ∙ c.in-Some.is in
    gains_one (λ n. number_of c.args.numbers.now (fact_view c.args.fact.now) ≡ Some n) c.in-Some.number (has_number c.args.set.now) (has_number c.insert.new.self) (λ n. (λ e. number ∙ ap Some (sym e), λ e. some-injective (sym e ∙ number))) c.in_ok-insert-in-Some.ensures.ok
