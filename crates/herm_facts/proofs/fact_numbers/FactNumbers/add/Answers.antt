use Rattle.std.proofs.Common.{◌≡◌, map, length, sym, ◌∙◌, refl, subst, arith}
use Rattle.herm_model.proofs.Lists.{length-map}
use Rattle.herm_typestate.proofs.Marks.{on_err}
use Rattle.herm_types.specs.View.{fact_view}
use Rattle.herm_facts.specs.FactNumbers.{number_of}
use Rattle.herm_facts.specs.Numbers.{AreTreesOf}
use Rattle.herm_facts.proofs.Listed.{Gives, one_more, number-own, number-other, number-kept, number-same}
use Rattle.herm_facts.proofs.fact_numbers.FactNumbers.add.Goals as goal

pub invariant_of-self-in-Ok : goal.invariant_of-self-in-Ok
unfolding number_of
invariant_of-self-in-Ok c =
    let many : c.len-number.result ≡ length (map fact_view c.args.self.now.facts.items) = omega (arith, c.len-number.ensures, c.args.self.now.facts.ok, length-map fact_view c.args.self.now.facts.items) in
    record {
      numbers = subst (AreTreesOf c.give.new.trees.items) (sym c.in_ok-push_copy.ensures.ok)
          (one_more c.args.self.now.trees.items c.give.new.trees.items (map fact_view c.args.self.now.facts.items) (fact_view c.args.fact.now) c.args.self.now.numbers (sym c.number_of.ensures ∙ c.in_default.is)
          (subst (Gives c.args.self.now.trees.items c.give.new.trees.items (fact_view c.args.fact.now)) many c.in-Ok.ensures.ok));
    }

pub returns-in_err-push_copy-clause-kept : goal.returns-in_err-push_copy-clause-kept
unfolding number_of
returns-in_err-push_copy-clause-kept c f n e = e

pub returns-in-Ok-clause-number : goal.returns-in-Ok-clause-number
unfolding number_of
returns-in-Ok-clause-number c = number-own c.args.self.now.trees.items c.give.new.trees.items (fact_view c.args.fact.now) c.len-number.result c.in-Ok.ensures.ok (sym c.number_of.ensures ∙ c.in_default.is)

pub returns-in-Ok-clause-others : goal.returns-in-Ok-clause-others
unfolding number_of
returns-in-Ok-clause-others c f apart = number-other c.args.self.now.trees.items c.give.new.trees.items (fact_view c.args.fact.now) c.len-number.result c.in-Ok.ensures.ok f apart

pub returns-in-Ok-clause-kept : goal.returns-in-Ok-clause-kept
unfolding number_of
returns-in-Ok-clause-kept c f n e = number-kept c.args.self.now.trees.items c.give.new.trees.items (fact_view c.args.fact.now) c.len-number.result c.in-Ok.ensures.ok (sym c.number_of.ensures ∙ c.in_default.is) f n e

pub returns-in-Err-clause-kept : goal.returns-in-Err-clause-kept
unfolding number_of
returns-in-Err-clause-kept c f n e = number-same c.args.self.now.trees.items c.give.new.trees.items c.in-Err.ensures.err f ∙ e

pub returns-in_err-push_copy-clause-err : goal.returns-in_err-push_copy-clause-err
unfolding number_of
returns-in_err-push_copy-clause-err c = on_err c.from_residual.result (λ f. refl)

pub returns-in-Err-clause-err : goal.returns-in-Err-clause-err
unfolding number_of
returns-in-Err-clause-err c f = number-same c.args.self.now.trees.items c.give.new.trees.items c.in-Err.ensures.err f
