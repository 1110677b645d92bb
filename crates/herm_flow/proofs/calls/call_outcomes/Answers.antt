use Rattle.std.proofs.Common.{◌∷◌, map, ap, subst, ◌∙◌}
use Rattle.herm_model.specs.Outcomes.{ok, raised}
use Rattle.herm_judge.specs.View.{table_of, variables_of}
use Rattle.herm_typed.specs.View.{typed_atom_view}
use Rattle.herm_flow.specs.View.{catch_view}
use Rattle.herm_flow.specs.CoveredExceptions.{AreCallNumbers}
use Rattle.herm_flow.proofs.calls.call_outcomes.Goals as goal

pub returns : goal.returns
returns c =
    record {
      outcomes = record {
        numbers = map (λ n. n.0) c.in_ok-numbers.numbers.items;
        outcomes_are = c.in_ok-found.ensures.outcomes ∙ ap (λ ns. ok ∷ map raised (map (λ n. n.0) ns)) c.as_slice.ensures.value;
        covering = subst (λ raises. AreCallNumbers (table_of c.args.frame.now) (variables_of c.args.frame.now) (map typed_atom_view c.args.arguments.now) (map catch_view c.args.catches.now) raises (map (λ n. n.0) c.in_ok-numbers.numbers.items)) c.call_raises-raises.ensures.raises (c.in_ok-numbers.ensures.numbers (table_of c.args.frame.now) (variables_of c.args.frame.now));
      };
    }
