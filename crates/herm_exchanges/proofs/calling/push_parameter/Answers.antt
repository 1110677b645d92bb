use Rattle.std.proofs.Common.{map, true, sym, ap, subst}
use Rattle.herm_values.specs.View.{value_view, views_of}
use Rattle.herm_code.specs.View.{argument_view}
use Rattle.herm_code_machine.specs.CodeActions.{mode_of}
use Rattle.herm_exchanges.specs.Composed.{IsPushed}
use Rattle.herm_exchanges.proofs.Composed.{pushed_in, pushed_inout, pushed_out}
use Rattle.herm_exchanges.proofs.calling.push_parameter.Goals as goal

pub returns-in_ok-push_held-in-In-clause-pushed : goal.returns-in_ok-push_held-in-In-clause-pushed
returns-in_ok-push_held-in-In-clause-pushed c =
    subst
    (λ a. IsPushed true (mode_of (argument_view a)) (views_of c.args.params.now.items) (views_of c.push_held.new.params.items) (map value_view c.args.inputs.now.items) (map value_view c.args.moved.now.items) (map value_view c.pop_first.new.left.items) (map value_view c.args.moved.now.items))
    (sym c.in-In.is)
    (pushed_in (views_of c.args.params.now.items) (views_of c.push_held.new.params.items) (value_view c.in-Some.v) (map value_view c.args.inputs.now.items) (map value_view c.pop_first.new.left.items) (map value_view c.args.moved.now.items) (ap (map value_view) c.in-Some.ensures.items) c.in_ok-push_held-in-In.ensures.pushed)

pub returns-in_ok-push_held-in-Inout-clause-pushed : goal.returns-in_ok-push_held-in-Inout-clause-pushed
returns-in_ok-push_held-in-Inout-clause-pushed c =
    subst
    (λ a. IsPushed true (mode_of (argument_view a)) (views_of c.args.params.now.items) (views_of c.push_held-in-Inout.new.params.items) (map value_view c.args.inputs.now.items) (map value_view c.args.moved.now.items) (map value_view c.args.inputs.now.items) (map value_view c.pop_first-in-Inout.new.left.items))
    (sym c.in-Inout.is)
    (pushed_inout (views_of c.args.params.now.items) (views_of c.push_held-in-Inout.new.params.items) (value_view c.in-Some-pop_first.v) (map value_view c.args.inputs.now.items) (map value_view c.args.moved.now.items) (map value_view c.pop_first-in-Inout.new.left.items) (ap (map value_view) c.in-Some-pop_first.ensures.items) c.in_ok-push_held-in-Inout.ensures.pushed)

pub returns-in_ok-push_held-in-Out-clause-pushed : goal.returns-in_ok-push_held-in-Out-clause-pushed
returns-in_ok-push_held-in-Out-clause-pushed c =
    subst
    (λ a. IsPushed true (mode_of (argument_view a)) (views_of c.args.params.now.items) (views_of c.push_held-in-Out.new.params.items) (map value_view c.args.inputs.now.items) (map value_view c.args.moved.now.items) (map value_view c.args.inputs.now.items) (map value_view c.args.moved.now.items))
    (sym c.in-Out.is)
    (pushed_out (views_of c.args.params.now.items) (views_of c.push_held-in-Out.new.params.items) (map value_view c.args.inputs.now.items) (map value_view c.args.moved.now.items) c.in_ok-push_held-in-Out.ensures.pushed)
