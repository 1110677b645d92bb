use Rattle.std.proofs.Common.{◌∙◌}
use Rattle.herm_syntax.specs.declared.definitions.ParamForm.{ParamForm}
use Rattle.herm_meaning.specs.Marks.{param_marks}
use Rattle.herm_defs.proofs.Judging.{turn-next, param-names}
use Rattle.herm_defs.proofs.marks.judge_params.Goals as goal

pub loop-place-preserved : goal.loop-place-preserved
loop-place-preserved c =
    turn-next c.args.context.now (λ (p : ParamForm). p.field.name.text) param_marks c.args.params.now c.loop-place.place c.index-params-place.result c.in_ok-names.names c.args.module_number c.args.faults.now.items c.loop-place.faults.items c.judge_param.new.faults.items (c.in_ok-names.ensures ∙ param-names c.args.params.now) c.loop-place-test.true c.index-params-place.is c.loop-place.invariant c.in_ok-judge_param.ensures
