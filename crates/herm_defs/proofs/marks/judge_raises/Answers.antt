use Rattle.herm_syntax.specs.declared.definitions.RaiseForm.{RaiseForm}
use Rattle.herm_meaning.specs.Marks.{raise_marks}
use Rattle.herm_defs.proofs.Judging.{turn-next}
use Rattle.herm_defs.proofs.marks.judge_raises.Goals as goal

pub loop-place-preserved : goal.loop-place-preserved
loop-place-preserved c =
    turn-next c.args.context.now (λ (r : RaiseForm). r.name.text) raise_marks c.args.raises.now c.loop-place.place c.index-raises-place.result c.in_ok-names.names c.args.module_number c.args.faults.now.items c.loop-place.faults.items c.judge_raise.new.faults.items c.in_ok-names.ensures c.loop-place-test.true c.index-raises-place.is c.loop-place.invariant c.in_ok-judge_raise.ensures
