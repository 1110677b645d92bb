use Rattle.herm_base.specs.declared.word.Name.{Name}
use Rattle.herm_meaning.specs.Marks.{key_marks}
use Rattle.herm_defs.proofs.Judging.{turn-next}
use Rattle.herm_defs.proofs.marks.judge_keys.Goals as goal

pub loop-place-preserved : goal.loop-place-preserved
loop-place-preserved c =
    turn-next c.args.context.now (λ (k : Name). k.text) (key_marks c.args.row.now.text) c.args.keys.now c.loop-place.place c.index-keys-place.result c.in_ok-names.names c.args.module_number c.args.faults.now.items c.loop-place.faults.items c.judge_key.new.faults.items c.in_ok-names.ensures c.loop-place-test.true c.index-keys-place.is c.loop-place.invariant c.in_ok-judge_key.ensures
