use Rattle.herm_syntax.specs.declared.definitions.Field.{Field}
use Rattle.herm_meaning.specs.Marks.{field_marks}
use Rattle.herm_defs.proofs.Judging.{turn-next}
use Rattle.herm_defs.proofs.marks.judge_fields.Goals as goal

pub loop-place-preserved : goal.loop-place-preserved
loop-place-preserved c =
    turn-next c.args.context.now (λ (f : Field). f.name.text) field_marks c.args.fields.now c.loop-place.place c.index-fields-place.result c.in_ok-names.names c.args.module_number c.args.faults.now.items c.loop-place.faults.items c.judge_field.new.faults.items c.in_ok-names.ensures c.loop-place-test.true c.index-fields-place.is c.loop-place.invariant c.in_ok-judge_field.ensures
