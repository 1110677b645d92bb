use Rattle.herm_base.specs.declared.word.Name.{Name}
use Rattle.herm_meaning.specs.Marks.{part_marks, kept_marks}
use Rattle.herm_defs.proofs.Judging.{turn-next}
use Rattle.herm_defs.proofs.marks.judge_parts.Goals as goal

pub loop-place-preserved : goal.loop-place-preserved
loop-place-preserved c = record {
  part = turn-next c.args.context.now (λ (n : Name). n.text) part_marks c.args.list.now c.loop-place.place c.index-list-place.result c.args.names.now c.args.module_number c.args.faults.now.items c.loop-place.faults.items c.judge_part.new.faults.items c.requires.names c.loop-place-test.true c.index-list-place.is c.loop-place.invariant.part c.in_ok-judge_part.ensures.part;
  kept = turn-next c.args.context.now (λ (n : Name). n.text) kept_marks c.args.list.now c.loop-place.place c.index-list-place.result c.args.names.now c.args.module_number c.args.faults.now.items c.loop-place.faults.items c.judge_part.new.faults.items c.requires.names c.loop-place-test.true c.index-list-place.is c.loop-place.invariant.kept c.in_ok-judge_part.ensures.kept;
}
