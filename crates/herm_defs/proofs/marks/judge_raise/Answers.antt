use Rattle.std.proofs.Common.{[], take, subst, List}
use Rattle.herm_base.specs.declared.word.Name.{Name}
use Rattle.herm_meaning.specs.Marks.{mark, in_turn, a_raised, kept_marks}
use Rattle.herm_defs.specs.Judged.{Judges}
use Rattle.herm_defs.proofs.Judging.{judged, judges-then}
use Rattle.herm_defs.proofs.marks.judge_raise.Goals as goal

pub returns : goal.returns
returns c =
    judges-then c.args.context.now c.args.module_number (mark c.args.raise.now.name (a_raised (take c.args.place c.args.names.now))) (in_turn (λ (k : Name). k.text) kept_marks [] c.args.raise.now.keeps.items) c.args.faults.now.items c.push.new.faults.items c.judge_parts.new.faults.items
    (judged c.args.context.now c.args.module_number c.args.raise.now.name (a_raised (take c.args.place c.args.names.now)) c.raised_code.result c.args.faults.now.items c.push.new.faults.items c.raised_code.ensures c.in_ok-push.ensures)
    (subst (λ (ks : List Name). Judges c.args.context.now c.args.module_number (in_turn (λ (k : Name). k.text) kept_marks [] ks) c.push.new.faults.items c.judge_parts.new.faults.items) c.as_slice-2.ensures.value c.in_ok-judge_parts.ensures.kept)
