use Rattle.std.proofs.Common.{[], take}
use Rattle.herm_meaning.specs.Marks.{in_turn, part_marks, kept_marks}
use Rattle.herm_defs.specs.Judged.{Judges}
use Rattle.herm_defs.proofs.marks.judge_parts.Given as goal

abbrev pub invariant-loop-place : goal.invariant-loop-place
invariant-loop-place l = record {
  part : Judges l.context l.module_number (in_turn (λ n. n.text) part_marks [] (take l.place l.list)) l.fn.faults.items l.faults.items;
  kept : Judges l.context l.module_number (in_turn (λ n. n.text) kept_marks [] (take l.place l.list)) l.fn.faults.items l.faults.items;
}
