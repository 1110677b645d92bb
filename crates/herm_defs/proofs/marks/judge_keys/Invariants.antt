use Rattle.std.proofs.Common.{[], take}
use Rattle.herm_meaning.specs.Marks.{in_turn, key_marks}
use Rattle.herm_defs.specs.Judged.{Judges}
use Rattle.herm_defs.proofs.marks.judge_keys.Given as goal

abbrev pub invariant-loop-place : goal.invariant-loop-place
invariant-loop-place l = Judges l.context l.module_number (in_turn (λ k. k.text) (key_marks l.row.text) [] (take l.place l.keys)) l.fn.faults.items l.faults.items
