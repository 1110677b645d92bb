use Rattle.std.proofs.Common.{[], take}
use Rattle.herm_meaning.specs.Marks.{in_turn, param_marks}
use Rattle.herm_defs.specs.Judged.{Judges}
use Rattle.herm_defs.proofs.marks.judge_params.Given as goal

abbrev pub invariant-loop-place : goal.invariant-loop-place
invariant-loop-place l = Judges l.context l.module_number (in_turn (λ p. p.field.name.text) param_marks [] (take l.place l.params)) l.fn.faults.items l.faults.items
