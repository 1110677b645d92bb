use Rattle.std.proofs.Common.{[]}
use Rattle.herm_meaning.specs.Marks.{in_turn, param_marks, raise_marks}
use Rattle.herm_defs.proofs.Judging.{judges-then}
use Rattle.herm_defs.proofs.marks.judge_call.Goals as goal

pub returns : goal.returns
returns c =
    judges-then c.args.context.now c.args.module_number (in_turn (λ p. p.field.name.text) param_marks [] c.args.params.now) (in_turn (λ r. r.name.text) raise_marks [] c.args.raises.now) c.args.faults.now.items c.judge_params.new.faults.items c.judge_raises.new.faults.items c.in_ok-judge_params.ensures c.in_ok-judge_raises.ensures
