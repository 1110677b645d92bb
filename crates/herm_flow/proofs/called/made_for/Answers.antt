use Rattle.herm_flow.proofs.Marked.{named_is_marked}
use Rattle.herm_flow.proofs.called.made_for.Goals as goal

pub returns : goal.returns
returns c = record { made = λ i named. c.in_ok-made.ensures.made i (named_is_marked c.in_ok-marks.marks.items c.as_slice.result.now _ c.args.edges.now c.as_slice.ensures.value c.in_ok-marks.ensures.marked i named) }
