use Rattle.herm_edge.proofs.Putting.{put-cut, put-behind}
use Rattle.herm_edge.proofs.buffered.put.Goals as goal

pub returns-in_err-flush-clause-put : goal.returns-in_err-flush-clause-put
returns-in_err-flush-clause-put g c = put-cut _ _ _ _ _ _ _ _ _ c.from_residual.ensures.0 c.in_err-flush.ensures.flushed

pub returns-clause-put : goal.returns-clause-put
returns-clause-put g c = put-behind _ _ _ _ _ _ _ _ _ _ c.in_ok-flush.ensures.flushed c.put_first.ensures.put
