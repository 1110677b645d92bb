use Rattle.herm_edge.proofs.Putting.{put-both, put-short}
use Rattle.herm_refusals.proofs.lines.put_refusal.Goals as goal

pub returns-in_err-put_place-clause-put : goal.returns-in_err-put_place-clause-put
returns-in_err-put_place-clause-put g c = put-short _ _ _ _ _ _ _ _ _ _ c.from_residual.ensures.0 c.in_err-put_place.ensures.put

pub returns-clause-put : goal.returns-clause-put
returns-clause-put g c = put-both _ _ _ _ _ _ _ _ _ _ _ _ c.in_ok-put_place.ensures.put c.put_reason.ensures.put
