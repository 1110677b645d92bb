use Rattle.herm_edge.proofs.Putting.{put-both, put-short}
use Rattle.herm_refusals.proofs.lines.put_spot.Goals as goal

pub returns-in_err-put-clause-put : goal.returns-in_err-put-clause-put
returns-in_err-put-clause-put g c = put-short _ _ _ _ _ _ _ _ _ _ c.from_residual.ensures.0 c.in_err-put.ensures.put

pub returns-in_err-put_number-clause-put : goal.returns-in_err-put_number-clause-put
returns-in_err-put_number-clause-put g c =
    put-both _ _ _ _ _ _ _ _ _ _ _ _ c.in_ok-put.ensures.put
    (put-short _ _ _ _ _ _ _ _ _ _ c.from_residual-in_err-put_number.ensures.0 c.in_err-put_number.ensures.put)

pub returns-in_err-put-2-clause-put : goal.returns-in_err-put-2-clause-put
returns-in_err-put-2-clause-put g c =
    put-both _ _ _ _ _ _ _ _ _ _ _ _ c.in_ok-put.ensures.put
    (put-both _ _ _ _ _ _ _ _ _ _ _ _ c.in_ok-put_number.ensures.put
    (put-short _ _ _ _ _ _ _ _ _ _ c.from_residual-in_err-put-2.ensures.0 c.in_err-put-2.ensures.put))

pub returns-clause-put : goal.returns-clause-put
returns-clause-put g c =
    put-both _ _ _ _ _ _ _ _ _ _ _ _ c.in_ok-put.ensures.put
    (put-both _ _ _ _ _ _ _ _ _ _ _ _ c.in_ok-put_number.ensures.put
    (put-both _ _ _ _ _ _ _ _ _ _ _ _ c.in_ok-put-2.ensures.put c.put_number-2.ensures.put))
