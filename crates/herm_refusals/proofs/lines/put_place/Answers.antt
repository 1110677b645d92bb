use Rattle.herm_edge.proofs.Putting.{put-both, put-short, put-as}
use Rattle.herm_refusals.proofs.Joining.{place-spot}
use Rattle.herm_refusals.proofs.lines.put_place.Goals as goal

pub returns-in_err-put-clause-put : goal.returns-in_err-put-clause-put
returns-in_err-put-clause-put g c =
    put-as _ _ _ _ _ _ _ _ _ (place-spot c.args.names.now c.args.fault.now _ c.if-fault-eq0.false c.name_of.ensures)
    (put-short _ _ _ _ _ _ _ _ _ _ c.from_residual.ensures.0 c.in_err-put.ensures.put)

pub returns-clause-put : goal.returns-clause-put
returns-clause-put g c =
    put-as _ _ _ _ _ _ _ _ _ (place-spot c.args.names.now c.args.fault.now _ c.if-fault-eq0.false c.name_of.ensures)
    (put-both _ _ _ _ _ _ _ _ _ _ _ _ c.in_ok-put.ensures.put c.put_spot.ensures.put)
