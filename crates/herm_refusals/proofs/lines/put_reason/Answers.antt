use Rattle.herm_edge.proofs.Putting.{put-both, put-short}
use Rattle.herm_refusals.proofs.lines.put_reason.Goals as goal

pub returns-in_err-put-clause-put : goal.returns-in_err-put-clause-put
returns-in_err-put-clause-put g c = put-short _ _ _ _ _ _ _ _ _ _ c.from_residual.ensures.0 c.in_err-put.ensures.put

pub returns-in_err-put_code-clause-put : goal.returns-in_err-put_code-clause-put
returns-in_err-put_code-clause-put g c =
    put-both _ _ _ _ _ _ _ _ _ _ _ _ c.in_ok-put.ensures.put
    (put-short _ _ _ _ _ _ _ _ _ _ c.from_residual-in_err-put_code.ensures.0 c.in_err-put_code.ensures.put)

pub returns-in_err-put-2-clause-put : goal.returns-in_err-put-2-clause-put
returns-in_err-put-2-clause-put g c =
    put-both _ _ _ _ _ _ _ _ _ _ _ _ c.in_ok-put.ensures.put
    (put-both _ _ _ _ _ _ _ _ _ _ _ _ c.in_ok-put_code.ensures.put
    (put-short _ _ _ _ _ _ _ _ _ _ c.from_residual-in_err-put-2.ensures.0 c.in_err-put-2.ensures.put))

pub returns-in_err-put_words-clause-put : goal.returns-in_err-put_words-clause-put
returns-in_err-put_words-clause-put g c =
    put-both _ _ _ _ _ _ _ _ _ _ _ _ c.in_ok-put.ensures.put
    (put-both _ _ _ _ _ _ _ _ _ _ _ _ c.in_ok-put_code.ensures.put
    (put-both _ _ _ _ _ _ _ _ _ _ _ _ c.in_ok-put-2.ensures.put
    (put-short _ _ _ _ _ _ _ _ _ _ c.from_residual-in_err-put_words.ensures.0 c.in_err-put_words.ensures.put)))

pub returns-clause-put : goal.returns-clause-put
returns-clause-put g c =
    put-both _ _ _ _ _ _ _ _ _ _ _ _ c.in_ok-put.ensures.put
    (put-both _ _ _ _ _ _ _ _ _ _ _ _ c.in_ok-put_code.ensures.put
    (put-both _ _ _ _ _ _ _ _ _ _ _ _ c.in_ok-put-2.ensures.put
    (put-both _ _ _ _ _ _ _ _ _ _ _ _ c.in_ok-put_words.ensures.put c.put-3.ensures.put)))
