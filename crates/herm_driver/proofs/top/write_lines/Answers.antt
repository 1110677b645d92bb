use Rattle.herm_driver.proofs.Written.{flushed-behind, flushed-short}
use Rattle.herm_driver.proofs.top.write_lines.Goals as goal

pub returns-in_err-put_refusals : goal.returns-in_err-put_refusals
returns-in_err-put_refusals g c = record { flushed = flushed-short _ _ _ _ _ _ _ _ _ c.from_residual.ensures.0 c.over-buffer.ensures.empty c.in_err-put_refusals.ensures.put }

pub returns : goal.returns
returns g c = record { flushed = flushed-behind _ _ _ _ _ _ _ _ _ _ c.over-buffer.ensures.empty c.in_ok-put_refusals.ensures.put c.flush.ensures.flushed }
