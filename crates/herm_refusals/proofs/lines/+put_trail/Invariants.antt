use Rattle.herm_refusals.proofs.lines.+put_trail.Given as goal

abbrev pub decreases-put_trail : goal.decreases-put_trail
decreases-put_trail g l = l.place
