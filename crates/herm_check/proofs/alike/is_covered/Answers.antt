use Rattle.herm_check.proofs.alike.is_covered.Goals as goal

pub returns : goal.returns
returns c value = record { first = c.has_first.ensures c.if-not-has_first.false; group = c.has_group.ensures value }
