use Rattle.herm_process.proofs.settling.goes_on_with.Goals as goal

pub returns : goal.returns
returns c = record { suits = λ image main s at a h tells. c.suits.ensures.suits image main s at a h tells }
