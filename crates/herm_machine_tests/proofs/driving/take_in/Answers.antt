use Rattle.std.proofs.Common.{refl}
use Rattle.herm_machine_tests.proofs.driving.take_in.Goals as goal

pub go_on-requires-clause-suits : goal.go_on-requires-clause-suits
go_on-requires-clause-suits c image main s at a h t = (c.if-suits.ensures.suits image main s at a h t).0 refl
