use Rattle.herm_naming.proofs.Unrefused.{refusals-one}
use Rattle.herm_naming.proofs.laws.refusals_are_one.Goals as goal

pub returns : goal.returns
returns c = record { one = λ known modules places rs ss h k. refusals-one known modules places 0 rs ss h k }
