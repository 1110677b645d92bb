use Rattle.herm_code.proofs.Sampled.{sample-kept}
use Rattle.herm_code.proofs.tests.image.Goals as goal

pub new-requires : goal.new-requires
new-requires c = record { good = sample-kept c.in_ok-modules.modules.items c.in_ok-constants.constants.items c.in_ok-types.types c.in_ok-modules.ensures c.in_ok-constants.ensures c.in_ok-types.ensures }
