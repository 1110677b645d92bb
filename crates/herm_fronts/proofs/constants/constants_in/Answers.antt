use Rattle.herm_code.specs.View.{const_view}
use Rattle.herm_fronts.proofs.Keys.{next_key}
use Rattle.herm_fronts.proofs.constants.constants_in.Goals as goal

pub places-preserved : goal.places-preserved
places-preserved c = next_key _ _ c.args.keys.now.keys c.places.place c.in-Some.key.now c.in-Some.ensures.key c.in_ok-push_constant.ensures c.places.invariant
