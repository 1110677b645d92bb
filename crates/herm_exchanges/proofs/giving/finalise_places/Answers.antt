use Rattle.std.proofs.Common.{subst}
use Rattle.herm_forms.specs.Frames.{finalise_parts}
use Rattle.herm_values.specs.Parts.{parts_from}
use Rattle.herm_values.specs.View.{views_of}
use Rattle.herm_exchanges.proofs.TakenOut.{PartsOn, parts_one}
use Rattle.herm_exchanges.proofs.giving.finalise_places.Goals as goal

pub places-preserved : goal.places-preserved
places-preserved c = λ s h.
    parts_one c.places.frame c.finalise_held.new.frame c.in-Some.held c.pop_front.new.self.items (finalise_parts (parts_from (views_of c.from-left.result.items)) s) c.in_ok-finalise_held.ensures.stands
    (subst (λ xs. PartsOn c.places.frame xs (finalise_parts (parts_from (views_of c.from-left.result.items)) s)) c.in-Some.ensures.items (c.places.invariant s h))
