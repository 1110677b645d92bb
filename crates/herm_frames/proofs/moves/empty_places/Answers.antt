use Rattle.std.proofs.Common.{None, sym, subst, ◌++◌, ◌∷◌, [], ap, ◌∙◌}
use Rattle.herm_values.specs.Whole.{AllWhole}
use Rattle.herm_frames.proofs.Moved.{one_nothing, nothings_whole}
use Rattle.herm_frames.proofs.moves.empty_places.Goals as goal

pub places-preserved : goal.places-preserved
places-preserved c = c.in_ok-push.ensures.items ∙ ap (λ vs. vs ++ None ∷ []) c.places.invariant ∙ one_nothing c.places._place

pub returns-clause-whole : goal.returns-clause-whole
returns-clause-whole c = subst AllWhole (sym c.places.invariant) (nothings_whole c.places._place)
