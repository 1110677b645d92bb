use Rattle.std.proofs.Common.{◌≡◌, ◌∷◌, Some}
use Rattle.herm_frames.specs.EmptyPlaces.{nothings}
use Rattle.herm_values.specs.declared.value.Value.TheVariants as values
use Rattle.herm_steps.proofs.stepping.first_places.Given as goal

abbrev pub invariant-others : goal.invariant-others
invariant-others l = l.places.items ≡ Some (values.Inport l.fn.port) ∷ nothings l._place
