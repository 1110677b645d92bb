-- What coercions of the code stand for.
use Rattle.std.specs.Prelude.{map}
use Rattle.herm_types.specs.View.{path_view}
use Rattle.herm_coerce.specs.declared.coercions.Coercions.{Coercions}
use Rattle.herm_coerce.specs.Coerced.{Coerced}

abbrev pub coercions_view : Coercions → Coerced
coercions_view c = record { entry = map path_view c.entry.items; at = map (λ p. map (λ e. map path_view e.items) p.items) c.at.items }
