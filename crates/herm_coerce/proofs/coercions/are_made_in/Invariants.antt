use Rattle.std.proofs.Common.{◌≡◌, true, map, take}
use Rattle.herm_model.specs.Lists.{any_pass}
use Rattle.herm_model.specs.Paths.{Fact, same_fact}
use Rattle.herm_types.specs.View.{fact_view}
use Rattle.herm_typestate.specs.Facts.{has_fact}
use Rattle.herm_coerce.proofs.coercions.are_made_in.Given as goal

abbrev pub invariant-loop-fact : goal.invariant-loop-fact
invariant-loop-fact l = (f : Fact) → any_pass (same_fact f) (map fact_view (take l.fact-index l.makes)) ≡ true → has_fact l.low f ≡ true
