use Rattle.std.proofs.Common.{◌≡◌, ◌++◌, [], ◌∷◌, map, take, drop, false}
use Rattle.herm_model.specs.Facts as facts
use Rattle.herm_types.specs.View.{fact_view}
use Rattle.herm_types.specs.Table.{shapes_view}
use Rattle.herm_types.specs.Messages.{number_of}
use Rattle.herm_types.proofs.messages.push_facts_to.Given as goal

abbrev pub invariant-loop-place : goal.invariant-loop-place
invariant-loop-place l =
    map fact_view l.out.items ++ facts.facts_from (shapes_view l.shapes) (l.var.0 ∷ take l.place l.parts) (number_of l.t) l.within (drop l.place l.parts)
    ≡ map fact_view l.fn.out.items ++ facts.facts_from (shapes_view l.shapes) (l.var.0 ∷ []) (number_of l.fn.of) false l.parts
