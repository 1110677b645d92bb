use Rattle.std.proofs.Common.{◌≡◌, ◌++◌, ◌∷◌, [], map, flat_map, drop, false}
use Rattle.herm_model.specs.Lists.{numbered}
use Rattle.herm_types.specs.View.{fact_view}
use Rattle.herm_typestate.specs.Facts.{has_fact}
use Rattle.herm_fronts.specs.Frames.{table_of, kinds}
use Rattle.herm_fronts.specs.Held.{held_from, held_through}
use Rattle.herm_fronts.proofs.held.held_through.Given as goal

abbrev pub invariant-variables : goal.invariant-variables
invariant-variables l =
    map fact_view l.out.items ++ flat_map (λ v. held_from (table_of l.frame) (has_fact l.state) l.depth false v.1 (v.0 ∷ [])) (numbered l.number (kinds (drop l.number l.frame.of.now)))
    ≡ held_through (table_of l.frame) (has_fact l.state) l.depth (kinds l.frame.of.now)
