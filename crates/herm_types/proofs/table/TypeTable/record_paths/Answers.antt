use Rattle.std.proofs.Common.{◌≡◌, ◌<◌, length, ap, arith, subst, sym}
use Rattle.herm_meaning.specs.Names.{NamedTable}
use Rattle.herm_types.specs.declared.shape.Shape.{Shape}
use Rattle.herm_types.specs.Table.{shapes_view}
use Rattle.herm_types.proofs.PathFacts.{shallow, all-paths}
use Rattle.herm_types.proofs.Few.{few-parts}
use Rattle.herm_types.proofs.table.TypeTable.record_paths.Goals as goal

pub paths_from-requires-clause-within : goal.paths_from-requires-clause-within
paths_from-requires-clause-within c =
    let same = ap (λ (t : NamedTable). length t.shapes) c.self.view_is in
    let there : c.args.t.0 < length (shapes_view c.self.inside.shapes.items) = omega (arith, same, c.requires) in
    rw c.as_slice.ensures.value (shallow _ _ _ c.self.invariant.well_named.well_formed there)

pub paths_from-requires-clause-few : goal.paths_from-requires-clause-few
paths_from-requires-clause-few c = rw c.as_slice.ensures.value (few-parts _ c.self.inside.shapes.items c.self.invariant.well_named.well_formed)

pub returns : goal.returns
returns c = rw (← c.self.view_is, ← c.as_slice.ensures.value) (all-paths _ c.args.t.0 _ c.in_ok-paths.ensures)
