use Rattle.std.proofs.Common.{rules, refl, ◌≡◌, ◌<◌, arith, length, map, ap, sym, subst, slice_get, Some, ℕ, List, [], ◌∷◌, is_some, IsTrue}
use Rattle.std.proofs.lemmas.Option.{slice_get_read, slice_get-get_or}
use Rattle.herm_meaning.specs.Names.{NamedTable}
use Rattle.herm_model.specs.Types.{greatest_depth, is_within_depth}
use Rattle.herm_types.specs.Table.{shapes_view}
use Rattle.herm_types.specs.View.{shape_view}
use Rattle.herm_types.proofs.Tables.{tests-copyable, map-length}
use Rattle.herm_types.proofs.table.TypeTable.is_copyable.Goals as goal

known : {X : Type 0} (xs : List X) (t : ℕ) → t < length xs → IsTrue (is_some (slice_get xs t))
known [] t l = absurd (omega (arith, l))
known (x ∷ xs) t l = ap is_some (slice_get-get_or (x ∷ xs) t x l)

pub index-requires : goal.index-requires
index-requires c =
    let same = ap (λ (t : NamedTable). length t.shapes) c.self.view_is in
    omega (arith, c.self.invariant.tested, same, c.requires, map-length shape_view c.self.inside.shapes.items)

pub returns : goal.returns
returns c =
    let same = ap (λ (t : NamedTable). length t.shapes) c.self.view_is in
    let within : c.args.t.0 < length c.self.inside.copyable.items = omega (arith, c.self.invariant.tested, same, c.requires, map-length shape_view c.self.inside.shapes.items) in
    let read : slice_get c.self.inside.copyable.items c.args.t.0 ≡ Some c.index.result.now = slice_get_read _ _ _ _ refl within c.index.ensures in
    let there : c.args.t.0 < length (shapes_view c.self.inside.shapes.items) = omega (arith, same, c.requires) in
    rw (← c.self.view_is) (tests-copyable greatest_depth (shapes_view c.self.inside.shapes.items) _ c.args.t.0 _ c.self.invariant.copyable (c.self.invariant.well_named.well_formed.shallow c.args.t.0 (known (shapes_view c.self.inside.shapes.items) c.args.t.0 there)) read)
