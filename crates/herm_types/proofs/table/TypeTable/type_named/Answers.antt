use Rattle.std.proofs.Common.{◌≡◌, ◌<◌, arith, length, ap, ℕ, Vec, Global, sym, ◌∙◌}
use Rattle.herm_meaning.specs.Names.{NamedTable}
use Rattle.herm_types.proofs.Tables.{place-in_names, map-length}
use Rattle.herm_types.proofs.table.TypeTable.type_named.Goals as goal

pub overflow_cast-result : goal.overflow_cast-result
overflow_cast-result c =
    omega (arith, c.in-Some.ensures.within, ap length c.self.invariant.indexed, map-length (λ (k : Vec ℕ Global). k.items) c.self.inside.index.keys, c.self.invariant.well_named.name_each, c.self.invariant.sized.few)

pub returns-in-Some : goal.returns-in-Some
returns-in-Some c = rw (← c.self.view_is) (c.in-Some.ensures.index ∙ place-in_names (λ (k : Vec ℕ Global). k.items) _ _ _ c.self.invariant.indexed)

pub returns-in-None : goal.returns-in-None
returns-in-None c = rw (← c.self.view_is) (c.in-None.ensures.index ∙ place-in_names (λ (k : Vec ℕ Global). k.items) _ _ _ c.self.invariant.indexed)
