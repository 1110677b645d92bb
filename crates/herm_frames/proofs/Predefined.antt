-- The table of the predefined types alone keeps the rules.
use Rattle.std.proofs.Common.{◌≡◌, ◌<◌, ℕ, List, [], map, length, refl, sym, subst, arith, nat_lt}
use Rattle.std.specs.Str.{bytes_eq}
use Rattle.std.proofs.lemmas.Slice.Eq.{bytes_eq-Decides}
use Rattle.herm_model.specs.Statements.{Differ}
use Rattle.herm_model.specs.tests.TableTests.{are_different}
use Rattle.herm_model.proofs.Deciding.{different-decides, got-decides, below-decides}
use Rattle.herm_model.proofs.DecidedTables.{none-well_formed}
use Rattle.herm_meaning.specs.Names.{NamedTable, IsWellNamed}
use Rattle.herm_types.specs.Table.{defined_table, IsSized}
use Rattle.herm_types.specs.declared.shape.Shape.{Shape}

abbrev bare : NamedTable
bare = defined_table [] []

bare-well_named : IsWellNamed bare
bare-well_named = record {
  begins = (record { names = []; shapes = []; parts = []; exceptions = [] }, refl);
  well_formed = (none-well_formed 7 []).0 refl;
  name_each = refl;
  part_each = refl;
  names_differ = (different-decides bytes_eq bytes_eq-Decides bare.names).0 refl;
  exceptions_differ = (different-decides bytes_eq bytes_eq-Decides bare.exceptions).0 refl;
  parts_differ = (got-decides (are_different bytes_eq) (λ ps. Differ ps) (different-decides bytes_eq bytes_eq-Decides) bare.parts).0 refl;
}

bare-sized : IsSized bare
bare-sized = record {
  few = omega arith;
  few_parts = λ t ps e. let few = (got-decides (λ (qs : List (List ℕ)). nat_lt (length qs) 3) (λ (qs : List (List ℕ)). length qs < 3) (λ qs. below-decides (length qs) 3) bare.parts).0 refl t ps e in omega (arith, few);
}

pub empty-well_named : (defined : List (List ℕ × Shape)) (exceptions : List (List ℕ)) → defined ≡ [] → exceptions ≡ [] → IsWellNamed (defined_table defined exceptions)
empty-well_named defined exceptions d e = subst (λ es. IsWellNamed (defined_table defined es)) (sym e) (subst (λ ds. IsWellNamed (defined_table ds [])) (sym d) bare-well_named)

pub empty-sized : (defined : List (List ℕ × Shape)) (exceptions : List (List ℕ)) → defined ≡ [] → exceptions ≡ [] → IsSized (defined_table defined exceptions)
empty-sized defined exceptions d e = subst (λ es. IsSized (defined_table defined es)) (sym e) (subst (λ ds. IsSized (defined_table ds [])) (sym d) bare-sized)
