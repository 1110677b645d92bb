-- The table by hand keeps the rules.
use Rattle.std.proofs.Common.{◌≡◌, ◌<◌, List, [], ◌∷◌, map, length, refl, ap, arith, nat_lt}
use Rattle.std.specs.Str.{bytes_eq}
use Rattle.std.proofs.lemmas.Slice.Eq.{bytes_eq-Decides}
use Rattle.herm_model.specs.Statements.{Differ}
use Rattle.herm_model.specs.tests.TableTests.{are_different}
use Rattle.herm_model.proofs.Deciding.{different-decides, got-decides, below-decides}
use Rattle.herm_model.proofs.DecidedTables.{none-well_formed}
use Rattle.herm_syntax.specs.Trees.{Letters}
use Rattle.herm_meaning.specs.Names.{behind_predefined, IsWellNamed}
use Rattle.herm_types.specs.declared.shape.Shape.{Shape}
use Rattle.herm_types.specs.View.{shape_view, parts_view}
use Rattle.herm_types.specs.Table.{defined_table, IsSized}
use Rattle.herm_suits_tests.specs.Sample.{sample_shapes, sample_table}

map-map : {X Y Z : Type 0} (f : Y → Z) (g : X → Y) (xs : List X) → map f (map g xs) ≡ map (λ x. f (g x)) xs
map-map f g [] = refl
map-map f g (x ∷ xs) = ap (f (g x) ∷◌) (map-map f g xs)

pub sample-is : (defined : List (Letters × Shape)) (exceptions : List Letters) → map (λ d. d.0) defined ≡ sample_table.names → map (λ d. shape_view d.1) defined ≡ sample_table.shapes → map (λ d. parts_view d.1) defined ≡ sample_table.parts → exceptions ≡ sample_table.exceptions → defined_table defined exceptions ≡ behind_predefined sample_table
sample-is defined exceptions n s p e = rw (n, map-map shape_view (λ d. d.1) defined, map-map parts_view (λ d. d.1) defined, s, p, e) refl

pub sample-well_named : IsWellNamed (behind_predefined sample_table)
sample-well_named = record {
  begins = (sample_table, refl);
  well_formed = (none-well_formed 8 sample_shapes).0 refl;
  name_each = refl;
  part_each = refl;
  names_differ = (different-decides bytes_eq bytes_eq-Decides (behind_predefined sample_table).names).0 refl;
  exceptions_differ = (different-decides bytes_eq bytes_eq-Decides (behind_predefined sample_table).exceptions).0 refl;
  parts_differ = (got-decides (are_different bytes_eq) (λ ps. Differ ps) (different-decides bytes_eq bytes_eq-Decides) (behind_predefined sample_table).parts).0 refl;
}

pub sample-sized : IsSized (behind_predefined sample_table)
sample-sized = record {
  few = omega arith;
  few_parts = λ t ps e. let few = (got-decides (λ (qs : List Letters). nat_lt (length qs) 3) (λ (qs : List Letters). length qs < 3) (λ qs. below-decides (length qs) 3) (behind_predefined sample_table).parts).0 refl t ps e in omega (arith, few);
}
