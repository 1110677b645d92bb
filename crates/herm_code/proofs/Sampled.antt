-- The image by hand is good, by computing.
use Rattle.std.proofs.Common.{◌≡◌, ◌<◌, List, [], map, length, refl, sym, ap₂, subst, arith, nat_lt}
use Rattle.std.specs.Str.{bytes_eq}
use Rattle.std.proofs.lemmas.Slice.Eq.{bytes_eq-Decides}
use Rattle.herm_model.specs.Statements.{Differ}
use Rattle.herm_model.specs.tests.TableTests.{are_different}
use Rattle.herm_model.proofs.Deciding.{different-decides, got-decides, below-decides}
use Rattle.herm_model.proofs.DecidedTables.{none-well_formed}
use Rattle.herm_syntax.specs.Trees.{Letters}
use Rattle.herm_meaning.specs.Names.{NamedTable, IsWellNamed}
use Rattle.herm_types.specs.Table.{defined_table, IsSized}
use Rattle.herm_instructions.specs.GoodCode.{IsGood}
use Rattle.herm_instructions.proofs.DecidedCode.{test-images}
use Rattle.herm_model.specs.Types.{predefined}
use Rattle.herm_types.specs.declared.shape.Shape.{Shape}
use Rattle.herm_instructions.specs.Images as model
use Rattle.herm_code.specs.declared.modules.Const.{Const}
use Rattle.herm_code.specs.declared.modules.CodeModule.{CodeModule}
use Rattle.herm_code.specs.View.{module_view, const_view, code_image, image_view}
use Rattle.herm_code.specs.Sample.{sample_image}

abbrev pub bare : NamedTable
bare = defined_table [] []

pub bare-well_named : IsWellNamed bare
bare-well_named = record {
  begins = (record { names = []; shapes = []; parts = []; exceptions = [] }, refl);
  well_formed = (none-well_formed 7 []).0 refl;
  name_each = refl;
  part_each = refl;
  names_differ = (different-decides bytes_eq bytes_eq-Decides bare.names).0 refl;
  exceptions_differ = (different-decides bytes_eq bytes_eq-Decides bare.exceptions).0 refl;
  parts_differ = (got-decides (are_different bytes_eq) (λ ps. Differ ps) (different-decides bytes_eq bytes_eq-Decides) bare.parts).0 refl;
}

pub bare-sized : IsSized bare
bare-sized = record {
  few = omega arith;
  few_parts = λ t ps e. let few = (got-decides (λ (qs : List Letters). nat_lt (length qs) 3) (λ (qs : List Letters). length qs < 3) (λ qs. below-decides (length qs) 3) bare.parts).0 refl t ps e in omega (arith, few);
}

pub sample-good : IsGood 7 sample_image
sample-good = (test-images 7 sample_image ((none-well_formed 7 []).0 refl)).0 refl

pub empty-well_named : (defined : List (Letters × Shape)) (exceptions : List Letters) → defined ≡ [] → exceptions ≡ [] → IsWellNamed (defined_table defined exceptions)
empty-well_named defined exceptions d e = subst (λ es. IsWellNamed (defined_table defined es)) (sym e) (subst (λ ds. IsWellNamed (defined_table ds [])) (sym d) bare-well_named)

-- parts that stand for those of the image by hand are good
pub sample-kept : (modules : List CodeModule) (constants : List Const) (types : NamedTable) → map module_view modules ≡ sample_image.modules → map const_view constants ≡ sample_image.constants → types ≡ bare
    → IsGood (length types.exceptions) (image_view (code_image modules constants types))
sample-kept modules constants types m c t = subst (λ (u : NamedTable). IsGood (length u.exceptions) (image_view (code_image modules constants u))) (sym t) (subst (IsGood 7) (sym same) sample-good)
  where
    same : image_view (code_image modules constants bare) ≡ sample_image
    same = ap₂ (λ ms cs. let i : model.Image = record { modules = ms; constants = cs; types = predefined } in i) m c
