-- The image by hand is good, by computing.
use Rattle.std.proofs.Common.{◌≡◌, Bool, true, false, List, [], map, length, refl, sym, ap₂, subst}
use Rattle.herm_model.proofs.DecidedTables.{none-well_formed}
use Rattle.herm_model.specs.Types.{predefined}
use Rattle.herm_meaning.specs.Names.{NamedTable}
use Rattle.herm_instructions.specs.GoodCode.{IsGood}
use Rattle.herm_instructions.specs.Images as model
use Rattle.herm_instructions.proofs.DecidedCode.{test-images}
use Rattle.herm_code.specs.declared.modules.Const.{Const}
use Rattle.herm_code.specs.declared.modules.CodeModule.{CodeModule}
use Rattle.herm_code.specs.View.{module_view, const_view, code_image, image_view}
use Rattle.herm_code.proofs.Sampled.{bare}
use Rattle.herm_machine_tests.specs.ByHand.{hand_image}

hand-good : (x y : Bool) → IsGood 7 (hand_image x y)
hand-good true true = (test-images 7 (hand_image true true) ((none-well_formed 7 []).0 refl)).0 refl
hand-good true false = (test-images 7 (hand_image true false) ((none-well_formed 7 []).0 refl)).0 refl
hand-good false true = (test-images 7 (hand_image false true) ((none-well_formed 7 []).0 refl)).0 refl
hand-good false false = (test-images 7 (hand_image false false) ((none-well_formed 7 []).0 refl)).0 refl

-- parts that stand for those of the image by hand are good
pub hand-kept : (x y : Bool) (modules : List CodeModule) (constants : List Const) (types : NamedTable) → map module_view modules ≡ (hand_image x y).modules → map const_view constants ≡ (hand_image x y).constants → types ≡ bare
    → IsGood (length types.exceptions) (image_view (code_image modules constants types))
hand-kept x y modules constants types m c t =
    subst (λ (u : NamedTable). IsGood (length u.exceptions) (image_view (code_image modules constants u))) (sym t) (subst (IsGood 7) (sym same) (hand-good x y))
  where
    same : image_view (code_image modules constants bare) ≡ hand_image x y
    same = ap₂ (λ ms cs. let i : model.Image = record { modules = ms; constants = cs; types = predefined } in i) m c
